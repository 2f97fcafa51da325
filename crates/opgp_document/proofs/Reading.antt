-- What was read of a document, a piece further.
use Rattle.std.proofs.Common.{◌≡◌, ◌+◌, ◌-◌, ℕ, Bool, true, false, List, [], ◌∷◌, ◌++◌, length, min, Option, Some, None, is_some}
use Rattle.std.proofs.Common.{refl, sym, ap, subst, ◌∙◌, arith, length-append}
use Rattle.opgp_document.specs.CanonicalText.{IsLastReturn, IsRead, last_place}
use Rattle.opgp_document.specs.Text.{ends_cr, has_stray}
use Rattle.opgp_document.specs.declared.canonical_text.CanonicalText.{CanonicalText}
use Rattle.opgp_document.proofs.Stray.{or_false}
use Rattle.opgp_document.proofs.Text.{ends_append, stray_append}

pub ends_none : (b : Bool) (o : List ℕ) → length o ≡ 0 → ends_cr b o ≡ b
ends_none b [] z = refl
ends_none b (c ∷ o) z = absurd (omega (arith, z))

-- at the end of a piece: a carriage return, or another octet
pub ends_so : (d piece : List ℕ) (k : Bool) → ends_cr (ends_cr false d) piece ≡ k → ends_cr false (d ++ piece) ≡ k
ends_so d piece k e = ends_append false d piece ∙ e

pub last_at : (d piece : List ℕ) (pos : ℕ) → pos ≡ min (length d + length piece - 1) last_place → pos ≡ min (length (d ++ piece) - 1) last_place
last_at d piece pos e = e ∙ ap (λ (n : ℕ). min (n - 1) last_place) (sym (length-append d piece))

pub read_on : (t : CanonicalText) (d piece : List ℕ) (given : ℕ) (last : Option ℕ) → IsRead t d → has_stray (ends_cr false d) piece ≡ false
    → given ≡ min (t.given + length piece) last_place → IsLastReturn last (d ++ piece)
    → IsRead (record { given = given; last_return = last }) (d ++ piece)
read_on t d piece given last read clean count returns = record {
  clean = stray_append false d piece ∙ or_false (has_stray false d) (has_stray (ends_cr false d) piece) read.clean clean;
  given = omega (arith, count, read.given, length-append d piece);
  last_return = returns;
}

-- whether a carriage return comes last, as the place is told
pub ended_so : (last : Option ℕ) (d : List ℕ) (pos : ℕ) → last ≡ Some pos → IsLastReturn last d
    → (ends_cr false d ≡ true) × (pos ≡ min (length d - 1) last_place)
ended_so last d pos e h = subst (λ (x : Option ℕ). IsLastReturn x d) e h

pub ended_other : (last : Option ℕ) (d : List ℕ) → last ≡ None → IsLastReturn last d → ends_cr false d ≡ false
ended_other last d e h = subst (λ (x : Option ℕ). IsLastReturn x d) e h

pub after_so : (last : Option ℕ) (d : List ℕ) (b : Bool) → b ≡ is_some last → IsLastReturn last d → b ≡ ends_cr false d
after_so None d b e h = e ∙ sym h
after_so (Some pos) d b e h = e ∙ sym h.0
