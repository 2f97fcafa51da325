use Rattle.std.proofs.Common.{◌≡◌, ◌++◌, Bool, false, List, ℕ, length, take, sym, ap, subst, ◌∙◌, arith, Option}
use Rattle.std.proofs.lemmas.List.{take_all}
use Rattle.opgp_document.specs.CanonicalText.{IsLastReturn}
use Rattle.opgp_document.specs.Text.{ends_cr}
use Rattle.opgp_document.proofs.Reading.{after_so, ends_none, ends_so, last_at, read_on}
use Rattle.opgp_document.proofs.canonical_text.CanonicalText.pass.Goals as goal
use Rattle.opgp_document.proofs.canonical_text.CanonicalText.pass.Goals.{then-is_behind_cr, else-is_behind_cr}

pub returns : goal.returns
returns c = λ d read clean.
    let o : List ℕ = c.args.piece.now in
    let whole : take (length o) o ≡ o = take_all (length o) o (omega arith) in
    let after : c.is_some-after_cr.result ≡ ends_cr false d = after_so c.args.self.now.last_return d c.is_some-after_cr.result c.is_some-after_cr.ensures read.last_return in
    let behind : c.is_behind_cr.result ≡ ends_cr (ends_cr false d) o =
    c.is_behind_cr.ensures ∙ ap (λ (x : List ℕ). ends_cr c.is_some-after_cr.result x) whole ∙ ap (λ (b : Bool). ends_cr b o) after in
    let last : IsLastReturn c.if-is_behind_cr.self (d ++ o) = elim c.if-is_behind_cr.branch [
      | then-is_behind_cr w ↦
          let ends = sym behind ∙ w.if-is_behind_cr.true in
          let place = w.place_before.ensures d read (λ z. sym (ends_none (ends_cr false d) o z) ∙ ends) in
          subst (λ (x : Option ℕ). IsLastReturn x (d ++ o)) (sym w.self-is) (ends_so d o _ ends, last_at d o w.place_before.result place)
      | else-is_behind_cr w ↦
          subst (λ (x : Option ℕ). IsLastReturn x (d ++ o)) (sym w.self-is) (ends_so d o _ (sym behind ∙ w.if-is_behind_cr.false))
    ] in
    read_on c.args.self.now d o c.saturating_add-self.result c.if-is_behind_cr.self read clean c.saturating_add-self.ensures last
