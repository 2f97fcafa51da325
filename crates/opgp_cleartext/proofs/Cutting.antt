-- Texts cut at their first line feed, or comma, by its place.
use Rattle.std.proofs.Common.{◌≡◌, ℕ, zero, suc, ◌+◌, ◌-◌, ◌<◌, ◌==◌, true, false, List, [], ◌∷◌, ◌++◌, length, take, drop, slice_index, refl, sym, ap, ◌∙◌, arith, inl, inr}
use Rattle.std.proofs.lemmas.Bool.{cases_Bool, eqb-true}
use Rattle.std.proofs.Common.{Bool, ◌&&◌, Err, if◌then◌else◌, nat_eq}
use Rattle.std.proofs.lemmas.List.{take_all, take-append-drop, drop_all, drop_more, drop-drop}
use Rattle.std.specs.List.{starts_with}
use Rattle.std.specs.Str.{bytes_eq}
use Rattle.opgp_armor.specs.Text.{begin_mark}
use Rattle.opgp_octets.specs.declared.fault.Reason.TheVariants as reason
use Rattle.opgp_cleartext.specs.Cleartext.{message_line}
use Rattle.opgp_cleartext.specs.Machine.{front_end}
use Rattle.opgp_armor.specs.Cuts.{is_plain}
use Rattle.opgp_armor.specs.Text.{Line, lines, onto}
use Rattle.opgp_armor.proofs.Texts.{lines-cons, lines-feed, lines-nil}
use Rattle.opgp_cleartext.specs.Hashes.{behind_blanks, parts}
use Rattle.opgp_cleartext.specs.Line.{has_return, is_blank, is_return, without_return}
use Rattle.opgp_cleartext.proofs.Blanks.{front_more}

plain_other : (c : ℕ) → (c == 10) ≡ false → is_plain c ≡ true
plain_other c n = rw n refl

-- nothing in front of this place is the octet
abbrev pub NoneTill : ℕ → ℕ → List ℕ → Type 0
NoneTill octet i o = (k : ℕ) → k < i → (slice_index o k == octet) ≡ true → ⊥

none_behind : (octet i : ℕ) (x : ℕ) (o : List ℕ) → NoneTill octet (suc i) (x ∷ o) → NoneTill octet i o
none_behind octet i x o none = λ k l e. none (suc k) (omega arith) e

pub line_cut : (o : List ℕ) (i : ℕ) → i < length o → NoneTill 10 i o → (slice_index o i == 10) ≡ true → lines o ≡ take i o ∷ lines (drop (suc i) o)
line_cut [] i lt none found = absurd (omega arith)
line_cut (x ∷ o) zero lt none found = ap (λ (v : ℕ). lines (v ∷ o)) (eqb-true x 10 found) ∙ lines-feed o
line_cut (x ∷ o) (suc i) lt none found = elim (cases_Bool (x == 10)) [
  | inl y ↦ absurd (none 0 (omega arith) y)
  | inr n ↦ lines-cons x o (plain_other x n) ∙ ap (onto x) (line_cut o i (omega arith) (none_behind 10 i x o none) found)
]

pub line_last : (x : ℕ) (o : List ℕ) → NoneTill 10 (length (x ∷ o)) (x ∷ o) → lines (x ∷ o) ≡ (x ∷ o) ∷ []
line_last x [] none = elim (cases_Bool (x == 10)) [
  | inl y ↦ absurd (none 0 (omega arith) y)
  | inr n ↦ lines-cons x [] (plain_other x n) ∙ ap (onto x) lines-nil
]
line_last x (y ∷ o) none = elim (cases_Bool (x == 10)) [
  | inl e ↦ absurd (none 0 (omega arith) e)
  | inr n ↦ lines-cons x (y ∷ o) (plain_other x n) ∙ ap (onto x) (line_last y o (none_behind 10 (length (y ∷ o)) x (y ∷ o) none))
]

pub line_alone : (o : List ℕ) → (length o ≡ 0 → ⊥) → NoneTill 10 (length o) o → lines o ≡ o ∷ []
line_alone [] some none = absurd (some refl)
line_alone (x ∷ o) some none = line_last x o none

pub line_none : (o : List ℕ) → length o ≡ 0 → lines o ≡ []
line_none [] e = lines-nil
line_none (x ∷ o) e = absurd (omega arith)

-- ---- commas
pub part_cut : (o : List ℕ) (i : ℕ) → i < length o → NoneTill 44 i o → (slice_index o i == 44) ≡ true → parts o ≡ take i o ∷ parts (drop (suc i) o)
unfolding parts
part_cut [] i lt none found = absurd (omega arith)
part_cut (x ∷ o) zero lt none found = rw found refl
part_cut (x ∷ o) (suc i) lt none found = elim (cases_Bool (x == 44)) [
  | inl y ↦ absurd (none 0 (omega arith) y)
  | inr n ↦ rw n (ap (onto x) (part_cut o i (omega arith) (none_behind 44 i x o none) found))
]

pub part_last : (o : List ℕ) → NoneTill 44 (length o) o → parts o ≡ o ∷ []
unfolding parts
part_last [] none = refl
part_last (x ∷ o) none = elim (cases_Bool (x == 44)) [
  | inl y ↦ absurd (none 0 (omega arith) y)
  | inr n ↦ rw n (ap (onto x) (part_last o (none_behind 44 (length o) x o none)))
]

-- ---- carriage returns
pub no_return : (o : List ℕ) → NoneTill 13 (length o) o → has_return o ≡ false
no_return [] none = refl
no_return (x ∷ o) none = elim (cases_Bool (x == 13)) [
  | inl y ↦ absurd (none 0 (omega arith) y)
  | inr n ↦ rw n (no_return o (none_behind 13 (length o) x o none))
]

return_cut : (a : List ℕ) (c : ℕ) → is_return c ≡ true → without_return (a ++ c ∷ []) ≡ a
unfolding without_return
return_cut [] c h = rw h refl
return_cut (x ∷ []) c h = rw h refl
return_cut (x ∷ y ∷ a) c h = ap (λ (o : List ℕ). x ∷ o) (return_cut (y ∷ a) c h)

other_kept : (a : List ℕ) (c : ℕ) → is_return c ≡ false → without_return (a ++ c ∷ []) ≡ a ++ c ∷ []
unfolding without_return
other_kept [] c h = rw h refl
other_kept (x ∷ []) c h = rw h refl
other_kept (x ∷ y ∷ a) c h = ap (λ (o : List ℕ). x ∷ o) (other_kept (y ∷ a) c h)

from_end : (l : List ℕ) (n : ℕ) → n ≡ length l → 0 < n → l ≡ take (n - 1) l ++ slice_index l (n - 1) ∷ []
from_end l n e some = sym (take_all n l (omega arith)) ∙ front_more l n some (omega arith)

pub without_last : (l : List ℕ) (n : ℕ) → n ≡ length l → 0 < n → (slice_index l (n - 1) == 13) ≡ true → take (n - 1) l ≡ without_return l
without_last l n e some h = sym (ap without_return (from_end l n e some) ∙ return_cut (take (n - 1) l) (slice_index l (n - 1)) h)

pub with_last : (l : List ℕ) (n : ℕ) → n ≡ length l → 0 < n → (slice_index l (n - 1) == 13) ≡ false → l ≡ without_return l
with_last l n e some h = from_end l n e some ∙ sym (ap without_return (from_end l n e some) ∙ other_kept (take (n - 1) l) (slice_index l (n - 1)) h)

pub without_none : (l : List ℕ) → length l ≡ 0 → l ≡ without_return l
unfolding without_return
without_none [] e = refl
without_none (x ∷ l) e = absurd (omega arith)

-- ---- from a place on
pub line_found : (text rest : List ℕ) (at size : ℕ) → rest ≡ drop at text → size < length rest → NoneTill 10 size rest → (slice_index rest size == 10) ≡ true
    → lines (drop at text) ≡ take size rest ∷ lines (drop (at + size + 1) text)
line_found text rest at size is lt none found =
    let e : at + suc size ≡ at + size + 1 = omega arith in
    let d : drop (suc size) rest ≡ drop (at + size + 1) text = ap (λ (o : List ℕ). drop (suc size) o) is ∙ drop-drop (suc size) at text ∙ ap (λ (k : ℕ). drop k text) e in
    ap lines (sym is) ∙ line_cut rest size lt none found ∙ ap (λ (o : List ℕ). take size rest ∷ lines o) d

pub rest_found : (text rest : List ℕ) (at n : ℕ) → rest ≡ drop at text → n ≡ length text → (length rest ≡ 0 → ⊥) → NoneTill 10 (length rest) rest
    → lines (drop at text) ≡ rest ∷ lines (drop n text)
rest_found text rest at n is e some none =
    ap lines (sym is) ∙ line_alone rest some none ∙ ap (λ (ls : List Line). rest ∷ ls) (sym (ap lines (drop_all n text (omega arith)) ∙ lines-nil))

pub none_found : (text rest : List ℕ) (at : ℕ) → rest ≡ drop at text → length rest ≡ 0 → lines (drop at text) ≡ []
none_found text rest at is e = ap lines (sym is) ∙ line_none rest e

pub part_found : (rest : List ℕ) (size : ℕ) → size < length rest → NoneTill 44 size rest → (slice_index rest size == 44) ≡ true → parts rest ≡ take size rest ∷ parts (drop (size + 1) rest)
part_found rest size lt none found =
    let e : suc size ≡ size + 1 = omega arith in
    part_cut rest size lt none found ∙ ap (λ (k : ℕ). take size rest ∷ parts (drop k rest)) e

-- ---- blanks in front
pub blank_skipped : (o : List ℕ) → 0 < length o → is_blank (slice_index o 0) ≡ true → behind_blanks (drop 1 o) ≡ behind_blanks o
unfolding behind_blanks
blank_skipped [] some h = absurd (omega arith)
blank_skipped (c ∷ o) some h = rw h refl

pub blanks_behind : (o : List ℕ) → 0 < length o → is_blank (slice_index o 0) ≡ false → o ≡ behind_blanks o
unfolding behind_blanks
blanks_behind [] some h = absurd (omega arith)
blanks_behind (c ∷ o) some h = rw h refl

pub blanks_ended : (o : List ℕ) → length o < 1 → o ≡ behind_blanks o
unfolding behind_blanks
blanks_ended [] e = refl
blanks_ended (c ∷ o) e = absurd (omega arith)

-- ---- lines in front of a message
pub front_other : (l x : List ℕ) → (length x ≡ 0 → ⊥) → bytes_eq x message_line ≡ false
    → front_end l x ≡ Err (if starts_with nat_eq l begin_mark then reason.Label else reason.Outside)
front_other l [] some other = absurd (some refl)
front_other l (c ∷ cs) some other = rw other refl

pub true_and : (b : Bool) → (b && true) ≡ b
true_and true = refl
true_and false = refl

pub octets_found : (text rest : List ℕ) (at size : ℕ) → rest ≡ drop at text → size < length rest → (slice_index rest size == 10) ≡ true
    → drop at text ≡ take size rest ++ 10 ∷ drop (at + size + 1) text
octets_found text rest at size is lt found =
    let e : at + (size + 1) ≡ at + size + 1 = omega arith in
    let d : drop (size + 1) rest ≡ drop (at + size + 1) text = ap (λ (o : List ℕ). drop (size + 1) o) is ∙ drop-drop (size + 1) at text ∙ ap (λ (k : ℕ). drop k text) e in
    let f : drop size rest ≡ 10 ∷ drop (at + size + 1) text = drop_more rest size 0 lt ∙ ap (λ (x : ℕ). x ∷ drop (size + 1) rest) (eqb-true (slice_index rest size) 10 found) ∙ ap (λ (o : List ℕ). 10 ∷ o) d in
    sym is ∙ sym (take-append-drop size rest) ∙ ap (λ (o : List ℕ). take size rest ++ o) f
