-- The lines of a text, and those that have ended.
use Rattle.std.proofs.Common.{◌≡◌, ℕ, ◌==◌, true, false, List, [], ◌∷◌, ◌++◌, refl, sym, ap, ◌∙◌, inl, inr}
use Rattle.std.proofs.lemmas.List.{append_assoc, append-nil}
use Rattle.std.proofs.lemmas.Bool.{cases_Bool, eqb-true}
use Rattle.std.specs.List.{fold, list_all}
use Rattle.opgp_armor.specs.Cuts.{is_plain, Cut, feed, uncut, cut}
use Rattle.opgp_armor.specs.Text.{Line, lines}
use Rattle.opgp_armor.proofs.DataLine.{all_both}
use Rattle.opgp_armor.proofs.Texts.{lines-line}

plain_from : (c : ℕ) → (c == 10) ≡ false → is_plain c ≡ true
plain_from c h = rw h refl

fold_lines : (s : Cut) (t : List ℕ) → list_all is_plain s.tail ≡ true → s.ended ++ lines (s.tail ++ t) ≡ (fold feed s t).ended ++ lines (fold feed s t).tail
fold_lines s [] plain = ap (λ (v : List ℕ). s.ended ++ lines v) (append-nil s.tail)
fold_lines s (c ∷ t) plain = elim (cases_Bool (c == 10)) [
  | inl y ↦
      let n : Cut = record { ended = s.ended ++ s.tail ∷ []; tail = [] } in
      let e : feed s c ≡ n = rw y refl in
      ap (λ (v : ℕ). s.ended ++ lines (s.tail ++ v ∷ t)) (eqb-true c 10 y)
      ∙ ap (λ (v : List Line). s.ended ++ v) (lines-line s.tail t plain)
      ∙ sym (append_assoc s.ended (s.tail ∷ []) (lines t))
      ∙ fold_lines n t refl
      ∙ ap (λ (v : Cut). (fold feed v t).ended ++ lines (fold feed v t).tail) (sym e)
  | inr m ↦
      let n : Cut = record s { tail = s.tail ++ c ∷ [] } in
      let e : feed s c ≡ n = rw m refl in
      let more : list_all is_plain (c ∷ []) ≡ true = rw (plain_from c m) refl in
      ap (λ (v : List ℕ). s.ended ++ lines v) (sym (append_assoc s.tail (c ∷ []) t))
      ∙ fold_lines n t (all_both is_plain s.tail (c ∷ []) plain more)
      ∙ ap (λ (v : Cut). (fold feed v t).ended ++ lines (fold feed v t).tail) (sym e)
]

-- the lines of a text are the ended ones, and what comes after the last line end
pub lines_cut : (text : List ℕ) → lines text ≡ (cut text).ended ++ lines (cut text).tail
unfolding cut
lines_cut text = fold_lines uncut text refl
