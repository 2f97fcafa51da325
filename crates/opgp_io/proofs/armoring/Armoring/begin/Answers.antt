use Rattle.std.proofs.Common.{◌≡◌, ◌∙◌, ◌++◌, ◌∷◌, [], ℕ, List, ap, refl}
use Rattle.std.proofs.lemmas.List.{append_assoc}
use Rattle.opgp_io.proofs.Added.{adds_then, breaks_then, breaks_more, adds_same, breaks_same}
use Rattle.opgp_io.proofs.Rows.{armor_begins, armor_unbegun, broken_at}
use Rattle.opgp_io.proofs.armoring.Armoring.begin.Goals as goal

-- a line, and a blank one
two_lines : (line first : List ℕ) → line ≡ first → (line ++ 10 ∷ []) ++ 10 ∷ [] ≡ first ++ 10 ∷ 10 ∷ []
two_lines line first e = append_assoc line (10 ∷ []) (10 ∷ []) ∙ ap (λ (v : List ℕ). v ++ 10 ∷ 10 ∷ []) e

pub returns-in_err-add_line : goal.returns-in_err-add_line
returns-in_err-add_line g c = record {
  same = c.in_err-add_line.ensures.same;
  told = broken_at _ c.from_residual.result c.from_residual.ensures.0 c.in_err-add_line.ensures.written.failed;
  begun = broken_at _ c.from_residual.result c.from_residual.ensures.0 (armor_unbegun _ _ _ (breaks_same _ _ _ _ (two_lines _ _ c.begin_line.ensures) (breaks_more _ _ _ (10 ∷ []) c.in_err-add_line.ensures.written)));
}

pub returns-in_err-add_line-2 : goal.returns-in_err-add_line-2
returns-in_err-add_line-2 g c = record {
  same = c.in_err-add_line-2.ensures.same ∙ c.in_ok-add_line.ensures.same;
  told = broken_at _ c.from_residual-in_err-add_line-2.result c.from_residual-in_err-add_line-2.ensures.0 c.in_err-add_line-2.ensures.written.failed;
  begun = broken_at _ c.from_residual-in_err-add_line-2.result c.from_residual-in_err-add_line-2.ensures.0 (armor_unbegun _ _ _ (breaks_same _ _ _ _ (two_lines _ _ c.begin_line.ensures) (breaks_then _ _ _ _ _ c.in_ok-add_line.ensures.written c.in_err-add_line-2.ensures.written)));
}

pub returns : goal.returns
returns g c = record {
  same = c.in_ok-add_line-2.ensures.same ∙ c.in_ok-add_line.ensures.same;
  told = c.in_ok-add_line-2.ensures.written.sound;
  begun = armor_begins _ _ _ _ refl c.new.ensures (adds_same _ _ _ _ (two_lines _ _ c.begin_line.ensures) (adds_then _ _ _ _ _ c.in_ok-add_line.ensures.written c.in_ok-add_line-2.ensures.written));
}
