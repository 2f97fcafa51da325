use Rattle.std.proofs.Common.{◌≡◌, ◌∙◌, ◌++◌, ℕ, List, sym, ap, arith, rules, take, take-append-drop}
use Rattle.std.proofs.lemmas.List.{nil_from_length}
use Rattle.opgp_io.proofs.Rows.{all_rows_left, less_rows_left, broken_rows_left, no_rows_left, armor_more, armor_broken, broken_at}
use Rattle.opgp_io.proofs.armoring.Armoring.add.Goals as goal

pub pieces-init : goal.pieces-init
pieces-init g c = record {
  same = search rules;
  label = search rules;
  sound = c.requires;
  but = all_rows_left c.no_octets_have_no_data_lines.ensures _ _ c.requires;
}

pub pieces-preserved : goal.pieces-preserved
pieces-preserved g c =
    let more = c.in_ok-n.ensures.added in
    let rest : List ℕ = c.pieces.rest.now in
    let cut : rest ≡ take c.in_ok-n.n rest ++ c.split_at.result.1.now = sym (take-append-drop c.in_ok-n.n rest) ∙ ap (λ (v : List ℕ). take c.in_ok-n.n rest ++ v) (sym c.split_at.ensures.back) in
    record {
      same = c.in_ok-n.ensures.same ∙ c.pieces.invariant.same;
      label = c.in_ok-n.ensures.label ∙ c.pieces.invariant.label;
      sound = more.added.sound;
      but = less_rows_left c.data_lines_of_whole_rows_join.ensures _ _ _ _ _ _ _ c.pieces.invariant.but cut more;
    }

pub returns-in_err-n : goal.returns-in_err-n
returns-in_err-n g c =
    let join = c.data_lines_of_whole_rows_join.ensures in
    let broken = broken_rows_left join _ _ _ _ _ c.pieces.invariant.but c.in_err-n.ensures.broken in
    record {
      same = c.in_err-n.ensures.same ∙ c.pieces.invariant.same;
      told = broken_at _ c.from_residual.result c.from_residual.ensures.0 broken.broken.failed;
      added = λ label start given h. broken_at _ c.from_residual.result c.from_residual.ensures.0 (armor_broken join _ _ _ _ broken label start given h);
    }

pub returns : goal.returns
returns g c =
    let i = c.pieces.invariant in
    record {
      same = i.same;
      told = i.sound;
      added = armor_more c.data_lines_of_whole_rows_join.ensures _ _ _ _ _ i.label (no_rows_left _ _ _ _ i.but (nil_from_length c.pieces.rest.now (omega arith)));
    }
