use Rattle.std.proofs.Common.{arith, refl, ◌∙◌, ap}
use Rattle.opgp_tables.specs.declared.job_row.JobRow.{JobRow}
use Rattle.std.specs.Prelude.{[], ◌∷◌}
use Rattle.opgp_tables.specs.Filling.{put}
use Rattle.opgp_tables.proofs.job_filler.put_job.Goals as goal

-- each field by the one call that it rests on, so that nothing is searched for among the others
pub returns : goal.returns
returns c = record {
  rows_put = c.put_item.ensures ∙ ap (λ (row : JobRow). put c.args.here.rows (row ∷ []) c.args.rows.now) c.made_row-row.ensures;
  bytes_put = c.put_said-end.ensures.put;
  rows_there = refl;
  bytes_there = c.put_said-end.ensures.end;
  rows_here = omega (arith, c.requires.rows);
  bytes_here = omega (arith, c.requires.bytes);
}
