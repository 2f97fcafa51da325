use Rattle.std.proofs.Common.{ℕ, List, ◌++◌, codes, subst}
use Rattle.std.specs.List.{flat_map}
use Rattle.opgp_codec.specs.Written.{IsWritten}
use Rattle.opgp_stack.specs.Differing.{changed_line}
use Rattle.opgp_stack.proofs.differing.write_difference.Goals as goal

pub returns-in-Ok : goal.returns-in-Ok
returns-in-Ok g c = (
  c.write.result,
  c.end.ensures,
  subst (λ (t : List ℕ). IsWritten g.W.Sink.held g.W.Sink.has_failed c.args.writer.now c.write.new.writer c.write.result t)
      (λ i. flat_map (changed_line (codes "gone ") c.args.old.now) (c.in-Ok.ensures.gone i) ++ flat_map (changed_line (codes "new ") c.args.new.now) (c.in-Ok.ensures.new i))
      c.write.ensures,
)
