use Rattle.std.proofs.Common.{◌∙◌}
use Rattle.opgp_examples.proofs.certificates.show_waiting.Goals as goal

pub parts-preserved : goal.parts-preserved
parts-preserved g c = (
  λ limits r. c.take.ensures.going limits (c.parts.invariant.0 limits r),
  c.take.ensures.count ∙ c.parts.invariant.1,
)

pub returns-clause-reading : goal.returns-clause-reading
returns-clause-reading g c limits r = c.take.ensures.going limits (c.parts.invariant.0 limits r)
