use Rattle.std.proofs.Common.{length}
use Rattle.opgp_io.proofs.Extended.{ExtendsAllBut}
use Rattle.opgp_stack.specs.Values.{numbers_text}
use Rattle.opgp_stack.proofs.values.add_each.Given as goal

-- all numbers are added but those that are left
abbrev pub invariant-numbers : goal.invariant-numbers
invariant-numbers g l = ExtendsAllBut g.W.Sink.held g.W.Sink.has_failed l.fn.output l.output (numbers_text l.left) (numbers_text l.fn.list)

abbrev pub decreases-numbers : goal.decreases-numbers
decreases-numbers g l = length l.left
