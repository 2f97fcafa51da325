use Rattle.std.proofs.Common.{◌≡◌, map}
use Rattle.opgp_merge.proofs.merging.unite.Given as goal

abbrev pub invariant-loop-item : goal.invariant-loop-item
invariant-loop-item g l = l.united.items ≡ map g.T.Uniting.once l.yielded
