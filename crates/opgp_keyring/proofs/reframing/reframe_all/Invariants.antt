use Rattle.std.proofs.Common.{◌≡◌, ◌++◌, map, take, drop}
use Rattle.opgp_keyring.proofs.reframing.reframe_all.Given as goal

abbrev pub invariant-loop-item : goal.invariant-loop-item
invariant-loop-item g l = l.item-items ≡ (map g.T.Reframe.normal (take l.item-index l.fn.items.items) ++ drop l.item-index l.fn.items.items)
