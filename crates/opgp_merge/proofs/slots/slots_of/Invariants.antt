use Rattle.std.proofs.Common.{◌≡◌, [], ◌++◌, List, map, drop}
use Rattle.opgp_merge.specs.Slots.{IsIndex, Name}
use Rattle.opgp_merge.proofs.Adding.{slots_from}
use Rattle.opgp_merge.proofs.slots.slots_of.Given as goal

abbrev pub invariant-loop-item : goal.invariant-loop-item
invariant-loop-item g l =
    (seen : List Name) × IsIndex l.index seen × (slots_from [] (map g.T.Joining.name l.fn.items) ≡ l.slots.items ++ slots_from seen (map g.T.Joining.name (drop l.item-index l.items)))
