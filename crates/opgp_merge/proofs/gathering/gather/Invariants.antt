use Rattle.std.proofs.Common.{◌≡◌, [], map}
use Rattle.opgp_merge.specs.Slots.{same_by}
use Rattle.opgp_merge.proofs.Adding.{gathered, slots_from}
use Rattle.opgp_merge.proofs.gathering.gather.Given as goal

abbrev pub invariant-loop-item : goal.invariant-loop-item
invariant-loop-item g l = record {
  kept : gathered (same_by g.T.Joining.name) g.T.Joining.both [] l.fn.items.items ≡ gathered (same_by g.T.Joining.name) g.T.Joining.both l.kept.items l.item-iterator.rest.items;
  slots : l.rest ≡ slots_from (map g.T.Joining.name l.kept.items) (map g.T.Joining.name l.item-iterator.rest.items);
}
