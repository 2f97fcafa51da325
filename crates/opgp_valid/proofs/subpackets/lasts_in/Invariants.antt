use Rattle.std.proofs.Common.{◌≡◌}
use Rattle.opgp_packet.specs.Subs.{subs_to_come}
use Rattle.opgp_valid.specs.Subpackets.{lasts_in, shorter}
use Rattle.opgp_valid.proofs.subpackets.lasts_in.Given as goal

-- the shortest so far, and of those that are to come
abbrev pub invariant-loop-subpacket : goal.invariant-loop-subpacket
invariant-loop-subpacket l = (goal.iterator-loop-subpacket).can_next l.subpacket-iterator × (lasts_in l.fn.kind (subs_to_come l.fn.subpackets) ≡ shorter l.shortest (lasts_in l.fn.kind (subs_to_come l.subpacket-iterator)))
