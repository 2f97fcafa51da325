use Rattle.std.proofs.Common.{◌≡◌}
use Rattle.opgp_packet.specs.Subs.{subs_to_come}
use Rattle.opgp_valid.specs.Subpackets.{reason_in}
use Rattle.opgp_valid.proofs.subpackets.reason_in.Given as goal

-- none so far states one
abbrev pub invariant-loop-subpacket : goal.invariant-loop-subpacket
invariant-loop-subpacket l = (goal.iterator-loop-subpacket).can_next l.subpacket-iterator × (reason_in (subs_to_come l.fn.subpackets) ≡ reason_in (subs_to_come l.subpacket-iterator))
