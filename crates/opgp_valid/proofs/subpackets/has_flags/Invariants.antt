use Rattle.std.proofs.Common.{◌≡◌}
use Rattle.opgp_packet.specs.Subs.{subs_to_come}
use Rattle.opgp_valid.specs.Subpackets.{has_flags}
use Rattle.opgp_valid.proofs.subpackets.has_flags.Given as goal

-- none so far is one
abbrev pub invariant-loop-subpacket : goal.invariant-loop-subpacket
invariant-loop-subpacket l = (goal.iterator-loop-subpacket).can_next l.subpacket-iterator × (has_flags (subs_to_come l.fn.subpackets) ≡ has_flags (subs_to_come l.subpacket-iterator))
