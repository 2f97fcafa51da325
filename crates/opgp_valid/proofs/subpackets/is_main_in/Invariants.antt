use Rattle.std.proofs.Common.{◌≡◌}
use Rattle.opgp_packet.specs.Subs.{subs_to_come}
use Rattle.opgp_valid.specs.Subpackets.{is_main_in}
use Rattle.opgp_valid.proofs.subpackets.is_main_in.Given as goal

-- none so far says so
abbrev pub invariant-loop-subpacket : goal.invariant-loop-subpacket
invariant-loop-subpacket l = (goal.iterator-loop-subpacket).can_next l.subpacket-iterator × (is_main_in (subs_to_come l.fn.subpackets) ≡ is_main_in (subs_to_come l.subpacket-iterator))
