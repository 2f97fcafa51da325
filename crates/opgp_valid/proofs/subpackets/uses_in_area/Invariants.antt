use Rattle.std.proofs.Common.{◌≡◌}
use Rattle.opgp_packet.specs.Subs.{subs_to_come}
use Rattle.opgp_valid.specs.Subpackets.{uses_in_area}
use Rattle.opgp_valid.specs.Uses.{both}
use Rattle.opgp_valid.proofs.subpackets.uses_in_area.Given as goal

-- what those so far allow, and those that are to come
abbrev pub invariant-loop-subpacket : goal.invariant-loop-subpacket
invariant-loop-subpacket l = (goal.iterator-loop-subpacket).can_next l.subpacket-iterator × (uses_in_area (subs_to_come l.fn.subpackets) ≡ both l.found (uses_in_area (subs_to_come l.subpacket-iterator)))
