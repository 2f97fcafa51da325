use Rattle.std.proofs.Common.{◌≡◌}
use Rattle.opgp_packet.specs.Subs.{subs_to_come}
use Rattle.opgp_valid.specs.Subpackets.{states_time}
use Rattle.opgp_valid.proofs.subpackets.states_time.Given as goal

-- none so far is one
abbrev pub invariant-loop-subpacket : goal.invariant-loop-subpacket
invariant-loop-subpacket l = (goal.iterator-loop-subpacket).can_next l.subpacket-iterator × (states_time (subs_to_come l.fn.subpackets) ≡ states_time (subs_to_come l.subpacket-iterator))
