use Rattle.std.proofs.Common.{◌≡◌}
use Rattle.opgp_packet.specs.Subs.{subs_to_come}
use Rattle.opgp_valid.specs.Subpackets.{has_unfit}
use Rattle.opgp_valid.proofs.subpackets.has_unfit.Given as goal

-- none so far is unfit
abbrev pub invariant-loop-subpacket : goal.invariant-loop-subpacket
invariant-loop-subpacket l = (goal.iterator-loop-subpacket).can_next l.subpacket-iterator × (has_unfit (subs_to_come l.fn.subpackets) ≡ has_unfit (subs_to_come l.subpacket-iterator))
