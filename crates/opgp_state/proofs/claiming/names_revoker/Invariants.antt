use Rattle.std.proofs.Common.{◌≡◌}
use Rattle.std.specs.List.{list_any}
use Rattle.opgp_packet.specs.Subs.{subs_to_come}
use Rattle.opgp_state.specs.Claiming.{is_of_revoker}
use Rattle.opgp_state.proofs.claiming.names_revoker.Given as goal

-- none so far is one
abbrev pub invariant-loop-subpacket : goal.invariant-loop-subpacket
invariant-loop-subpacket l = (goal.iterator-loop-subpacket).can_next l.subpacket-iterator × (list_any is_of_revoker (subs_to_come l.fn.area) ≡ list_any is_of_revoker (subs_to_come l.subpacket-iterator))
