use Rattle.std.proofs.Common.{◌≡◌}
use Rattle.std.specs.Prelude.{is_some}
use Rattle.std.specs.List.{list_any}
use Rattle.opgp_packet.specs.Subs.{subs_to_come}
use Rattle.opgp_valid.specs.Subpackets.{revoker_stated}
use Rattle.opgp_bound.proofs.replaced.names_revoker.Given as goal

-- none so far is one
abbrev pub invariant-loop-subpacket : goal.invariant-loop-subpacket
invariant-loop-subpacket l = (goal.iterator-loop-subpacket).can_next l.subpacket-iterator × (list_any (λ s. is_some (revoker_stated s)) (subs_to_come l.fn.subpackets) ≡ list_any (λ s. is_some (revoker_stated s)) (subs_to_come l.subpacket-iterator))
