use Rattle.std.proofs.Common.{◌≡◌}
use Rattle.opgp_packet.specs.Subs.{subs_to_come}
use Rattle.opgp_report.specs.Signer.{first_some}
use Rattle.opgp_stack.specs.ValuedListing.{created_in}
use Rattle.opgp_stack.proofs.valued_listing.first_created.Given as goal

-- what is to come decides
abbrev pub invariant-loop-subpacket : goal.invariant-loop-subpacket
invariant-loop-subpacket l = (goal.iterator-loop-subpacket).can_next l.subpacket-iterator × (first_some created_in (subs_to_come l.fn.subpackets) ≡ first_some created_in (subs_to_come l.subpacket-iterator))
