use Rattle.std.proofs.Common.{◌≡◌, ◌++◌}
use Rattle.opgp_octets.specs.declared.subpacket_kind.SubpacketKind.TheVariants as kind
use Rattle.opgp_packet.specs.Subs.{subs_to_come}
use Rattle.opgp_valid.specs.Subpackets.{at_most_one, numbers_in}
use Rattle.opgp_valid.proofs.subpackets.made_in.Given as goal

-- what was found and what is to come are all
abbrev pub invariant-loop-subpacket : goal.invariant-loop-subpacket
invariant-loop-subpacket l = (goal.iterator-loop-subpacket).can_next l.subpacket-iterator × (numbers_in kind.Created (subs_to_come l.fn.subpackets) ≡ at_most_one l.found ++ numbers_in kind.Created (subs_to_come l.subpacket-iterator))
