use Rattle.std.proofs.Common.{◌≡◌, ◌++◌, map}
use Rattle.opgp_packet.specs.Subs.{subs_to_come}
use Rattle.opgp_hash.specs.declared.fingerprints.Fingerprint.TheVariants.{Four}
use Rattle.opgp_valid.specs.Subpackets.{revokers_in}
use Rattle.opgp_valid.proofs.naming.add_revokers.Given as goal

-- those so far, and those that are to come, are all
abbrev pub invariant-loop-subpacket : goal.invariant-loop-subpacket
invariant-loop-subpacket l = (goal.iterator-loop-subpacket).can_next l.subpacket-iterator × (l.prints.items ++ map Four (revokers_in (subs_to_come l.subpacket-iterator)) ≡ l.fn.prints.items ++ map Four (revokers_in (subs_to_come l.fn.area)))
