use Rattle.std.proofs.Common.{◌≡◌, ◌++◌}
use Rattle.opgp_packet.specs.Subs.{subs_to_come}
use Rattle.opgp_tables.specs.Jobs.{at_most_one, times_in}
use Rattle.opgp_tables.proofs.job_table.one_time.Given as goal

-- what was found and what is to come are all
abbrev pub invariant-loop-subpacket : goal.invariant-loop-subpacket
invariant-loop-subpacket l = (goal.iterator-loop-subpacket).can_next l.subpacket-iterator × (times_in (subs_to_come l.fn.subpackets) ≡ at_most_one l.found ++ times_in (subs_to_come l.subpacket-iterator))
