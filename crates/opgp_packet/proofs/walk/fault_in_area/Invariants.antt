use Rattle.std.proofs.Common.{◌≡◌, ◌≤◌, length}
use Rattle.opgp_packet.specs.AreaReading.{fault_in}
use Rattle.opgp_packet.proofs.walk.fault_in_area.Given as goal

abbrev pub invariant-loop-rest : goal.invariant-loop-rest
invariant-loop-rest l = (length l.rest ≤ l.end) × (fault_in l.end l.rest ≡ fault_in l.end l.area)

abbrev pub decreases-loop-rest : goal.decreases-loop-rest
decreases-loop-rest l = length l.rest
