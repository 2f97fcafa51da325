-- The value of an owned multiprecision integer, and why none was read.
use Rattle.std.specs.Prelude.{List, ℕ, Bool}
use Rattle.opgp_octets.specs.declared.mpi.Mpi.{Mpi}
use Rattle.opgp_octets.specs.declared.fault.Reason.TheVariants as reason
use Rattle.opgp_octets.specs.declared.refusal.MpiFault.{MpiFault}
use Rattle.opgp_octets.specs.declared.refusal.MpiFault.TheVariants as fault
use Rattle.opgp_octets.specs.Mpi.{MpiValue, MpiRefused}

-- the integer
abbrev pub mpi_owned : Mpi → MpiValue
mpi_owned m = record { bits = m.bits; octets = m.octets.items }

-- why none was read; running out of memory says nothing of the octets
abbrev pub MpiFaultOf : Bool → List ℕ → MpiFault → Type 0
MpiFaultOf strict o fault.Short = MpiRefused strict o reason.Short
MpiFaultOf strict o fault.MpiBits = MpiRefused strict o reason.MpiBits
MpiFaultOf strict o fault.Memory = Unit {0}
