-- The value of a view of a multiprecision integer.
use Rattle.opgp_octets.specs.declared.mpi_view.MpiView.{MpiView}
use Rattle.opgp_octets.specs.Mpi.{MpiValue}

-- the integer
abbrev pub mpi_seen : MpiView → MpiValue
mpi_seen v = record { bits = v.bits; octets = v.octets.now }
