-- Where the fields of a body lie in it.
use Rattle.std.specs.Prelude.{ℕ, ◌+◌, ◌≤◌, List, slice_range}
use Rattle.opgp_octets.specs.Mpi.{MpiValue, octets_of}
use Rattle.opgp_packet.specs.declared.spans.Span.{Span}
use Rattle.opgp_packet.specs.declared.spans.MpiSpan.{MpiSpan}
use Rattle.opgp_packet.specs.Fields.{Field, integer}

-- the octets at this place
abbrev pub octets_in : Span → List ℕ → List ℕ
octets_in p body = slice_range body p.start p.end

-- the multiprecision integer whose octets begin at this place
abbrev pub mpi_in : MpiSpan → List ℕ → MpiValue
mpi_in p body =
    record { bits = p.bits; octets = slice_range body p.start (p.start + octets_of p.bits) }

abbrev pub integer_in : MpiSpan → List ℕ → Field
integer_in p body = integer (mpi_in p body)

-- it is within this many octets
abbrev pub IsIn : Span → ℕ → Type 0
IsIn p total = (p.start ≤ p.end) × (p.end ≤ total)

abbrev pub IsMpiIn : MpiSpan → ℕ → Type 0
IsMpiIn p total = p.start + octets_of p.bits ≤ total
