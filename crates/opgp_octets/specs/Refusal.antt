-- The text of a refusal: that of its fault, or that memory ran out.
use Rattle.std.specs.Prelude.{ℕ, List, codes}
use Rattle.opgp_octets.specs.Fault.{body_fault_text, reason_name}
use Rattle.opgp_octets.specs.declared.fault.Reason.TheVariants as reason
use Rattle.opgp_octets.specs.declared.refusal.MpiFault.{MpiFault}
use Rattle.opgp_octets.specs.declared.refusal.MpiFault.TheVariants as mpi
use Rattle.opgp_octets.specs.declared.refusal.ParseFault.{ParseFault}
use Rattle.opgp_octets.specs.declared.refusal.ParseFault.TheVariants as parse
use Rattle.opgp_octets.specs.declared.refusal.PushFault.{PushFault}
use Rattle.opgp_octets.specs.declared.refusal.PushFault.TheVariants as push

abbrev pub mpi_fault_text : MpiFault → List ℕ
mpi_fault_text mpi.Short = reason_name reason.Short
mpi_fault_text mpi.MpiBits = reason_name reason.MpiBits
mpi_fault_text mpi.Memory = codes "out of memory"

abbrev pub parse_fault_text : ParseFault → List ℕ
parse_fault_text (parse.Body f) = body_fault_text f
parse_fault_text parse.Memory = codes "out of memory"

-- a reader that ran out of memory earlier has the reason `Spent`
abbrev pub push_fault_text : PushFault → List ℕ
push_fault_text push.Memory = codes "out of memory"
push_fault_text push.Spent = reason_name reason.Spent
