-- The numbers of the errors of a run, which never change, their texts, and which end the reading.
use Rattle.std.specs.Prelude.{ℕ, List, codes}
use Rattle.opgp_octets.specs.Fault.{fault_text, reason_number}
use Rattle.opgp_codec.specs.declared.read_error.ReadError.{ReadError}
use Rattle.opgp_codec.specs.declared.read_error.ReadError.TheVariants as read
use Rattle.opgp_stack.specs.declared.run_fault.RunFault.{RunFault}
use Rattle.opgp_stack.specs.declared.run_fault.RunFault.TheVariants as run

-- a refusal has its reason's number
abbrev pub run_number : RunFault → ℕ
run_number (run.Refused fault) = reason_number fault.reason
run_number run.Read = 60
run_number run.Write = 61
run_number run.Memory = 62
run_number run.Spool = 63
run_number run.NoSuchRow = 70
run_number run.NoSuchCertificate = 71
run_number (run.NoSuchKey n) = 71
run_number run.TooManySignatures = 72
run_number run.OtherVerdicts = 73

-- a refusal has its fault's line
abbrev pub run_text : RunFault → List ℕ
run_text (run.Refused fault) = fault_text fault
run_text run.Read = codes "read failed"
run_text run.Write = codes "write failed"
run_text run.Memory = codes "out of memory"
run_text run.Spool = codes "spool failed"
run_text run.NoSuchRow = codes "no such row"
run_text run.NoSuchCertificate = codes "no such certificate"
run_text (run.NoSuchKey n) = codes "no such certificate"
run_text run.TooManySignatures = codes "too many signatures"
run_text run.OtherVerdicts = codes "the verdicts aren't those of this keyring"

-- what a run ends with, whose reading ends with this
abbrev pub run_fault_of : ReadError → RunFault
run_fault_of (read.Refused fault) = run.Refused fault
run_fault_of read.Read = run.Read
run_fault_of read.Memory = run.Memory
