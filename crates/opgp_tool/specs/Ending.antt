-- How a run ends: the exit status, and the line on standard error.
use Rattle.std.specs.Prelude.{ℕ, List, [], ◌++◌, codes, Result, Ok, Err}
use Rattle.opgp_octets.specs.Fault.{fault_text}
use Rattle.opgp_stack.specs.declared.run_fault.RunFault.{RunFault}
use Rattle.opgp_stack.specs.declared.run_fault.RunFault.TheVariants as run

-- the exit status: 0 success, 1 refused, 3 reading, writing, memory or the spool failed
abbrev pub status_of : Result Unit RunFault → ℕ
status_of (Ok done) = 0
status_of (Err (run.Refused fault)) = 1
status_of (Err run.NoSuchRow) = 1
status_of (Err run.NoSuchCertificate) = 1
status_of (Err (run.NoSuchKey n)) = 1
status_of (Err run.TooManySignatures) = 1
status_of (Err run.OtherVerdicts) = 1
status_of (Err run.Read) = 3
status_of (Err run.Write) = 3
status_of (Err run.Memory) = 3
status_of (Err run.Spool) = 3

-- the line and its line feed, or nothing
abbrev pub line_of : Result Unit RunFault → List ℕ
line_of (Ok done) = []
line_of (Err (run.Refused fault)) = fault_text fault ++ codes "\n"
line_of (Err run.NoSuchRow) = codes "opgp: no such row\n"
line_of (Err run.NoSuchCertificate) = codes "opgp: no such certificate\n"
line_of (Err (run.NoSuchKey n)) = codes "opgp: no such certificate\n"
line_of (Err run.TooManySignatures) = codes "opgp: too many signatures\n"
line_of (Err run.OtherVerdicts) = codes "opgp: the verdicts aren't those of this keyring\n"
line_of (Err run.Read) = codes "opgp: read failed\n"
line_of (Err run.Write) = codes "opgp: write failed\n"
line_of (Err run.Memory) = codes "opgp: out of memory\n"
line_of (Err run.Spool) = codes "opgp: spool failed\n"
