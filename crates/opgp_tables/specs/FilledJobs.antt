-- What becomes of a caller's table of jobs that is filled by visiting signatures.
use Rattle.std.specs.Prelude.{◌≡◌, ◌≤◌, ◌+◌, List, length, Result, Ok, Err}
use Rattle.std.specs.List.{flat_map}
use Rattle.opgp_report.specs.KeyIndex.{prints_shown}
use Rattle.opgp_report.specs.Standing.{Standing}
use Rattle.opgp_tables.specs.declared.job_filler.JobFiller.{JobFiller}
use Rattle.opgp_tables.specs.Filling.{Fills}
use Rattle.opgp_tables.specs.Jobs.{job_octets, jobs_from}

-- the rows of the signatures are put, and the octets that they point into; or there is too little
-- room
abbrev pub FillsJobs : {E : Type 0} → JobFiller → List Standing → Result JobFiller E → Type 0
FillsJobs t list (Ok u) =
    Fills (jobs_from (prints_shown t.names.now) t.here.bytes list) (flat_map job_octets list)
    t.here u.here t.rows.now u.rows.now t.bytes.now u.bytes.now
    × (u.rows.ghost_name ≡ t.rows.ghost_name) × (u.bytes.ghost_name ≡ t.bytes.ghost_name)
    × (u.names.now ≡ t.names.now)
FillsJobs t list (Err refusal) = t.here.rows + length list ≤ length t.rows.now
    → t.here.bytes + length (flat_map job_octets list) ≤ length t.bytes.now → ⊥
