use Rattle.std.proofs.Common.{rules, ◌≡◌, ◌∙◌, Ok, [], List, arith, length, ap, append-nil}
use Rattle.std.specs.List.{flat_map}
use borrow.Rule.Slice.Relend.{set_name}
use Rattle.opgp_tables.specs.declared.job_filler.NoRoom.{NoRoom}
use Rattle.opgp_tables.specs.FilledJobs.{FillsJobs}
use Rattle.opgp_report.specs.KeyIndex.{prints_shown}
use Rattle.opgp_report.specs.Standing.{Standing, standing_in}
use Rattle.opgp_keyring.specs.Keyring.{KeyringValue}
use Rattle.opgp_tables.specs.declared.job_filler.JobFiller.{JobFiller}
use Rattle.opgp_tables.specs.Jobs.{job_octets}
use Rattle.opgp_tables.proofs.Counting.{jobs_many}
use Rattle.opgp_tables.proofs.FilledJobs.{all_put, visited}
use Rattle.opgp_tables.proofs.job_table.put_jobs.Goals as goal

-- all have room
pub unreachable-requires : goal.unreachable-requires
unreachable-requires c =
    let r : KeyringValue = c.args.keyring.now in
    c.in-Err.ensures [] (omega (arith, c.requires.rows, jobs_many r, ap (λ (l : List Standing). length l) (append-nil (standing_in r))))
    (omega (arith, c.requires.bytes, ap (λ (l : List Standing). length (flat_map job_octets l)) (append-nil (standing_in r))))

pub returns-clause-rows : goal.returns-clause-rows
returns-clause-rows c =
    let r : KeyringValue = c.args.keyring.now in
    let new : JobFiller = c.visit.new.visitor in
    let old : JobFiller = record { names = c.args.names; rows = set_name _ c.args.rows; bytes = set_name _ c.args.bytes; here = record { rows = 0; bytes = 0 } } in
    let done : FillsJobs {E = NoRoom} old (standing_in r) (Ok new) = visited old new (standing_in r) (record {}) c.in-Ok.ensures (omega (arith, c.requires.rows, jobs_many r)) (omega (arith, c.requires.bytes)) in
    let same : new.rows.ghost_name ≡ old.rows.ghost_name = done.1 in
    search rules ∙ (all_put r (prints_shown c.args.names.now) new.here c.args.rows.now new.rows.now c.args.bytes.now new.bytes.now c.requires.names done.0).0

pub returns-clause-bytes : goal.returns-clause-bytes
returns-clause-bytes c =
    let r : KeyringValue = c.args.keyring.now in
    let new : JobFiller = c.visit.new.visitor in
    let old : JobFiller = record { names = c.args.names; rows = set_name _ c.args.rows; bytes = set_name _ c.args.bytes; here = record { rows = 0; bytes = 0 } } in
    let done : FillsJobs {E = NoRoom} old (standing_in r) (Ok new) = visited old new (standing_in r) (record {}) c.in-Ok.ensures (omega (arith, c.requires.rows, jobs_many r)) (omega (arith, c.requires.bytes)) in
    let same : new.bytes.ghost_name ≡ old.bytes.ghost_name = done.2 in
    search rules ∙ (all_put r (prints_shown c.args.names.now) new.here c.args.rows.now new.rows.now c.args.bytes.now new.bytes.now c.requires.names done.0).1
