use Rattle.std.proofs.Common.{rules, ◌≡◌, ◌∙◌, Ok, [], List, arith, length, ap, append-nil}
use Rattle.std.specs.List.{flat_map}
use borrow.Rule.Slice.Relend.{set_name}
use Rattle.opgp_report.specs.Standing.{Standing, standing_in}
use Rattle.opgp_keyring.specs.Keyring.{KeyringValue}
use Rattle.opgp_tables.specs.declared.job_filler.NoRoom.{NoRoom}
use Rattle.opgp_tables.specs.declared.subpacket_filler.SubpacketFiller.{SubpacketFiller}
use Rattle.opgp_tables.specs.FilledSubpackets.{FillsSubpackets}
use Rattle.opgp_tables.specs.Subpackets.{subpacket_octets, subs_of}
use Rattle.opgp_tables.proofs.Counting.{subpackets_many}
use Rattle.opgp_tables.proofs.FilledSubpackets.{all_put, visited}
use Rattle.opgp_tables.proofs.subpacket_filler.fill_subpackets.Goals as goal

-- all have room
pub unreachable-requires : goal.unreachable-requires
unreachable-requires c =
    let r : KeyringValue = c.args.keyring.now in
    c.in-Err.ensures [] (omega (arith, c.requires.rows, subpackets_many r, ap (λ (l : List Standing). length (flat_map subs_of l)) (append-nil (standing_in r))))
    (omega (arith, c.requires.bytes, ap (λ (l : List Standing). length (flat_map subpacket_octets l)) (append-nil (standing_in r))))

pub returns-clause-rows : goal.returns-clause-rows
returns-clause-rows c =
    let r : KeyringValue = c.args.keyring.now in
    let new : SubpacketFiller = c.visit.new.visitor in
    let old : SubpacketFiller = record { rows = set_name _ c.args.rows; bytes = set_name _ c.args.bytes; here = record { rows = 0; bytes = 0 } } in
    let done : FillsSubpackets {E = NoRoom} old (standing_in r) (Ok new) = visited old new (standing_in r) (record {}) c.in-Ok.ensures (omega (arith, c.requires.rows, subpackets_many r)) (omega (arith, c.requires.bytes)) in
    let same : new.rows.ghost_name ≡ old.rows.ghost_name = done.1 in
    search rules ∙ (all_put r new.here c.args.rows.now new.rows.now c.args.bytes.now new.bytes.now done.0).0

pub returns-clause-bytes : goal.returns-clause-bytes
returns-clause-bytes c =
    let r : KeyringValue = c.args.keyring.now in
    let new : SubpacketFiller = c.visit.new.visitor in
    let old : SubpacketFiller = record { rows = set_name _ c.args.rows; bytes = set_name _ c.args.bytes; here = record { rows = 0; bytes = 0 } } in
    let done : FillsSubpackets {E = NoRoom} old (standing_in r) (Ok new) = visited old new (standing_in r) (record {}) c.in-Ok.ensures (omega (arith, c.requires.rows, subpackets_many r)) (omega (arith, c.requires.bytes)) in
    let same : new.bytes.ghost_name ≡ old.bytes.ghost_name = done.2 in
    search rules ∙ (all_put r new.here c.args.rows.now new.rows.now c.args.bytes.now new.bytes.now done.0).1
