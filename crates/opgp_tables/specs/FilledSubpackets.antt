-- What becomes of a caller's table of subpackets that is filled by visiting signatures.
use Rattle.std.specs.Prelude.{◌≡◌, ◌≤◌, ◌+◌, List, length, Result, Ok, Err}
use Rattle.std.specs.List.{flat_map}
use Rattle.opgp_report.specs.Standing.{Standing}
use Rattle.opgp_tables.specs.declared.subpacket_filler.SubpacketFiller.{SubpacketFiller}
use Rattle.opgp_tables.specs.Filling.{Fills}
use Rattle.opgp_tables.specs.Subpackets.{subpacket_octets, subpackets_from, subs_of}

-- the rows of the signatures' subpackets are put, and their data; or there is too little room
abbrev pub FillsSubpackets : {E : Type 0} → SubpacketFiller → List Standing
    → Result SubpacketFiller E → Type 0
FillsSubpackets t list (Ok u) =
    Fills (subpackets_from t.here.bytes list) (flat_map subpacket_octets list)
    t.here u.here t.rows.now u.rows.now t.bytes.now u.bytes.now
    × (u.rows.ghost_name ≡ t.rows.ghost_name) × (u.bytes.ghost_name ≡ t.bytes.ghost_name)
FillsSubpackets t list (Err refusal) =
    t.here.rows + length (flat_map subs_of list) ≤ length t.rows.now
    → t.here.bytes + length (flat_map subpacket_octets list) ≤ length t.bytes.now → ⊥
