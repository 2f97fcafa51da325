-- The table of the subpackets of a keyring's signatures: a row for each, those of each signature in
-- the order of the report, and the data that they point into.
use Rattle.std.specs.Prelude.{ℕ, ◌+◌, Bool, true, false, List, [], ◌∷◌, ◌++◌, length}
use Rattle.std.specs.Prelude.{drop, replicate, take, Result, Ok, Err}
use Rattle.std.specs.List.{flat_map}
use Rattle.opgp_octets.specs.SubpacketKind.{subpacket_kind_of}
use Rattle.opgp_octets.specs.declared.fault.BodyFault.{BodyFault}
use Rattle.opgp_packet.specs.Areas.{hashed_subs, unhashed_subs}
use Rattle.opgp_packet.specs.Meaning.{Meaning, typed, unfit, unknown}
use Rattle.opgp_packet.specs.MeaningReading.{meaning_of}
use Rattle.opgp_packet.specs.SignatureBody.{SignatureValue, signature_at}
use Rattle.opgp_packet.specs.Subpackets.{Sub}
use Rattle.opgp_packet.specs.SubView.{is_critical, kind_shown}
use Rattle.opgp_report.specs.declared.place.Place.{Place}
use Rattle.opgp_report.specs.Standing.{Standing, standing_in}
use Rattle.opgp_keyring.specs.Keyring.{KeyringValue}
use Rattle.opgp_tables.specs.declared.subpacket_row.SubpacketRow.{SubpacketRow}
use Rattle.opgp_tables.specs.declared.subpacket_values.SubpacketValues.{SubpacketValues}
use Rattle.opgp_tables.specs.Jobs.{or_none}
use Rattle.opgp_tables.specs.SubpacketValues.{values_of}

-- what is known of a subpacket's data
abbrev pub meaning_number : Meaning → ℕ
meaning_number (typed kind form fields) = 0
meaning_number unfit = 1
meaning_number unknown = 2

abbrev pub bit : Bool → ℕ
bit true = 1
bit false = 0

-- what its data means, and says by that
abbrev pub meaning_in : Sub → Meaning
meaning_in s = meaning_of (subpacket_kind_of (kind_shown s.kind)) s.octets

abbrev pub values_in : Sub → SubpacketValues
values_in s = values_of (meaning_in s)

-- of a subpacket of the signature at a place, whose data stands here (RFC 9580, 5.2.3.7)
abbrev pub subpacket_row : Place → ℕ → ℕ → Sub → SubpacketRow
subpacket_row place is_hashed at s = record {
  certificate = place.certificate;
  component = or_none place.component;
  hang = place.hang;
  nested = or_none place.nested;
  at = at;
  size = length s.octets;
  fields_at = at + (values_in s).before;
  field_sizes = (values_in s).sizes;
  numbers = (values_in s).numbers;
  kind = kind_shown s.kind;
  is_critical = bit (is_critical s.kind);
  is_hashed = is_hashed;
  meaning = meaning_number (meaning_in s);
  form = (values_in s).form;
  reserved = replicate 3 0;
}

-- ---- of an area
abbrev pub area_rows : Place → ℕ → ℕ → List Sub → List SubpacketRow
area_rows place is_hashed at [] = []
area_rows place is_hashed at (s ∷ subs) = subpacket_row place is_hashed at s
    ∷ area_rows place is_hashed (at + length s.octets) subs

abbrev pub area_octets : List Sub → List ℕ
area_octets subs = flat_map (λ s. s.octets) subs

-- ---- of both areas (5.2.3)
abbrev pub areas_rows : Place → ℕ → List Sub → List Sub → List SubpacketRow
areas_rows place at hashed unhashed = area_rows place 1 at hashed
    ++ area_rows place 0 (at + length (area_octets hashed)) unhashed

abbrev pub areas_octets : List Sub → List Sub → List ℕ
areas_octets hashed unhashed = area_octets hashed ++ area_octets unhashed

-- ---- of a signature; none if it isn't one
abbrev pub rows_read : Place → ℕ → Result SignatureValue BodyFault → List SubpacketRow
rows_read place at (Ok v) = areas_rows place at (hashed_subs v) (unhashed_subs v)
rows_read place at (Err fault) = []

abbrev pub octets_read : Result SignatureValue BodyFault → List ℕ
octets_read (Ok v) = areas_octets (hashed_subs v) (unhashed_subs v)
octets_read (Err fault) = []

-- all its subpackets, the hashed ones first
abbrev pub subs_read : Result SignatureValue BodyFault → List Sub
subs_read (Ok v) = hashed_subs v ++ unhashed_subs v
subs_read (Err fault) = []

abbrev pub subs_of : Standing → List Sub
subs_of s = subs_read (signature_at s.body)

abbrev pub subpacket_octets : Standing → List ℕ
subpacket_octets s = octets_read (signature_at s.body)

-- ---- the table
-- the rows of signatures, whose data stands here
abbrev pub subpackets_from : ℕ → List Standing → List SubpacketRow
subpackets_from at [] = []
subpackets_from at (s ∷ list) = rows_read s.place at (signature_at s.body)
    ++ subpackets_from (at + length (subpacket_octets s)) list

abbrev pub subpacket_rows : KeyringValue → List SubpacketRow
subpacket_rows r = subpackets_from 0 (standing_in r)

abbrev pub subpacket_bytes : KeyringValue → List ℕ
subpacket_bytes r = flat_map subpacket_octets (standing_in r)

-- the kind of a subpacket, and its data
abbrev pub sub_shown : Sub → ℕ × List ℕ
sub_shown s = (kind_shown s.kind, s.octets)

-- those of a row, whose data is in these octets
abbrev pub subpacket_shown : List ℕ → SubpacketRow → ℕ × List ℕ
subpacket_shown bytes row = (row.kind, take row.size (drop row.at bytes))
