-- The hashed area of a signature, field by field (RFC 9580, 5.2.3.7).
use Rattle.std.specs.Prelude.{ℕ, ◌%◌, List, [], ◌∷◌, length, Result, Ok, Err}
use Rattle.std.specs.List.{flat_map}
use Rattle.opgp_octets.specs.SubLen.{sub_len_octets}
use Rattle.opgp_octets.specs.SubpacketKind.{subpacket_kind_of}
use Rattle.opgp_octets.specs.declared.fault.BodyFault.{BodyFault}
use Rattle.opgp_packet.specs.AreaReading.{area_at}
use Rattle.opgp_packet.specs.Subpackets.{Sub}
use Rattle.opgp_explain.specs.Field.{FieldValue, ◌is◌}
use Rattle.opgp_explain.specs.declared.meaning.Meaning.TheVariants as meaning
use Rattle.opgp_explain.specs.declared.meaning.SubpacketPart.TheVariants as sub

-- A subpacket: a length, a type octet whose lower seven bits are the kind, and data (5.2.3.7).
abbrev pub sub_fields : Sub → List FieldValue
sub_fields s =
    (meaning.Subpacket sub.Length is sub_len_octets s.len)
    ∷ (meaning.Subpacket sub.Type is (s.kind ∷ []))
    ∷ (meaning.Subpacket (sub.Data (subpacket_kind_of (s.kind % 128))) is s.octets) ∷ []

-- The subpackets of an area, one after the other; octets that aren't subpackets are one field.
abbrev pub read_fields : List ℕ → Result (List Sub) BodyFault → List FieldValue
read_fields area (Ok subs) = flat_map sub_fields subs
read_fields area (Err fault) = (meaning.Area is area) ∷ []

abbrev pub area_fields : List ℕ → List FieldValue
area_fields area = read_fields area (area_at (length area) area)
