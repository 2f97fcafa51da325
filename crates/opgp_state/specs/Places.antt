-- Where the signatures of a keyring are: the number of each one's packet among all packets of the
-- keyring, and the number of the user ID that it is on among those of its certificate.
use Rattle.std.specs.Prelude.{ℕ, ◌+◌, Bool, if◌then◌else◌, List, [], ◌∷◌, ◌++◌, codes, filter}
use Rattle.std.specs.Prelude.{length, map, take, Option, Some, None, slice_get}
use Rattle.std.specs.Fmt.{decimal}
use Rattle.std.specs.List.{flat_map}
use Rattle.std.specs.Option.{option_and_then}
use Rattle.opgp_octets.specs.declared.packet_type.PacketType.TheVariants as packet
use Rattle.opgp_frame.specs.Header.{is_type}
use Rattle.opgp_keyring.specs.Keyring.{CertificateValue, ComponentValue, KeyringValue}
use Rattle.opgp_keyring.specs.Keyring.{certificate_packets, component_packets}
use Rattle.opgp_report.specs.RowValue.{RowValue}
use Rattle.opgp_report.specs.Standing.{by_number, certificate_standing}
use Rattle.opgp_report.specs.declared.place.Place.{Place}
use Rattle.opgp_state.specs.Report.{number_or_none, row_fields}
use Rattle.opgp_state.specs.declared.row_place.RowPlace.{RowPlace}

-- ---- in a certificate (RFC 9580, 10.1)
-- the number among its packets of the primary key, or of the packet that its component of this
-- number begins with
abbrev pub start_of : CertificateValue → Option ℕ → ℕ
start_of c None = 0
start_of c (Some n) = 1 + length c.hangs + length (flat_map component_packets (take n c.components))

-- a user ID (5.11), with the signatures on it
abbrev pub is_user_id : ComponentValue → Bool
is_user_id c = is_type packet.UserId c.head.kind

-- how many user IDs are before the component of this number, if it is one itself
abbrev pub user_id_of : CertificateValue → Option ℕ → Option ℕ
user_id_of c None = None
user_id_of c (Some n) = option_and_then (λ k.
    if is_user_id k then Some (length (filter is_user_id (take n c.components))) else None)
    (slice_get c.components n)

-- ---- in a keyring
-- how many packets are before its certificate of this number
abbrev pub packets_before : KeyringValue → ℕ → ℕ
packets_before r n = length r.lead + length (flat_map certificate_packets (take n r.certificates))

-- at a place in a certificate, before which this many packets are: behind the primary key, or
-- behind the packet that the component begins with
abbrev pub placed : ℕ → CertificateValue → Place → RowPlace
placed first c place = record {
  packet = first + start_of c place.component + 1 + place.hang;
  user_id = user_id_of c place.component;
}

abbrev pub certificate_places : KeyringValue → ℕ → CertificateValue → List RowPlace
certificate_places r n c =
    map (λ s. placed (packets_before r n) c s.place) (certificate_standing n c)

-- those of the rows of its report, in their order
abbrev pub places_of : KeyringValue → List RowPlace
places_of r = by_number (certificate_places r) 0 r.certificates

-- ---- lines
-- the line of a row goes on: ` packet <n> user-id <n or ->`
abbrev pub place_words : RowPlace → List ℕ
place_words p =
    codes " packet " ++ decimal p.packet
    ++ codes " user-id " ++ number_or_none p.user_id ++ codes "\n"

abbrev pub placed_line : ℕ → RowValue → RowPlace → List ℕ
placed_line number row p = row_fields number row ++ place_words p

-- of rows that have these places, numbered from here
abbrev pub placed_lines : ℕ → List RowValue → List RowPlace → List ℕ
placed_lines number [] places = []
placed_lines number (row ∷ rows) [] = []
placed_lines number (row ∷ rows) (p ∷ places) =
    placed_line number row p ++ placed_lines (number + 1) rows places
