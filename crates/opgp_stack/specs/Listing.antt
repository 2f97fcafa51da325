-- The lines of a keyring's listing, one for each packet.
use Rattle.std.specs.Prelude.{ℕ, zero, suc, if◌then◌else◌, List, [], ◌∷◌, ◌++◌, length, codes}
use Rattle.std.specs.Prelude.{Result, Ok, Err}
use Rattle.std.specs.Fmt.{decimal}
use Rattle.std.specs.List.{flat_map}
use Rattle.hex.specs.Hex.{encode_upper}
use Rattle.opgp_octets.specs.declared.fault.BodyFault.{BodyFault}
use Rattle.opgp_octets.specs.declared.packet_type.PacketType.TheVariants as packet
use Rattle.opgp_packet.specs.AreaReading.{subs_in}
use Rattle.opgp_packet.specs.FieldReading.{body_at}
use Rattle.opgp_packet.specs.Fields.{Field, small, wide, integer, named, bare, subpackets}
use Rattle.opgp_frame.specs.Packet.{PacketValue}
use Rattle.opgp_hash.specs.Fingerprint.{fingerprint_of, print_octets}
use Rattle.opgp_hash.specs.KeyId.{key_id_of}
use Rattle.opgp_packet.specs.KeyBody.{key}
use Rattle.opgp_frame.specs.Header.{is_type}
use Rattle.opgp_packet.specs.SignatureBody.{SignatureValue, of_three, of_four, of_six, of_other}
use Rattle.opgp_packet.specs.SignatureBody.{signature_at}
use Rattle.opgp_state.specs.Date.{date_word}
use Rattle.opgp_stack.specs.KeySize.{key_size, size_words}
use Rattle.opgp_stack.specs.declared.listing.Behind.{Behind}
use Rattle.opgp_stack.specs.declared.listing.Behind.TheVariants.{End, Left}
use Rattle.opgp_io.specs.Texts.{escaped}

-- ---- numbers of a body
-- the number that a field is
abbrev pub field_number : Field → ℕ
field_number (small n) = n
field_number (wide n) = n
field_number (integer m) = 0
field_number (named o) = 0
field_number (bare o) = 0
field_number (subpackets extent subs) = 0

-- the number that the field of this place is, from 0
abbrev pub number_at : List Field → ℕ → ℕ
number_at [] n = 0
number_at (f ∷ fields) zero = field_number f
number_at (f ∷ fields) (suc n) = number_at fields n

abbrev pub fields_of : Result (List Field) BodyFault → List Field
fields_of (Ok fields) = fields
fields_of (Err fault) = []

-- the fields of a key's body (RFC 9580, 5.5.2): version, time of creation, algorithm, ..
abbrev pub key_fields_in : List ℕ → List Field
key_fields_in body = fields_of (body_at key body)

-- ---- lines
-- ` v<version> alg <n> created <n> `
abbrev pub key_numbers : ℕ → ℕ → ℕ → List ℕ
key_numbers version created algorithm = codes " v" ++ decimal version ++ codes " alg "
    ++ decimal algorithm ++ codes " created " ++ decimal created ++ codes " "

-- `<fingerprint> <key ID>`
abbrev pub key_names : List ℕ → List ℕ → List ℕ
key_names print id = encode_upper print ++ (codes " " ++ encode_upper id)

-- `pub` or `sub`, `v<version> alg <n> created <n> <fingerprint> <key ID>`
abbrev pub key_text : List ℕ → ℕ → ℕ → ℕ → List ℕ → List ℕ
key_text word version created algorithm body = word
    ++ (key_numbers version created algorithm
    ++ key_names (print_octets (fingerprint_of version body)) (key_id_of version body))

abbrev pub key_start : List ℕ → List ℕ → List ℕ
key_start word body = let fields = key_fields_in body in
    key_text word (number_at fields 0) (number_at fields 1) (number_at fields 2) body

abbrev pub key_line : List ℕ → List ℕ → List ℕ
key_line word body = key_start word body ++ codes "\n"

-- the same with the date of its creation and its size at the end
abbrev pub dated_key_line : List ℕ → List ℕ → List ℕ
dated_key_line word body = key_start word body
    ++ (date_word (number_at (key_fields_in body) 1) ++ size_words (key_size body))

-- `sig v<version> type <T> alg <n> hash <n>`, the type in two hexadecimal digits
abbrev pub typed_start : ℕ → ℕ → ℕ → ℕ → List ℕ
typed_start version kind algorithm hash =
    codes "sig v" ++ decimal version ++ codes " type " ++ encode_upper (kind ∷ [])
    ++ codes " alg " ++ decimal algorithm ++ codes " hash " ++ decimal hash

-- what follows that: the end of the line, or the left 16 bits of the hash
abbrev pub behind_text : Behind → List ℕ
behind_text End = codes "\n"
behind_text Left = codes " left "

abbrev pub typed_text : ℕ → ℕ → ℕ → ℕ → List ℕ
typed_text version kind algorithm hash = typed_start version kind algorithm hash ++ codes "\n"

-- `sig opaque <length>`
abbrev pub opaque_text : ℕ → List ℕ
opaque_text n = codes "sig opaque " ++ decimal n ++ codes "\n"

-- By version (RFC 9580, 5.2.2 and 5.2.3): in versions 4 and 6 the fields are version, type,
-- algorithm, hash, ..; in version 3 version, a length, type, time, issuer, algorithm, hash, ..
abbrev pub signature_text : SignatureValue → List ℕ
signature_text (of_three fields) =
    typed_text 3 (number_at fields 2) (number_at fields 5) (number_at fields 6)
signature_text (of_four fields) =
    typed_text 4 (number_at fields 1) (number_at fields 2) (number_at fields 3)
signature_text (of_six fields) =
    typed_text 6 (number_at fields 1) (number_at fields 2) (number_at fields 3)
signature_text (of_other octets) = opaque_text (length octets)

-- of a body of this length, as it is read; one that is no signature's is opaque (5.2.5)
abbrev pub read_text : ℕ → Result SignatureValue BodyFault → List ℕ
read_text n (Ok v) = signature_text v
read_text n (Err fault) = opaque_text n

abbrev pub signature_line : List ℕ → List ℕ
signature_line body = read_text (length body) (signature_at body)

-- `uid "<text>"`
abbrev pub user_id_line : List ℕ → List ℕ
user_id_line body = codes "uid \"" ++ escaped body ++ codes "\"\n"

-- `uat <number of subpackets>`
abbrev pub attribute_line : List ℕ → List ℕ
attribute_line body = codes "uat " ++ decimal (length (subs_in body)) ++ codes "\n"

-- `pkt <type> <length>`
abbrev pub filler_line : ℕ → ℕ → List ℕ
filler_line kind n = codes "pkt " ++ decimal kind ++ codes " " ++ decimal n ++ codes "\n"

-- the line of a packet of a keyring, by its type
abbrev pub packet_line : PacketValue → List ℕ
packet_line p =
    if is_type packet.PublicKey p.kind then key_line (codes "pub") p.body
    else (if is_type packet.PublicSubkey p.kind then key_line (codes "sub") p.body
    else (if is_type packet.UserId p.kind then user_id_line p.body
    else (if is_type packet.UserAttribute p.kind then attribute_line p.body
    else (if is_type packet.Signature p.kind then signature_line p.body
    else filler_line p.kind (length p.body)))))

abbrev pub listing : List PacketValue → List ℕ
listing packets = flat_map packet_line packets
