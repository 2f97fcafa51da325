-- The lines that show packets with what they say: for each packet its fields, and behind each
-- subpacket of a signature what it means.
use Rattle.std.specs.Prelude.{ℕ, ◌==◌, bit_and, if◌then◌else◌, List, [], ◌∷◌, ◌++◌, length}
use Rattle.std.specs.Prelude.{codes, Result, Ok, Err}
use Rattle.std.specs.Fmt.{decimal}
use Rattle.std.specs.List.{flat_map}
use Rattle.hex.specs.Hex.{encode_upper}
use Rattle.opgp_octets.specs.declared.fault.BodyFault.{BodyFault}
use Rattle.opgp_octets.specs.declared.packet_type.PacketType.TheVariants as packet
use Rattle.opgp_octets.specs.declared.subpacket_kind.SubpacketKind.TheVariants as kind
use Rattle.opgp_octets.specs.SubpacketKind.{subpacket_kind_of}
use Rattle.opgp_frame.specs.declared.packet.Placed.{Placed}
use Rattle.opgp_frame.specs.Header.{is_type}
use Rattle.opgp_packet.specs.Areas.{hashed_subs, unhashed_subs}
use Rattle.opgp_packet.specs.AttributeBody.{attribute}
use Rattle.opgp_packet.specs.FieldReading.{body_at}
use Rattle.opgp_packet.specs.Fields.{Field, small, named, wide, bare}
use Rattle.opgp_packet.specs.Flags.{feature_rows, key_flag_rows, server_rows}
use Rattle.opgp_packet.specs.Forms as form
use Rattle.opgp_packet.specs.KeyBody.{key}
use Rattle.opgp_packet.specs.LiteralBody.{literal}
use Rattle.opgp_packet.specs.Meaning.{Meaning, typed}
use Rattle.opgp_packet.specs.MeaningReading.{meaning_of}
use Rattle.opgp_packet.specs.SignatureBody.{SignatureValue, signature_at}
use Rattle.opgp_packet.specs.Subpackets.{Sub}
use Rattle.opgp_packet.specs.SubView.{kind_shown}
use Rattle.opgp_codec.specs.Packets.{BlockValue}
use Rattle.opgp_stack.specs.declared.showing.Area.{Area}
use Rattle.opgp_stack.specs.declared.showing.Area.TheVariants.{Hashed, Unhashed}
use Rattle.opgp_state.specs.Date.{date_words}
use Rattle.opgp_stack.specs.Listing.{attribute_line, dated_key_line, signature_line, user_id_line}
use Rattle.opgp_stack.specs.Showing.{header_line, lines_of, subpacket_start}
use Rattle.opgp_io.specs.Texts.{escaped}

-- ---- what stands in a line
-- `"<text>"`
abbrev pub quoted : List ℕ → List ℕ
quoted o = codes "\"" ++ escaped o ++ codes "\""

-- octets in hexadecimal, `-` for none
abbrev pub digits_or_none : List ℕ → List ℕ
digits_or_none [] = codes "-"
digits_or_none (n ∷ o) = encode_upper (n ∷ o)

-- each in decimal, behind a space
abbrev pub number_text : ℕ → List ℕ
number_text n = codes " " ++ decimal n

abbrev pub numbers_text : List ℕ → List ℕ
numbers_text o = flat_map number_text o

-- the first octet of flags: those that have a name are in it
abbrev pub first_flags : List ℕ → ℕ
first_flags [] = 0
first_flags (n ∷ o) = n

-- the name of a flag behind a space, if its bit is set
abbrev pub flag_word : ℕ → ℕ × List ℕ → List ℕ
flag_word n flag = if bit_and n flag.0 == 0 then [] else codes " " ++ flag.1

abbrev pub flag_words : ℕ → List (ℕ × List ℕ) → List ℕ
flag_words n flags = flat_map (flag_word n) flags

-- ---- ends of lines: a word, and behind it
-- a number
abbrev pub number_line : List ℕ → ℕ → List ℕ
number_line word n = word ++ decimal n ++ codes "\n"

-- a time, and its date
abbrev pub time_words : List ℕ → ℕ → List ℕ
time_words word n = word ++ decimal n

abbrev pub time_line : List ℕ → ℕ → List ℕ
time_line word n = time_words word n ++ date_words n

-- two numbers, each behind its word
abbrev pub pair_line : List ℕ → ℕ → List ℕ → ℕ → List ℕ
pair_line word n next m = word ++ decimal n ++ next ++ decimal m ++ codes "\n"

-- a text
abbrev pub text_line : List ℕ → List ℕ → List ℕ
text_line word o = word ++ quoted o ++ codes "\n"

-- octets
abbrev pub digits_line : List ℕ → List ℕ → List ℕ
digits_line word o = word ++ digits_or_none o ++ codes "\n"

-- numbers
abbrev pub numbers_line : List ℕ → List ℕ → List ℕ
numbers_line word o = word ++ numbers_text o ++ codes "\n"

-- flags, in hexadecimal and by name
abbrev pub flags_line : List ℕ → List ℕ → List (ℕ × List ℕ) → List ℕ
flags_line word o names = word ++ digits_or_none o ++ flag_words (first_flags o) names ++ codes "\n"

-- two numbers, each behind its word, and octets
abbrev pub pair_digits_line : List ℕ → ℕ → List ℕ → ℕ → List ℕ → List ℕ
pair_digits_line word n next m o = word ++ decimal n ++ next ++ decimal m
    ++ (codes " " ++ digits_or_none o ++ codes "\n")

-- a key's version and fingerprint
abbrev pub print_line : List ℕ → ℕ → List ℕ → List ℕ
print_line word version o = word ++ decimal version ++ codes " " ++ encode_upper o ++ codes "\n"

-- flags, a name and a value
abbrev pub notation_line : ℕ → List ℕ → List ℕ → List ℕ
notation_line flags name value = codes " notation " ++ decimal flags ++ codes " " ++ quoted name
    ++ codes " " ++ quoted value ++ codes "\n"

-- a code and a text
abbrev pub reason_line : ℕ → List ℕ → List ℕ
reason_line code text = codes " reason " ++ decimal code ++ codes " " ++ quoted text ++ codes "\n"

-- The end of a subpacket's line: what it means (RFC 9580, 5.2.3.11 to 5.2.3.36); its octets where
-- they mean nothing that is known.
abbrev pub value_line : Meaning → List ℕ → List ℕ
value_line (typed kind.Created form.number n) o = time_line (codes " created ") n
value_line (typed kind.Expires form.number n) o = number_line (codes " expires ") n
value_line (typed kind.Exportable form.octet n) o = number_line (codes " exportable ") n
value_line (typed kind.Trust form.two_octets x) o =
    pair_line (codes " trust level ") x.0 (codes " amount ") x.1
value_line (typed kind.RegularExpression form.ended_text text) o = text_line (codes " regex ") text
value_line (typed kind.Revocable form.octet n) o = number_line (codes " revocable ") n
value_line (typed kind.KeyExpires form.number n) o = number_line (codes " key-expires ") n
value_line (typed kind.PreferredSymmetric form.octets list) o =
    numbers_line (codes " symmetric") list
value_line (typed kind.RevocationKey form.revoker x) o =
    pair_digits_line (codes " revocation-key class ") x.0 (codes " alg ") x.1 x.2
value_line (typed kind.Issuer form.key_id id) o = digits_line (codes " issuer ") id
value_line (typed kind.Notation form.notation x) o = notation_line x.0 x.1 x.2
value_line (typed kind.PreferredHash form.octets list) o = numbers_line (codes " hash") list
value_line (typed kind.PreferredCompression form.octets list) o =
    numbers_line (codes " compression") list
value_line (typed kind.KeyServerPreferences form.octets flags) o =
    flags_line (codes " server-flags ") flags server_rows
value_line (typed kind.PreferredKeyServer form.octets text) o =
    text_line (codes " key-server ") text
value_line (typed kind.PrimaryUserId form.octet n) o = number_line (codes " primary-user-id ") n
value_line (typed kind.PolicyUri form.octets text) o = text_line (codes " policy ") text
value_line (typed kind.KeyFlags form.octets flags) o =
    flags_line (codes " key-flags ") flags key_flag_rows
value_line (typed kind.SignersUserId form.octets text) o =
    text_line (codes " signers-user-id ") text
value_line (typed kind.RevocationReason form.code_and_text x) o = reason_line x.0 x.1
value_line (typed kind.Features form.octets flags) o =
    flags_line (codes " features ") flags feature_rows
value_line (typed kind.SignatureTarget form.target x) o =
    pair_digits_line (codes " target alg ") x.0 (codes " hash ") x.1 x.2
value_line (typed kind.EmbeddedSignature form.signature body) o = codes " " ++ signature_line o
value_line (typed kind.IssuerFingerprint form.fingerprint x) o =
    print_line (codes " issuer-fingerprint v") x.0 x.1
value_line (typed kind.IntendedRecipient form.fingerprint x) o =
    print_line (codes " recipient v") x.0 x.1
value_line (typed kind.PreferredAead form.pairs list) o = numbers_line (codes " aead") list
value_line m o = digits_line (codes " ") o

-- ---- of packets
abbrev pub valued_line : Area → Sub → List ℕ
valued_line area s = subpacket_start area s
    ++ value_line (meaning_of (subpacket_kind_of (kind_shown s.kind)) s.octets) s.octets

abbrev pub valued_area : Area → List Sub → List ℕ
valued_area area subs = flat_map (valued_line area) subs

abbrev pub valued_areas : Result SignatureValue BodyFault → List ℕ
valued_areas (Ok v) = valued_area Hashed (hashed_subs v) ++ valued_area Unhashed (unhashed_subs v)
valued_areas (Err fault) = []

-- a line, where a body has no fault
abbrev pub where_sound : {A : Type 0} → Result A BodyFault → List ℕ → List ℕ
where_sound (Ok value) line = codes "  " ++ line
where_sound (Err fault) line = []

-- `lit format "<f>" name "<text>" date <n> length <n> <date>`, the length that of the content
abbrev pub format_text : ℕ → List ℕ
format_text format = codes "  lit format " ++ quoted (format ∷ [])

abbrev pub literal_words : List ℕ → ℕ → ℕ → List ℕ
literal_words name date n = codes " name " ++ quoted name ++ codes " date " ++ decimal date
    ++ codes " length " ++ decimal n

abbrev pub literal_rest : List ℕ → ℕ → ℕ → List ℕ
literal_rest name date n = literal_words name date n ++ date_words date

abbrev pub literal_text : Result (List Field) BodyFault → List ℕ
literal_text (Ok (small format ∷ named name ∷ wide date ∷ bare content ∷ [])) =
    format_text format ++ literal_rest name date (length content)
literal_text r = []

-- the fields of a packet, as in a listing, by its type; of a key with its date
abbrev pub fields_line : ℕ → List ℕ → List ℕ
fields_line n body =
    if is_type packet.PublicKey n then
    where_sound (body_at key body) (dated_key_line (codes "pub") body)
    else (if is_type packet.PublicSubkey n
    then where_sound (body_at key body) (dated_key_line (codes "sub") body)
    else (if is_type packet.UserId n then codes "  " ++ user_id_line body
    else (if is_type packet.UserAttribute n
    then where_sound (body_at attribute body) (attribute_line body)
    else (if is_type packet.Signature n
    then (codes "  " ++ signature_line body) ++ valued_areas (signature_at body)
    else (if is_type packet.LiteralData n then literal_text (body_at literal body)
    else [])))))

abbrev pub valued_lines : Placed → List ℕ
valued_lines p = header_line p ++ fields_line p.packet.kind p.packet.body

-- of blocks, in order
abbrev pub valued_blocks : List BlockValue → List ℕ
valued_blocks = lines_of valued_lines
