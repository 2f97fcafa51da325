-- The lines of a keyring's listing with values: those of keys and signatures say more, and the
-- others are the same.
use Rattle.std.specs.Prelude.{ℕ, ◌-◌, if◌then◌else◌, List, ◌++◌, length, take, codes}
use Rattle.std.specs.Prelude.{Option, Some, None, Result, Ok, Err}
use Rattle.std.specs.List.{flat_map}
use Rattle.hex.specs.Hex.{encode_upper}
use Rattle.opgp_octets.specs.declared.fault.BodyFault.{BodyFault}
use Rattle.opgp_octets.specs.declared.packet_type.PacketType.TheVariants as packet
use Rattle.opgp_octets.specs.declared.subpacket_kind.SubpacketKind.TheVariants as kind
use Rattle.opgp_packet.specs.Areas.{hashed_subs}
use Rattle.opgp_packet.specs.Forms as form
use Rattle.opgp_packet.specs.SignatureBody.{SignatureValue, of_three}
use Rattle.opgp_packet.specs.SignatureBody.{signature_at}
use Rattle.opgp_packet.specs.Subpackets.{Sub}
use Rattle.opgp_packet.specs.SubView.{fields_of}
use Rattle.opgp_frame.specs.Header.{is_type}
use Rattle.opgp_frame.specs.Packet.{PacketValue}
use Rattle.opgp_report.specs.Left.{left_in}
use Rattle.opgp_report.specs.Named.{named_of}
use Rattle.opgp_report.specs.Signer.{NameValue, by_print, by_id, unnamed, first_some}
use Rattle.opgp_state.specs.Date.{date_words_or_none}
use Rattle.opgp_stack.specs.Listing.{dated_key_line, number_at, packet_line}
use Rattle.opgp_state.specs.Report.{number_or_none}

-- ---- what a signature says
-- the creation time that a subpacket states (RFC 9580, 5.2.3.11)
abbrev pub created_in : Sub → Option ℕ
created_in s = fields_of kind.Created form.number s

-- when it was made: in version 3 its fourth field (5.2.2), in versions 4 and 6 the first time in
-- its hashed area
abbrev pub created_of : SignatureValue → Option ℕ
created_of (of_three fields) = Some (number_at fields 3)
created_of signature = first_some created_in (hashed_subs signature)

-- ---- lines
-- a fingerprint or a key ID, or `-` for none
abbrev pub name_text : NameValue → List ℕ
name_text (by_print version octets) = encode_upper octets
name_text (by_id id) = encode_upper id
name_text unnamed = codes "-"

-- ` left <DDDD>`, ` created <n or ->`, ` issuer <fingerprint, key ID or ->` and ` <date or ->`
abbrev pub left_words : List ℕ → List ℕ
left_words left = codes " left " ++ encode_upper left

abbrev pub created_words : Option ℕ → List ℕ
created_words created = codes " created " ++ number_or_none created

abbrev pub issuer_words : NameValue → List ℕ
issuer_words name = codes " issuer " ++ name_text name

abbrev pub value_words : List ℕ → Option ℕ → NameValue → List ℕ
value_words left created name = left_words left
    ++ (created_words created ++ (issuer_words name ++ date_words_or_none created))

-- a line without its line feed
abbrev pub unended : List ℕ → List ℕ
unended line = take (length line - 1) line

-- a line goes on with these words, if the signature states the left 16 bits of a hash
abbrev pub going_on : Option (List ℕ) → SignatureValue → List ℕ → List ℕ
going_on None signature line = line
going_on (Some left) signature line =
    unended line ++ value_words left (created_of signature) (named_of signature)

abbrev pub with_values : Result SignatureValue BodyFault → List ℕ → List ℕ
with_values (Ok signature) line = going_on (left_in signature) signature line
with_values (Err fault) line = line

-- the line of a packet of a keyring; that of a key goes on with a date, that of a signature of
-- version 3, 4 or 6 with what it states
abbrev pub valued_packet_line : PacketValue → List ℕ
valued_packet_line p =
    if is_type packet.PublicKey p.kind then dated_key_line (codes "pub") p.body
    else (if is_type packet.PublicSubkey p.kind then dated_key_line (codes "sub") p.body
    else (if is_type packet.Signature p.kind then with_values (signature_at p.body) (packet_line p)
    else packet_line p))

abbrev pub valued_listing : List PacketValue → List ℕ
valued_listing packets = flat_map valued_packet_line packets
