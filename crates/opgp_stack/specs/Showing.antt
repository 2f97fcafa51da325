-- The lines that show packets: one for each packet, and one for each subpacket of a signature.
use Rattle.std.specs.Prelude.{ℕ, if◌then◌else◌, Bool, true, false, List, [], ◌++◌, length}
use Rattle.std.specs.Prelude.{codes, Result, Ok, Err}
use Rattle.std.specs.Fmt.{decimal}
use Rattle.std.specs.List.{flat_map}
use Rattle.opgp_octets.specs.declared.fault.BodyFault.{BodyFault}
use Rattle.opgp_octets.specs.declared.packet_type.PacketType.TheVariants as packet
use Rattle.opgp_octets.specs.SubLen.{sub_len_amount}
use Rattle.opgp_octets.specs.SubpacketKind.{subpacket_kind_of}
use Rattle.opgp_packet.specs.Subpackets.{Sub}
use Rattle.opgp_frame.specs.declared.form.Form.{Form}
use Rattle.opgp_frame.specs.declared.form.Form.TheVariants as forms
use Rattle.opgp_frame.specs.declared.packet.Placed.{Placed}
use Rattle.opgp_packet.specs.Areas.{hashed_subs, unhashed_subs}
use Rattle.opgp_packet.specs.Meaning.{Meaning, typed, unfit, unknown}
use Rattle.opgp_packet.specs.MeaningReading.{meaning_of}
use Rattle.opgp_packet.specs.SignatureBody.{SignatureValue, signature_at}
use Rattle.opgp_packet.specs.SubView.{is_critical, kind_shown}
use Rattle.opgp_frame.specs.Header.{is_type}
use Rattle.opgp_codec.specs.Packets.{BlockValue}
use Rattle.opgp_stack.specs.declared.showing.Area.{Area}
use Rattle.opgp_stack.specs.declared.showing.Area.TheVariants.{Hashed, Unhashed}

-- ---- names
-- of the forms of a packet's length (RFC 9580, 4.2)
abbrev pub form_name : Form → List ℕ
form_name forms.OldOne = codes "old1"
form_name forms.OldTwo = codes "old2"
form_name forms.OldFour = codes "old4"
form_name forms.NewOne = codes "new1"
form_name forms.NewTwo = codes "new2"
form_name forms.NewFive = codes "new5"
form_name (forms.Partial pieces) = codes "part"

-- of the areas of a signature (RFC 9580, 5.2.3)
abbrev pub area_name : Area → List ℕ
area_name Hashed = codes "hashed"
area_name Unhashed = codes "unhashed"

-- of what is known of a subpacket
abbrev pub meaning_name : Meaning → List ℕ
meaning_name (typed kind form fields) = codes "typed"
meaning_name unfit = codes "unfit"
meaning_name unknown = codes "unknown"

-- of a bit
abbrev pub bit_name : Bool → List ℕ
bit_name true = codes "1"
bit_name false = codes "0"

-- ---- lines
-- `block <b> at <pos>`
abbrev pub place_text : ℕ → ℕ → List ℕ
place_text block pos = codes "block " ++ decimal block ++ codes " at " ++ decimal pos

-- ` type <n> form <f> length <n>`
abbrev pub shape_text : ℕ → Form → ℕ → List ℕ
shape_text kind form n = codes " type " ++ decimal kind ++ codes " form " ++ form_name form
    ++ codes " length " ++ decimal n ++ codes "\n"

-- a packet's place, its type, its form and the length of its body
abbrev pub header_line : Placed → List ℕ
header_line p = place_text p.block p.pos
    ++ shape_text p.packet.kind p.packet.form (length p.packet.body)

-- `  <area> kind <n> critical <0 or 1> length <n> <typed, unfit or unknown>`, where the length
-- includes the type octet, as in the subpacket
abbrev pub subpacket_start : Area → Sub → List ℕ
subpacket_start area s =
    codes "  " ++ area_name area ++ codes " kind " ++ decimal (kind_shown s.kind)
    ++ codes " critical " ++ bit_name (is_critical s.kind)
    ++ codes " length " ++ decimal (sub_len_amount s.len) ++ codes " "
    ++ meaning_name (meaning_of (subpacket_kind_of (kind_shown s.kind)) s.octets)

abbrev pub subpacket_line : Area → Sub → List ℕ
subpacket_line area s = subpacket_start area s ++ codes "\n"

abbrev pub area_lines : Area → List Sub → List ℕ
area_lines area subs = flat_map (subpacket_line area) subs

-- ---- of packets
-- of the subpackets of a signature, those of the hashed area first
abbrev pub value_lines : Result SignatureValue BodyFault → List ℕ
value_lines (Ok v) = area_lines Hashed (hashed_subs v) ++ area_lines Unhashed (unhashed_subs v)
value_lines (Err fault) = []

abbrev pub signature_lines : List ℕ → List ℕ
signature_lines body = value_lines (signature_at body)

abbrev pub content_lines : ℕ → List ℕ → List ℕ
content_lines kind body = if is_type packet.Signature kind then signature_lines body else []

abbrev pub packet_lines : Placed → List ℕ
packet_lines p = header_line p ++ content_lines p.packet.kind p.packet.body

abbrev pub shown : List Placed → List ℕ
shown packets = flat_map packet_lines packets

-- of blocks, in order
abbrev pub lines_of : (Placed → List ℕ) → List BlockValue → List ℕ
lines_of lines blocks = flat_map (λ b. flat_map lines b.packets) blocks

abbrev pub shown_blocks : List BlockValue → List ℕ
shown_blocks = lines_of packet_lines
