-- A field as a line: where it is, its length, its name, its value, and the section that says what
-- it is.
use Rattle.std.specs.Prelude.{ℕ, ◌+◌, ◌*◌, nat_le, ◌==◌, if◌then◌else◌, List, [], ◌∷◌, ◌++◌, length}
use Rattle.std.specs.Prelude.{take, drop, codes, Option, Some, None}
use Rattle.std.specs.Fmt.{decimal}
use Rattle.std.specs.List.{flat_map}
use Rattle.hex.specs.Hex.{encode_upper}
use Rattle.opgp_io.specs.Texts.{escaped}
use Rattle.opgp_octets.specs.declared.subpacket_kind.SubpacketKind.{SubpacketKind}
use Rattle.opgp_octets.specs.declared.subpacket_kind.SubpacketKind.TheVariants as kind
use Rattle.opgp_hash.specs.Hashed.{hashed}
use Rattle.opgp_hash.specs.QuestionValue.{QuestionValue}
use Rattle.opgp_explain.specs.Field.{placed}
use Rattle.opgp_explain.specs.Fields.{fields_of}
use Rattle.opgp_explain.specs.Meaning.{meaning_name}
use Rattle.opgp_explain.specs.Sections.{meaning_section}
use Rattle.opgp_explain.specs.declared.field.Field.{Field}
use Rattle.opgp_explain.specs.declared.lines.Form.{Form}
use Rattle.opgp_explain.specs.declared.lines.Form.TheVariants.{Number, Text, Octets}
use Rattle.opgp_explain.specs.declared.meaning.Meaning.{Meaning}
use Rattle.opgp_explain.specs.declared.meaning.Meaning.TheVariants as meaning
use Rattle.opgp_explain.specs.declared.meaning.KeyPart.TheVariants as key
use Rattle.opgp_explain.specs.declared.meaning.BodyPart.TheVariants as body
use Rattle.opgp_explain.specs.declared.meaning.SignaturePart.TheVariants as signature
use Rattle.opgp_explain.specs.declared.meaning.SubpacketPart.TheVariants as sub
use Rattle.opgp_explain.specs.declared.meaning.TrailerPart.TheVariants as trailer

-- Versions, times, lengths and algorithms are numbers, but that of a subpacket has forms of its own
-- (5.2.3.7); user IDs and addresses are texts.
abbrev pub form_of_data : SubpacketKind → Form
form_of_data kind.Created = Number
form_of_data kind.Expires = Number
form_of_data kind.KeyExpires = Number
form_of_data kind.SignersUserId = Text
form_of_data kind.PolicyUri = Text
form_of_data kind.PreferredKeyServer = Text
form_of_data other = Octets

abbrev pub form_of : Meaning → Form
form_of (meaning.Key role key.Prefix) = Octets
form_of (meaning.Key role key.Material) = Octets
form_of (meaning.Key role other) = Number
form_of (meaning.UserId body.Body) = Text
form_of (meaning.UserId body.Length) = Number
form_of (meaning.Attribute body.Length) = Number
form_of (meaning.Signature signature.Type) = Octets
form_of (meaning.Signature other) = Number
form_of (meaning.Subpacket (sub.Data kind)) = form_of_data kind
form_of (meaning.Trailer trailer.Version) = Number
form_of (meaning.Trailer trailer.Length) = Number
form_of other = Octets

-- the number that one, two or four octets are, the highest first
abbrev pub number_in : List ℕ → Option ℕ
number_in (a ∷ []) = Some a
number_in (a ∷ b ∷ []) = Some (a * 256 + b)
number_in (a ∷ b ∷ c ∷ d ∷ []) = Some ((a * 256 + b) * 65536 + (c * 256 + d))
number_in other = None

-- octets in hexadecimal: the first 32, and `..` if there are more, or `-` for none
abbrev pub octets_text : List ℕ → List ℕ
octets_text o =
    if length o == 0 then codes "-"
    else (if nat_le (length o) 32 then encode_upper o
    else encode_upper (take 32 o) ++ codes "..")

abbrev pub number_text : Option ℕ → List ℕ → List ℕ
number_text (Some n) o = decimal n
number_text None o = octets_text o

abbrev pub value_text : Form → List ℕ → List ℕ
value_text Number o = number_text (number_in o) o
value_text Text o = codes "\"" ++ escaped o ++ codes "\""
value_text Octets o = octets_text o

-- the octets at the place of a field
abbrev pub octets_in : List ℕ → Field → List ℕ
octets_in octets f = take f.length (drop f.offset octets)

-- `<offset> <length> <name> <value> <section>`
abbrev pub front_text : Field → List ℕ
front_text f = decimal f.offset ++ codes " " ++ decimal f.length ++ codes " "
    ++ meaning_name f.meaning ++ codes " "

abbrev pub end_text : Field → List ℕ
end_text f = codes " " ++ meaning_section f.meaning ++ codes "\n"

abbrev pub field_line : List ℕ → Field → List ℕ
field_line octets f =
    front_text f ++ (value_text (form_of f.meaning) (octets_in octets f) ++ end_text f)

-- the lines of all fields of what a signature hashes
abbrev pub explained : QuestionValue → List ℕ
explained q = flat_map (field_line (hashed q)) (placed 0 (fields_of q))
