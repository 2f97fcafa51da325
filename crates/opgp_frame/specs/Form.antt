-- The forms of a packet's header (RFC 9580, 4.2).
use Rattle.std.specs.Prelude.{ℕ, ◌+◌, ◌*◌, ◌-◌, ◌^◌, ◌<◌, ◌≤◌, Bool, true, List, [], nat_lt}
use Rattle.opgp_octets.specs.declared.packet_len.PacketLen.TheVariants as new
use Rattle.opgp_frame.specs.declared.length.Length.{Length}
use Rattle.opgp_frame.specs.declared.length.Length.TheVariants as len
use Rattle.opgp_frame.specs.declared.pieces.LastForm.{LastForm}
use Rattle.opgp_frame.specs.declared.pieces.LastForm.TheVariants.{One, Two, Five}
use Rattle.opgp_frame.specs.declared.form.Form.{Form}
use Rattle.opgp_frame.specs.declared.form.Form.TheVariants as forms
use Rattle.opgp_frame.specs.Header.{is_data_kind}
use Rattle.opgp_frame.specs.Length.{LengthFits}
use Rattle.opgp_frame.specs.PiecesValue.{ArePieces, pieces_sum}

-- a length of the current format
abbrev pub current_length : LastForm → ℕ → Length
current_length One n = len.New (new.One n)
current_length Two n = len.New (new.Two n)
current_length Five n = len.New (new.Five n)

-- the exponents of the pieces under partial lengths
abbrev pub exponents_of : Form → List ℕ
exponents_of (forms.Partial p) = p.exponents
exponents_of forms.OldOne = []
exponents_of forms.OldTwo = []
exponents_of forms.OldFour = []
exponents_of forms.NewOne = []
exponents_of forms.NewTwo = []
exponents_of forms.NewFive = []

-- the last length, or the only one without pieces, given how many octets of the body are left for
-- it
abbrev pub length_of_rest : Form → ℕ → Length
length_of_rest forms.OldOne n = len.OldOne n
length_of_rest forms.OldTwo n = len.OldTwo n
length_of_rest forms.OldFour n = len.OldFour n
length_of_rest forms.NewOne n = current_length One n
length_of_rest forms.NewTwo n = current_length Two n
length_of_rest forms.NewFive n = current_length Five n
length_of_rest (forms.Partial p) n = current_length p.last n

-- the last length of a body of n octets
abbrev pub last_length : Form → ℕ → Length
last_length form n = length_of_rest form (n - pieces_sum (exponents_of form))

-- the pieces under partial lengths are allowed
abbrev pub HasPieces : Form → Type 0
HasPieces (forms.Partial p) = ArePieces p.exponents
HasPieces forms.OldOne = Unit {0}
HasPieces forms.OldTwo = Unit {0}
HasPieces forms.OldFour = Unit {0}
HasPieces forms.NewOne = Unit {0}
HasPieces forms.NewTwo = Unit {0}
HasPieces forms.NewFive = Unit {0}

-- The form encodes a body of n octets: it has the pieces, its last length holds what is left, and
-- the body is no longer than a length of four octets can say.
pub record FormSpells (form : Form) (n : ℕ) : Type 0 where
  pub stand : HasPieces form
  pub pieces : pieces_sum (exponents_of form) ≤ n
  pub rest : LengthFits (last_length form n)
  pub most : n < 2 ^ 32

-- packets of a type that is read may have the form
abbrev pub form_takes : Form → ℕ → Bool
form_takes forms.OldOne kind = nat_lt kind 16
form_takes forms.OldTwo kind = nat_lt kind 16
form_takes forms.OldFour kind = nat_lt kind 16
form_takes forms.NewOne kind = true
form_takes forms.NewTwo kind = true
form_takes forms.NewFive kind = true
form_takes (forms.Partial p) kind = is_data_kind kind

-- The octet that begins a packet: bit 7 is set. In the legacy format the type is in bits 5 to 2 and
-- the kind of length in bits 1 and 0. In the current format bit 6 is set, and the type is in bits 5
-- to 0.
abbrev pub header_octet : Form → ℕ → ℕ
header_octet forms.OldOne kind = 128 + 4 * kind
header_octet forms.OldTwo kind = 129 + 4 * kind
header_octet forms.OldFour kind = 130 + 4 * kind
header_octet forms.NewOne kind = 192 + kind
header_octet forms.NewTwo kind = 192 + kind
header_octet forms.NewFive kind = 192 + kind
header_octet (forms.Partial p) kind = 192 + kind
