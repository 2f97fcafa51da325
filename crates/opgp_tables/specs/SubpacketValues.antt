-- What a subpacket's data says, as two numbers and two fields of octets (RFC 9580, 5.2.3.11 to
-- 5.2.3.36).
use Rattle.std.specs.Prelude.{ℕ, List, [], ◌∷◌, length, map, Option, Some, None}
use Rattle.opgp_packet.specs.Forms.{Form, Fields}
use Rattle.opgp_packet.specs.Forms as form
use Rattle.opgp_packet.specs.Meaning.{Meaning}
use Rattle.opgp_packet.specs.SubFields.{Formed, fields_in}
use Rattle.opgp_tables.specs.declared.subpacket_values.SubpacketValues.{SubpacketValues}

abbrev pub form_number : Form → ℕ
form_number form.number = 1
form_number form.octet = 2
form_number form.two_octets = 3
form_number form.ended_text = 4
form_number form.octets = 5
form_number form.revoker = 6
form_number form.key_id = 7
form_number form.notation = 8
form_number form.code_and_text = 9
form_number form.target = 10
form_number form.signature = 11
form_number form.fingerprint = 12
form_number form.pairs = 13

-- the fields that are numbers, and zeros after them
abbrev pub numbers_in : (f : Form) → Fields f → List ℕ
numbers_in form.number n = n ∷ 0 ∷ []
numbers_in form.octet n = n ∷ 0 ∷ []
numbers_in form.two_octets x = x.0 ∷ x.1 ∷ []
numbers_in form.ended_text text = 0 ∷ 0 ∷ []
numbers_in form.octets o = 0 ∷ 0 ∷ []
numbers_in form.revoker x = x.0 ∷ x.1 ∷ []
numbers_in form.key_id id = 0 ∷ 0 ∷ []
numbers_in form.notation x = x.0 ∷ 0 ∷ []
numbers_in form.code_and_text x = x.0 ∷ 0 ∷ []
numbers_in form.target x = x.0 ∷ x.1 ∷ []
numbers_in form.signature body = 0 ∷ 0 ∷ []
numbers_in form.fingerprint x = x.0 ∷ 0 ∷ []
numbers_in form.pairs o = 0 ∷ 0 ∷ []

-- the fields that are octets, and empty ones after them
abbrev pub octets_in : (f : Form) → Fields f → List (List ℕ)
octets_in form.number n = [] ∷ [] ∷ []
octets_in form.octet n = [] ∷ [] ∷ []
octets_in form.two_octets x = [] ∷ [] ∷ []
octets_in form.ended_text text = text ∷ [] ∷ []
octets_in form.octets o = o ∷ [] ∷ []
octets_in form.revoker x = x.2 ∷ [] ∷ []
octets_in form.key_id id = id ∷ [] ∷ []
octets_in form.notation x = x.1 ∷ x.2 ∷ []
octets_in form.code_and_text x = x.1 ∷ [] ∷ []
octets_in form.target x = x.2 ∷ [] ∷ []
octets_in form.signature body = body ∷ [] ∷ []
octets_in form.fingerprint x = x.1 ∷ [] ∷ []
octets_in form.pairs o = o ∷ [] ∷ []

-- how many octets of the data are before these
abbrev pub before_octets : Form → ℕ
before_octets form.number = 4
before_octets form.octet = 1
before_octets form.two_octets = 2
before_octets form.ended_text = 0
before_octets form.octets = 0
before_octets form.revoker = 2
before_octets form.key_id = 0
before_octets form.notation = 8
before_octets form.code_and_text = 1
before_octets form.target = 2
before_octets form.signature = 0
before_octets form.fingerprint = 1
before_octets form.pairs = 0

-- of data without a form nothing is said
abbrev pub no_values : SubpacketValues
no_values = record {
  form = 0;
  numbers = 0 ∷ 0 ∷ [];
  before = 0;
  sizes = 0 ∷ 0 ∷ [];
}

abbrev pub values_by : Option Formed → SubpacketValues
values_by None = no_values
values_by (Some x) = record {
  form = form_number x.0;
  numbers = numbers_in x.0 x.1;
  before = before_octets x.0;
  sizes = map length (octets_in x.0 x.1);
}

abbrev pub values_of : Meaning → SubpacketValues
values_of m = values_by (fields_in m)
