-- What is kept of the header of a packet (RFC 9580, 4.2).
use Rattle.std.specs.Prelude.{ℕ, ◌+◌, List, [], ◌∷◌, take, drop}
use Rattle.opgp_frame.specs.declared.form.Form.{Form}
use Rattle.opgp_frame.specs.declared.form.Form.TheVariants as forms
use Rattle.opgp_frame.specs.Packet.{PacketValue}
use Rattle.opgp_frame.specs.Reframed.{shortest_form}
use Rattle.opgp_keyring.specs.declared.header.Header.{Header}
use Rattle.opgp_keyring.specs.declared.header.Plain.{Plain}
use Rattle.opgp_keyring.specs.declared.header.Plain.TheVariants as plains

abbrev pub plain_form : Plain → Form
plain_form plains.OldOne = forms.OldOne
plain_form plains.OldTwo = forms.OldTwo
plain_form plains.OldFour = forms.OldFour
plain_form plains.NewOne = forms.NewOne
plain_form plains.NewTwo = forms.NewTwo
plain_form plains.NewFive = forms.NewFive

abbrev pub plain_of : Form → Plain
plain_of forms.OldOne = plains.OldOne
plain_of forms.OldTwo = plains.OldTwo
plain_of forms.OldFour = plains.OldFour
plain_of forms.NewOne = plains.NewOne
plain_of forms.NewTwo = plains.NewTwo
plain_of other = plains.NewFive

-- the shortest and the longest body that a form encodes without pieces (RFC 9580, 4.2.1, 4.2.2):
-- none, where it has pieces
abbrev pub least_len : Form → ℕ
least_len forms.NewTwo = 192
least_len (forms.Partial p) = 1
least_len other = 0

abbrev pub most_len : Form → ℕ
most_len forms.OldOne = 255
most_len forms.OldTwo = 65535
most_len forms.OldFour = 4294967295
most_len forms.NewOne = 191
most_len forms.NewTwo = 8383
most_len forms.NewFive = 4294967295
most_len (forms.Partial p) = 0

-- the packet with this header and this body
abbrev pub packet_with : Header → List ℕ → PacketValue
packet_with header body = record { form = plain_form header.plain; kind = header.kind; body = body }

-- how long the bodies are together
abbrev pub sizes : List Header → ℕ
sizes [] = 0
sizes (p ∷ ps) = p.len + sizes ps

-- the packets whose bodies stand one after the other
abbrev pub packets_with : List ℕ → List Header → List PacketValue
packets_with bodies [] = []
packets_with bodies (p ∷ ps) =
    packet_with p (take p.len bodies) ∷ packets_with (drop p.len bodies) ps

-- the header with the shortest form of its body's length
abbrev pub normal_header : Header → Header
normal_header p = record { len = p.len; kind = p.kind; plain = plain_of (shortest_form p.len) }
