-- Packets and their encodings (RFC 9580, 4.2).
use Rattle.std.specs.Prelude.{◌≡◌, ℕ, ◌^◌, true, List, [], ◌∷◌, ◌++◌, length, take, drop}
use Rattle.std.specs.List.{flat_map}
use Rattle.opgp_octets.specs.Octets.{IsOctets}
use Rattle.opgp_octets.specs.PacketLen.{packet_len_octets}
use Rattle.opgp_octets.specs.declared.packet_len.PacketLen.TheVariants as new
use Rattle.opgp_frame.specs.declared.form.Form.{Form}
use Rattle.opgp_frame.specs.Form.{FormSpells, form_takes, header_octet, exponents_of, last_length}
use Rattle.opgp_frame.specs.Header.{is_read_kind}
use Rattle.opgp_frame.specs.Length.{length_octets}

-- a packet, by the contents of its vectors
pub record PacketValue : Type 0 where
  pub form : Form
  pub kind : ℕ
  pub body : List ℕ

-- its type is read and may have the form, and the form encodes the body's length
pub record IsPacket (p : PacketValue) : Type 0 where
  pub kind : is_read_kind p.kind ≡ true
  pub takes : form_takes p.form p.kind ≡ true
  pub spells : FormSpells p.form (length p.body)
  pub octets : IsOctets p.body

-- A body cut by the exponents: each piece after its own partial length, then the last length, then
-- the rest.
abbrev pub cut_body : List ℕ → List ℕ → List ℕ → List ℕ
cut_body [] last body = last ++ body
cut_body (k ∷ ks) last body =
    packet_len_octets (new.Partial k) ++ (take (2 ^ k) body ++ cut_body ks last (drop (2 ^ k) body))

-- the octets of a packet: the header's octet, and the body under its form
abbrev pub spelling : PacketValue → List ℕ
spelling p = header_octet p.form p.kind
    ∷ cut_body (exponents_of p.form) (length_octets (last_length p.form (length p.body))) p.body

-- the encodings of packets, joined
abbrev pub packets_octets : List PacketValue → List ℕ
packets_octets packets = flat_map spelling packets
