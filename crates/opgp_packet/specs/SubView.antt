-- The value of a subpacket of a signature.
use Rattle.std.specs.Prelude.{ℕ, ◌%◌, ◌==◌, if◌then◌else◌, Bool, nat_le, List, Option, None}
use Rattle.opgp_octets.specs.SubpacketKind.{subpacket_kind_number}
use Rattle.opgp_octets.specs.declared.subpacket_kind.SubpacketKind.{SubpacketKind}
use Rattle.opgp_octets.specs.declared.subpacket_kind.SubpacketKind.TheVariants as kind
use Rattle.opgp_packet.specs.Forms.{Form, Fields}
use Rattle.opgp_packet.specs.Forms as form
use Rattle.opgp_packet.specs.MeaningReading.{fields_in}
use Rattle.opgp_packet.specs.Subpackets.{Sub}
use Rattle.opgp_packet.specs.Subpacket.{sub_seen}
use Rattle.opgp_packet.specs.declared.sub_view.SubView.{SubView}

abbrev pub sub_shown : SubView → Sub
sub_shown s = sub_seen s.sub

-- bit 7 of the type octet says that the subpacket is critical
abbrev pub is_critical : ℕ → Bool
is_critical kind = nat_le 128 kind

-- the other bits are its kind
abbrev pub kind_shown : ℕ → ℕ
kind_shown kind = kind % 128

-- its fields, if it is of the kind and its data has the form
abbrev pub fields_of : SubpacketKind → (f : Form) → Sub → Option (Fields f)
fields_of k f s =
    if kind_shown s.kind == subpacket_kind_number k then fields_in f s.octets else None

-- the key ID that it states as the issuer's (5.2.3.12)
abbrev pub issuer_in : Sub → Option (List ℕ)
issuer_in s = fields_of kind.Issuer form.key_id s

-- the version and fingerprint that it states as the issuer's (5.2.3.35)
abbrev pub issuer_fingerprint_in : Sub → Option (ℕ × List ℕ)
issuer_fingerprint_in s = fields_of kind.IssuerFingerprint form.fingerprint s
