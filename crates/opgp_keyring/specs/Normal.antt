-- A keyring in the current format, with its shortest lengths.
use Rattle.std.specs.Prelude.{map}
use Rattle.opgp_frame.specs.Packet.{PacketValue}
use Rattle.opgp_frame.specs.Reframed.{IsCurrent, reframed}
use Rattle.opgp_keyring.specs.Keyring.{KeyringValue, CertificateValue, ComponentValue}

abbrev pub normal_component : ComponentValue → ComponentValue
normal_component c = record { head = reframed c.head; hangs = map reframed c.hangs }

abbrev pub normal_certificate : CertificateValue → CertificateValue
normal_certificate c = record {
  primary = reframed c.primary;
  hangs = map reframed c.hangs;
  components = map normal_component c.components;
}

-- the same packets in the same places, each in its shortest form
abbrev pub normal_of : KeyringValue → KeyringValue
normal_of r = record {
  lead = map reframed r.lead;
  certificates = map normal_certificate r.certificates;
}

-- its header has the current format and isn't partial
abbrev pub IsCurrentPacket : PacketValue → Type 0
IsCurrentPacket p = IsCurrent p.form
