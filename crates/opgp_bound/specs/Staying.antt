-- What stays of a certificate, part by part.
use Rattle.std.specs.Prelude.{◌≡◌}
use Rattle.std.specs.List.{Contains}
use Rattle.opgp_frame.specs.Packet.{PacketValue}
use Rattle.opgp_keyring.specs.Keyring.{CertificateValue, ComponentValue}

-- it has a component with this head, and this packet on it
abbrev pub HasOn : CertificateValue → PacketValue → PacketValue → Type 0
HasOn c head p =
    (d : ComponentValue) × Contains c.components d × (d.head ≡ head) × Contains d.hangs p
