-- The parts of a keyring, one by one, and all that they say.
use Rattle.std.specs.Prelude.{◌≡◌, List, map}
use Rattle.opgp_frame.specs.Packet.{PacketValue}
use Rattle.opgp_frame.specs.Reframed.{reframed}
use Rattle.opgp_keyring.specs.Composed.{PartValue, of_lead, of_certificate, parts_of}
use Rattle.opgp_keyring.specs.Keyring.{KeyringValue, certificate_packets}
use Rattle.opgp_keyring.specs.Normal.{normal_certificate}

-- the packets of a part, in order
abbrev pub part_packets : PartValue → List PacketValue
part_packets (of_lead ps) = ps
part_packets (of_certificate c) = certificate_packets c

-- the part in the current format, with its shortest lengths
abbrev pub normal_part : PartValue → PartValue
normal_part (of_lead ps) = of_lead (map reframed ps)
normal_part (of_certificate c) = of_certificate (normal_certificate c)

-- some keyring has these parts
pub record AreParts (parts : List PartValue) : Type 0 where
  pub ring : KeyringValue
  pub whole : parts_of ring ≡ parts

-- the keyring has these parts
abbrev pub HasParts : KeyringValue → List PartValue → Type 0
HasParts r parts = parts_of r ≡ parts
