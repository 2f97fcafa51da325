-- Packets of a keyring, their bodies one after the other.
use Rattle.std.specs.Prelude.{◌≡◌, ◌≤◌, ℕ, true, List, length, All}
use Rattle.opgp_octets.specs.Octets.{IsOctets}
use Rattle.opgp_octets.specs.declared.malformed.Malformed.TheVariants.{Keep}
use Rattle.opgp_frame.specs.Form.{form_takes}
use Rattle.opgp_frame.specs.Header.{is_read_kind}
use Rattle.opgp_frame.specs.Packet.{PacketValue}
use Rattle.opgp_keyring.specs.declared.header.Header.{Header}
use Rattle.opgp_keyring.specs.Bodies.{HasNoFault}
use Rattle.opgp_keyring.specs.Composition.{stands_in_keyring}
use Rattle.opgp_keyring.specs.Header.{least_len, most_len, packets_with, sizes}

-- A packet that may stand in a keyring: its type is one of those that do, its form encodes its body
-- without pieces, and its body has no fault, unless it is a malformed signature's.
pub record MayStand (p : PacketValue) : Type 0 where
  pub stands : stands_in_keyring p.kind ≡ true
  pub kind : is_read_kind p.kind ≡ true
  pub takes : form_takes p.form p.kind ≡ true
  pub least : least_len p.form ≤ length p.body
  pub most : length p.body ≤ most_len p.form
  pub octets : IsOctets p.body
  pub sound : HasNoFault Keep p

-- the bodies are those of the headers, and each packet may stand in a keyring
pub record ArePacked (bodies : List ℕ) (headers : List Header) : Type 0 where
  pub whole : length bodies ≡ sizes headers
  pub parts : All MayStand (packets_with bodies headers)
