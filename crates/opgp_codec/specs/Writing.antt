-- Keyrings as they are written.
use Rattle.std.specs.Prelude.{◌≡◌, ℕ, Bool, true, false, List, [], Option, Result, MatchResult}
use Rattle.std.specs.List.{flat_map}
use Rattle.std.specs.Io.KnownBytes.{Appends}
use Rattle.opgp_armor.specs.declared.label.Label.TheVariants.{PublicKeyBlock}
use Rattle.opgp_armor.specs.Written.{armor_text}
use Rattle.opgp_frame.specs.Packet.{PacketValue, packets_octets}
use Rattle.opgp_keyring.specs.Keyring.{CertificateValue, certificate_packets}
use Rattle.opgp_codec.specs.declared.out.Out.{Out}
use Rattle.opgp_codec.specs.declared.out.Out.TheVariants.{Armor, Binary}
use Rattle.opgp_io.specs.Stream.{AppendsPrefix}

-- octets, in binary or as one block of armor
abbrev pub octets_text : Out → List ℕ → List ℕ
octets_text Armor octets = armor_text PublicKeyBlock [] octets
octets_text Binary octets = octets

-- those of packets
abbrev pub packets_text : Out → List PacketValue → List ℕ
packets_text out ps = octets_text out (packets_octets ps)

-- each certificate on its own, one after the other
abbrev pub certificates_text : Out → List CertificateValue → List ℕ
certificates_text out cs = flat_map (λ c. packets_text out (certificate_packets c)) cs

-- The text is written into a sink; or the sink has failed, and holds a prefix of it.
abbrev pub Puts : {W T E : Type 0} → (W → Option (List ℕ)) → (W → Bool) → W → W → Result T E
    → List ℕ → Type 0
Puts held failed old new result text = MatchResult result
    (λ _. Appends (held old) (held new) text × (failed new ≡ false))
    (λ _. AppendsPrefix (held old) (held new) text × (failed new ≡ true))
