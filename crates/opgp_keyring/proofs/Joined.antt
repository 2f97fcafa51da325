-- Keyrings joined.
use Rattle.std.proofs.Common.{◌≡◌, List, ◌++◌, sym, ap, ◌∙◌, append_assoc}
use Rattle.std.specs.List.{flat_map}
use Rattle.std.proofs.lemmas.List.Elements.{All-append}
use Rattle.std.proofs.lemmas.List.Concat.{flat_map-append}
use Rattle.opgp_frame.specs.Packet.{PacketValue}
use Rattle.opgp_keyring.specs.Keyring.{KeyringValue, IsKeyring, IsCertificate, certificate_packets, flat}
use Rattle.opgp_keyring.proofs.Adding.{keyring}

pub joined_is : (r s : KeyringValue) → IsKeyring r → IsKeyring s → IsKeyring (keyring r.lead (r.certificates ++ s.certificates))
joined_is r s k j = record { lead = k.lead; certificates = All-append IsCertificate r.certificates s.certificates k.certificates j.certificates }

pub joined_flat : (first second r : KeyringValue) → flat r ≡ flat first ++ second.lead → flat (keyring r.lead (r.certificates ++ second.certificates)) ≡ flat first ++ flat second
joined_flat first second r e =
    let mine : List PacketValue = flat_map certificate_packets r.certificates in
    let theirs : List PacketValue = flat_map certificate_packets second.certificates in
    ap (λ (l : List PacketValue). r.lead ++ l) (flat_map-append certificate_packets r.certificates second.certificates) ∙ sym (append_assoc r.lead mine theirs)
    ∙ ap (λ (l : List PacketValue). l ++ theirs) e ∙ append_assoc (flat first) second.lead theirs
