-- Keyrings in the current format.
use Rattle.std.proofs.Common.{◌≡◌, ℕ, true, false, nat_lt, if◌then◌else◌, List, [], ◌∷◌, ◌++◌, length, get_or, map, All, refl, sym, ap, ◌∙◌}
use Rattle.std.specs.List.{flat_map}
use Rattle.std.proofs.lemmas.List.{map-append}
use Rattle.std.proofs.lemmas.List.Elements.{All-map, All-weaker}
use Rattle.opgp_frame.specs.declared.form.Form.TheVariants.{NewOne, NewTwo, NewFive}
use Rattle.opgp_frame.specs.Packet.{PacketValue}
use Rattle.opgp_frame.specs.Reframed.{IsCurrent, reframed, shortest_form}
use Rattle.opgp_keyring.specs.Keyring.{KeyringValue, CertificateValue, ComponentValue, IsKeyring, IsCertificate, IsComponent, IsFiller, IsHung, component_packets, certificate_packets, flat}
use Rattle.opgp_keyring.specs.Normal.{normal_of, normal_certificate, normal_component, IsCurrentPacket}

-- ---- twice is once

twice_packets : (ps : List PacketValue) → map reframed (map reframed ps) ≡ map reframed ps
twice_packets [] = refl
twice_packets (p ∷ ps) = ap (λ (l : List PacketValue). reframed p ∷ l) (twice_packets ps)

twice_component : (c : ComponentValue) → normal_component (normal_component c) ≡ normal_component c
twice_component c = ap (λ (l : List PacketValue). record { head = reframed c.head; hangs = l }) (twice_packets c.hangs)

twice_components : (cs : List ComponentValue) → map normal_component (map normal_component cs) ≡ map normal_component cs
twice_components [] = refl
twice_components (c ∷ cs) =
    ap (λ (d : ComponentValue). d ∷ map normal_component (map normal_component cs)) (twice_component c) ∙ ap (λ (l : List ComponentValue). normal_component c ∷ l) (twice_components cs)

twice_certificate : (c : CertificateValue) → normal_certificate (normal_certificate c) ≡ normal_certificate c
twice_certificate c =
    ap (λ (l : List PacketValue). record { primary = reframed c.primary; hangs = l; components = map normal_component (map normal_component c.components) }) (twice_packets c.hangs)
    ∙ ap (λ (l : List ComponentValue). record { primary = reframed c.primary; hangs = map reframed c.hangs; components = l }) (twice_components c.components)

twice_certificates : (cs : List CertificateValue) → map normal_certificate (map normal_certificate cs) ≡ map normal_certificate cs
twice_certificates [] = refl
twice_certificates (c ∷ cs) =
    ap (λ (d : CertificateValue). d ∷ map normal_certificate (map normal_certificate cs)) (twice_certificate c) ∙ ap (λ (l : List CertificateValue). normal_certificate c ∷ l) (twice_certificates cs)

pub twice : (r : KeyringValue) → normal_of (normal_of r) ≡ normal_of r
twice r =
    ap (λ (l : List PacketValue). record { lead = l; certificates = map normal_certificate (map normal_certificate r.certificates) }) (twice_packets r.lead)
    ∙ ap (λ (l : List CertificateValue). record { lead = map reframed r.lead; certificates = l }) (twice_certificates r.certificates)

-- ---- its packets

flat_components : (cs : List ComponentValue) → flat_map component_packets (map normal_component cs) ≡ map reframed (flat_map component_packets cs)
flat_components [] = refl
flat_components (c ∷ cs) =
    ap (λ (l : List PacketValue). component_packets (normal_component c) ++ l) (flat_components cs) ∙ sym (map-append reframed (component_packets c) (flat_map component_packets cs))

flat_certificate : (c : CertificateValue) → certificate_packets (normal_certificate c) ≡ map reframed (certificate_packets c)
flat_certificate c =
    ap (λ (l : List PacketValue). reframed c.primary ∷ (map reframed c.hangs ++ l)) (flat_components c.components)
    ∙ ap (λ (l : List PacketValue). reframed c.primary ∷ l) (sym (map-append reframed c.hangs (flat_map component_packets c.components)))

flat_certificates : (cs : List CertificateValue) → flat_map certificate_packets (map normal_certificate cs) ≡ map reframed (flat_map certificate_packets cs)
flat_certificates [] = refl
flat_certificates (c ∷ cs) =
    ap (λ (l : List PacketValue). l ++ flat_map certificate_packets (map normal_certificate cs)) (flat_certificate c) ∙ ap (λ (l : List PacketValue). map reframed (certificate_packets c) ++ l) (flat_certificates cs)
    ∙ sym (map-append reframed (certificate_packets c) (flat_map certificate_packets cs))

pub flat_normal : (r : KeyringValue) → flat (normal_of r) ≡ map reframed (flat r)
flat_normal r =
    ap (λ (l : List PacketValue). map reframed r.lead ++ l) (flat_certificates r.certificates) ∙ sym (map-append reframed r.lead (flat_map certificate_packets r.certificates))

shortest_is_current : (n : ℕ) → IsCurrent (shortest_form n)
shortest_is_current n =
    elim (nat_lt n 192) as (λ b. IsCurrent (if b then NewOne else (if nat_lt n 8384 then NewTwo else NewFive))) [ true ↦ tt | false ↦ elim (nat_lt n 8384) as (λ b. IsCurrent (if b then NewTwo else NewFive)) [ true ↦ tt | false ↦ tt ] ]

pub all_current : (ps : List PacketValue) → All IsCurrentPacket (map reframed ps)
all_current ps = All-map IsCurrentPacket reframed ps (λ k d h. shortest_is_current (length (get_or ps k d).body))

-- ---- it is a keyring

pub hung_normal : (ps : List PacketValue) → All IsHung ps → All IsHung (map reframed ps)
hung_normal ps a = All-map IsHung reframed ps a

pub component_normal : (c : ComponentValue) → IsComponent c → IsComponent (normal_component c)
component_normal c k = record { head = k.head; hangs = hung_normal c.hangs k.hangs }

pub components_normal : (cs : List ComponentValue) → All IsComponent cs → All IsComponent (map normal_component cs)
components_normal cs a = All-map IsComponent normal_component cs (All-weaker IsComponent (λ c. IsComponent (normal_component c)) component_normal cs a)

pub certificate_normal : (c : CertificateValue) → IsCertificate c → IsCertificate (normal_certificate c)
certificate_normal c k = record { primary = k.primary; hangs = hung_normal c.hangs k.hangs; components = components_normal c.components k.components }

pub fillers_normal : (ps : List PacketValue) → All IsFiller ps → All IsFiller (map reframed ps)
fillers_normal ps a = All-map IsFiller reframed ps a

pub keyring_normal : (r : KeyringValue) → IsKeyring r → IsKeyring (normal_of r)
keyring_normal r k = record {
  lead = fillers_normal r.lead k.lead;
  certificates = All-map IsCertificate normal_certificate r.certificates (All-weaker IsCertificate (λ c. IsCertificate (normal_certificate c)) certificate_normal r.certificates k.certificates);
}
