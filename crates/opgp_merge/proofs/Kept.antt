-- What is merged of a keyring is a keyring.
use Rattle.std.proofs.Common.{List, [], ◌∷◌, map, All, inl, inr, refl, subst}
use Rattle.std.specs.List.{flat_map}
use Rattle.std.proofs.lemmas.List.Elements.{All-cons, All-contains, All-nil}
use Rattle.opgp_frame.specs.Packet.{PacketValue}
use Rattle.opgp_keyring.specs.Keyring.{CertificateValue, ComponentValue, KeyringValue, IsComponent, IsCertificate, IsHung, IsKeyring}
use Rattle.opgp_merge.specs.Merged.{firsts, like, merged_of, same_head, same_packet, same_primary, united_certificate, united_component, united_components}
use Rattle.opgp_merge.proofs.Firsts.{from_filter, from_firsts}
use Rattle.opgp_merge.proofs.Twice.{decides_head, decides_packet, decides_primary, head_key, packet_key, primary_key}
use Rattle.opgp_merge.proofs.Within.{Within, contains, from_flat, from_map}

all_of : {X : Type 0} (P : X → Type 0) (xs : List X) → ((x : X) → Within xs x → P x) → All P xs
all_of P [] h = All-nil P
all_of P (x ∷ xs) h = All-cons P x xs (h x (inl refl)) (all_of P xs (λ y w. h y (inr w)))

each : {X : Type 0} (P : X → Type 0) (xs : List X) (x : X) → All P xs → Within xs x → P x
each P xs x h w = All-contains P xs x h (contains xs x w)

hangs_stay : (ps : List PacketValue) → ((p : PacketValue) → Within ps p → IsHung p) → All IsHung (firsts same_packet ps)
hangs_stay ps h = all_of IsHung (firsts same_packet ps) (λ p w. h p (from_firsts same_packet packet_key decides_packet p ps w))

components_stay : (cs : List ComponentValue) → ((c : ComponentValue) → Within cs c → IsComponent c) → All IsComponent (united_components cs)
components_stay cs h = all_of IsComponent (united_components cs) (λ d w.
    let made = from_map (united_component cs) (firsts same_head cs) d w in
    let c : ComponentValue = made.0 in
    subst IsComponent made.2 (record {
      head = (h c (from_firsts same_head head_key decides_head c cs made.1)).head;
      hangs = hangs_stay (flat_map (λ e. e.hangs) (like same_head c cs)) (λ p v.
          let member = from_flat (λ e. e.hangs) (like same_head c cs) p v in
          let found = from_filter (same_head c) member.0 cs member.1 in
          each IsHung member.0.hangs p (h member.0 found.0).hangs member.2);
    }))

certificates_stay : (cs : List CertificateValue) → ((c : CertificateValue) → Within cs c → IsCertificate c) → (d : CertificateValue) → Within (firsts same_primary cs) d → IsCertificate (united_certificate cs d)
certificates_stay cs h c w = record {
  primary = (h c (from_firsts same_primary primary_key decides_primary c cs w)).primary;
  hangs = hangs_stay (flat_map (λ e. e.hangs) (like same_primary c cs)) (λ p v.
      let member = from_flat (λ e. e.hangs) (like same_primary c cs) p v in
      let found = from_filter (same_primary c) member.0 cs member.1 in
      each IsHung member.0.hangs p (h member.0 found.0).hangs member.2);
  components = components_stay (flat_map (λ e. e.components) (like same_primary c cs)) (λ p v.
      let member = from_flat (λ e. e.components) (like same_primary c cs) p v in
      let found = from_filter (same_primary c) member.0 cs member.1 in
      each IsComponent member.0.components p (h member.0 found.0).components member.2);
}

abbrev pub merged : List CertificateValue → List CertificateValue
merged cs = map (united_certificate cs) (firsts same_primary cs)

pub merged_are_certificates : (cs : List CertificateValue) → All IsCertificate cs → All IsCertificate (merged cs)
merged_are_certificates cs h = all_of IsCertificate (merged cs) (λ d w.
    let made = from_map (united_certificate cs) (firsts same_primary cs) d w in
    subst IsCertificate made.2 (certificates_stay cs (λ c v. each IsCertificate cs c h v) made.0 made.1))

pub merged_is_keyring : (r : KeyringValue) → IsKeyring r → IsKeyring (merged_of r)
merged_is_keyring r h = record { lead = h.lead; certificates = merged_are_certificates r.certificates h.certificates }
