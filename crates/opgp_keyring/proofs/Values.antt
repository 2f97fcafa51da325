-- A certificate with one more packet, as a value.
use Rattle.std.proofs.Common.{◌≡◌, true, ◌||◌, inl, inr, ℕ, zero, suc, ◌<◌, List, [], ◌∷◌, ◌++◌, length, get_or, set, refl, sym, ap, ◌∙◌, append_assoc, append-nil, arith}
use Rattle.std.specs.List.{flat_map}
use Rattle.std.proofs.lemmas.List.Elements.{All-nil, All-push, All-set, All-get_or}
use Rattle.std.proofs.lemmas.List.Concat.{flat_map-append}
use Rattle.opgp_frame.specs.Packet.{PacketValue}
use Rattle.opgp_keyring.specs.Keyring.{ComponentValue, CertificateValue, IsComponent, IsCertificate, IsHead, IsHung, component_packets, certificate_packets, is_head, is_hung}
use Rattle.opgp_keyring.proofs.Hanging.{hung_last}
use Rattle.opgp_keyring.proofs.KindTests.{or_cases}

pub record OneMore (c : CertificateValue) (p : PacketValue) : Type 0 where
  pub more : CertificateValue
  pub packets : certificate_packets more ≡ certificate_packets c ++ p ∷ []
  pub is : IsCertificate more

more_head : (c : CertificateValue) (p : PacketValue) → IsCertificate c → IsHead p → OneMore c p
more_head c p k head =
    let new : ComponentValue = record { head = p; hangs = [] } in
    record {
      more = record { primary = c.primary; hangs = c.hangs; components = c.components ++ new ∷ [] };
      packets = ap (λ (l : List PacketValue). c.primary ∷ (c.hangs ++ l)) (flat_map-append component_packets c.components (new ∷ [])) ∙ ap (λ (l : List PacketValue). c.primary ∷ l) (sym (append_assoc c.hangs (flat_map component_packets c.components) (p ∷ [])));
      is = record { primary = k.primary; hangs = k.hangs; components = All-push IsComponent c.components new k.components (record { head = head; hangs = All-nil IsHung }) };
    }

-- within a list the default doesn't matter
get_or-any : (cs : List ComponentValue) (i : ℕ) (d : ComponentValue) → i < length cs → get_or cs i d ≡ get_or cs i (get_or cs i d)
get_or-any [] i d h = absurd (omega arith)
get_or-any (x ∷ cs) zero d h = refl
get_or-any (x ∷ cs) (suc i) d h = get_or-any cs i d (omega arith)

hung_in : (primary : PacketValue) (hangs : List PacketValue) (cs : List ComponentValue) (p : PacketValue) → IsCertificate (record { primary = primary; hangs = hangs; components = cs }) → IsHung p
    → OneMore (record { primary = primary; hangs = hangs; components = cs }) p
hung_in primary hangs [] p k hung =
    record {
      more = record { primary = primary; hangs = hangs ++ p ∷ []; components = [] };
      packets = ap (λ (l : List PacketValue). primary ∷ l) (append-nil (hangs ++ p ∷ []) ∙ ap (λ (l : List PacketValue). l ++ p ∷ []) (sym (append-nil hangs)));
      is = record { primary = k.primary; hangs = All-push IsHung hangs p k.hangs hung; components = k.components };
    }
hung_in primary hangs (x ∷ cs) p k hung =
    let all : List ComponentValue = x ∷ cs in
    let i : ℕ = length cs in
    let last : ComponentValue = get_or all i x in
    let known : IsComponent last = All-get_or IsComponent all i x (omega arith) k.components in
    let new : ComponentValue = record { head = last.head; hangs = last.hangs ++ p ∷ [] } in
    let grown = hung_last all i (get_or all i x) new p (omega arith) (get_or-any all i x (omega arith)) refl refl in
    record {
      more = record { primary = primary; hangs = hangs; components = set all i new };
      packets = ap (λ (l : List PacketValue). primary ∷ (hangs ++ l)) grown ∙ ap (λ (l : List PacketValue). primary ∷ l) (sym (append_assoc hangs (flat_map component_packets all) (p ∷ [])));
      is = record { primary = k.primary; hangs = k.hangs; components = All-set IsComponent all i new (record { head = known.head; hangs = All-push IsHung last.hangs p known.hangs hung }) k.components };
    }

pub more_behind : (c : CertificateValue) (p : PacketValue) → IsCertificate c → (is_head p.kind || is_hung p.kind) ≡ true → OneMore c p
more_behind c p k behind = elim (or_cases (is_head p.kind) (is_hung p.kind) behind) [ inl head ↦ more_head c p k head | inr hung ↦ hung_in c.primary c.hangs c.components p k hung ]
