-- A keyring in which certificates of one primary key are one, without repetitions (RFC 9580, 10.1).
use Rattle.std.specs.Prelude.{Bool, ◌&&◌, not, ◌==◌, List, [], ◌∷◌, map}
use Rattle.std.specs.List.{filter, flat_map}
use Rattle.std.specs.Str.{bytes_eq}
use Rattle.opgp_frame.specs.Packet.{PacketValue}
use Rattle.opgp_keyring.specs.Keyring.{CertificateValue, ComponentValue, KeyringValue}

-- the items without those that are the same as an earlier one
abbrev pub firsts : {X : Type 0} → (X → X → Bool) → List X → List X
firsts same [] = []
firsts same (x ∷ xs) = x ∷ filter (λ y. not (same x y)) (firsts same xs)

-- those that are the same as this one
abbrev pub like : {X : Type 0} → (X → X → Bool) → X → List X → List X
like same x xs = filter (same x) xs

-- of one type and one body, in any form
abbrev pub same_packet : PacketValue → PacketValue → Bool
same_packet p q = (p.kind == q.kind) && bytes_eq p.body q.body

abbrev pub same_head : ComponentValue → ComponentValue → Bool
same_head c d = same_packet c.head d.head

abbrev pub same_primary : CertificateValue → CertificateValue → Bool
same_primary c d = bytes_eq c.primary.body d.primary.body

-- one component for those of the same head, with the packets of all of them, without repetitions
abbrev pub united_component : List ComponentValue → ComponentValue → ComponentValue
united_component all c = record {
  head = c.head;
  hangs = firsts same_packet (flat_map (λ d. d.hangs) (like same_head c all));
}

-- one component for each head, in the place of the first
abbrev pub united_components : List ComponentValue → List ComponentValue
united_components all = map (united_component all) (firsts same_head all)

-- one certificate for those of the same primary key, with the contents of all of them
abbrev pub united_certificate : List CertificateValue → CertificateValue → CertificateValue
united_certificate all c = record {
  primary = c.primary;
  hangs = firsts same_packet (flat_map (λ d. d.hangs) (like same_primary c all));
  components = united_components (flat_map (λ d. d.components) (like same_primary c all));
}

-- one certificate for each primary key, in the place of the first; the lead stays
abbrev pub merged_of : KeyringValue → KeyringValue
merged_of r = record {
  lead = r.lead;
  certificates = map (united_certificate r.certificates) (firsts same_primary r.certificates);
}
