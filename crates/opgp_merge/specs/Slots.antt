-- Items joined by type and body, and their places in the list without repetitions.
use denote.Ref.{Bor}
use Rattle.std.specs.Prelude.{◌≡◌, ℕ, suc, Bool, ◌&&◌, ◌==◌, if◌then◌else◌}
use Rattle.std.specs.Prelude.{List, [], ◌∷◌, ◌++◌, length, map, drop}
use Rattle.std.specs.BTreeMap.{BTreeMap, get_by, btree_map_len}
use Rattle.std.specs.Cmp.Lexicographic.{slice_cmp}
use Rattle.std.specs.List.{fold, position_from}
use Rattle.std.specs.declared.cmp.Ordering.{Ordering}
use Rattle.std.specs.Ordering.{nat_cmp, ordering_then}
use Rattle.std.specs.Str.{bytes_eq}
use Rattle.opgp_octets.specs.PacketType.{packet_type_number}
use Rattle.opgp_octets.specs.declared.packet_type.PacketType.TheVariants as packet
use Rattle.opgp_frame.specs.Packet.{PacketValue}
use Rattle.opgp_keyring.specs.Keyring.{CertificateValue, ComponentValue}
use Rattle.opgp_merge.specs.Merged.{firsts, like, same_packet}
use Rattle.opgp_merge.specs.Merged.{united_components}

-- a type and a body
abbrev pub Name : Type 0
Name = ℕ × List ℕ

abbrev pub same_name : Name → Name → Bool
same_name m n = (m.0 == n.0) && bytes_eq m.1 n.1

abbrev pub same_by : {X : Type 0} → (X → Name) → X → X → Bool
same_by name x y = same_name (name x) (name y)

abbrev pub packet_name : PacketValue → Name
packet_name p = (p.kind, p.body)

abbrev pub head_name : ComponentValue → Name
head_name c = packet_name c.head

-- primary keys are all of one type
abbrev pub primary_name : CertificateValue → Name
primary_name c = (packet_type_number packet.PublicKey, c.primary.body)

-- the first stays as it is
abbrev pub stays : {X : Type 0} → X → X → X
stays k x = k

abbrev pub with_hangs : ComponentValue → ComponentValue → ComponentValue
with_hangs c d = record { head = c.head; hangs = c.hangs ++ d.hangs }

abbrev pub with_parts : CertificateValue → CertificateValue → CertificateValue
with_parts c d = record {
  primary = c.primary;
  hangs = c.hangs ++ d.hangs;
  components = c.components ++ d.components;
}

-- an item with the contents of the later ones of its name
abbrev pub joined : {X : Type 0} → (X → Name) → (X → X → X) → List X → X → X
joined name both all x = fold both x (drop 1 (like (same_by name) x all))

-- one item for each name, in the place of the first
abbrev pub joined_all : {X : Type 0} → (X → Name) → (X → X → X) → List X → List X
joined_all name both all = map (joined name both all) (firsts (same_by name) all)

-- a component, or a certificate, without repetitions among its packets
abbrev pub once_component : ComponentValue → ComponentValue
once_component c = record { head = c.head; hangs = firsts same_packet c.hangs }

abbrev pub once_certificate : CertificateValue → CertificateValue
once_certificate c = record {
  primary = c.primary;
  hangs = firsts same_packet c.hangs;
  components = united_components c.components;
}

-- ---- the places of names
-- the list with one more item, which joins the first that is the same, if there is one
abbrev pub added : {X : Type 0} → (X → X → Bool) → (X → X → X) → List X → X → List X
added same both [] x = x ∷ []
added same both (k ∷ ks) x = if same k x then both k x ∷ ks else k ∷ added same both ks x

-- the place of the first of this name; if there is none, the number of names
abbrev pub place : List Name → Name → ℕ
place [] n = 0
place (s ∷ ss) n = if same_name s n then 0 else suc (place ss n)

abbrev pub grown : List Name → Name → List Name
grown seen n = added same_name stays seen n

-- the place of each name in the list without repetitions
abbrev pub places_of : List Name → List ℕ
places_of ns = map (place (firsts same_name ns)) ns

-- ---- what an index keeps: for each name the place of the first that has it, and their number
abbrev pub name_cmp : Name → ℕ × Bor (List ℕ) → Ordering
name_cmp q k = ordering_then (nat_cmp q.0 k.0) (slice_cmp nat_cmp q.1 k.1.now)

pub record IsIndex (m : BTreeMap (ℕ × Bor (List ℕ)) ℕ) (seen : List Name) : Type 0 where
  pub places : (q : Name) → get_by (name_cmp q) m ≡ position_from (λ s. same_name s q) 0 seen
  pub count : btree_map_len m ≡ length seen
