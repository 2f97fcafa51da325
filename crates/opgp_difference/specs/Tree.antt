-- A tree of packets, as entries.
use denote.Ref.{Bor}
use Rattle.std.specs.Prelude.{◌≡◌, ◌<◌, ◌≤◌, ℕ, List, [], ◌∷◌, Option, Some, is_some}
use Rattle.std.specs.BTreeMap.{BTreeMap, get_by, btree_map_len}
use Rattle.std.specs.Cmp.Lexicographic.{slice_cmp}
use Rattle.std.specs.Option.{option_and_then}
use Rattle.std.specs.declared.cmp.Ordering.{Ordering}
use Rattle.std.specs.Ordering.{nat_cmp, ordering_then}
use Rattle.opgp_difference.specs.Entries.{Entry, Name, Standing, is_in}

abbrev pub Key : Type 0
Key = ℕ × ℕ × Bor (List ℕ)

abbrev pub Tree : Type 0
Tree = BTreeMap Key ℕ

abbrev pub key_cmp : ℕ → Name → Key → Ordering
key_cmp above n k =
    ordering_then (ordering_then (nat_cmp above k.0) (nat_cmp n.0 k.1))
    (slice_cmp nat_cmp n.1 k.2.now)

-- the number of the packet of this name on what has the number `above`
abbrev pub child : Tree → ℕ → Name → Option ℕ
child t above n = get_by (key_cmp above n) t

-- the number of an entry, found from the keyring on
abbrev pub node_of : Tree → Entry → Option ℕ
node_of t [] = Some 0
node_of t (n ∷ e) = option_and_then (λ above. child t above n) (node_of t e)

-- Numbers grow from the keyring on, up to how many there are, and each is one packet's.
pub record IsTree (t : Tree) : Type 0 where
  pub above : (p v : ℕ) (n : Name) → child t p n ≡ Some v → p < v
  pub most : (p v : ℕ) (n : Name) → child t p n ≡ Some v → v ≤ btree_map_len t
  pub alone : (p q v : ℕ) (m n : Name) → child t p m ≡ Some v → child t q n ≡ Some v
      → (p ≡ q) × (m ≡ n)

-- the tree has these entries
pub record HasEntries (t : Tree) (met : List Standing) : Type 0 where
  pub tree : IsTree t
  pub entries : (n : Name) (e : Entry) → is_some (node_of t (n ∷ e)) ≡ is_in met (n ∷ e)
