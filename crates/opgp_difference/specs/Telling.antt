-- What has been told of entries that were met, by a tree of the others.
use Rattle.std.specs.Prelude.{◌≡◌, Bool, false, ◌&&◌, not, ℕ, List, [], ◌∷◌, Some, map, is_some}
use Rattle.std.specs.BTreeSet.{BTreeSet, contains_by}
use Rattle.std.specs.List.{filter}
use Rattle.opgp_difference.specs.Difference.{firsts}
use Rattle.opgp_difference.specs.Entries.{Entry, Name, PlacedValue, Standing, is_in}
use Rattle.opgp_difference.specs.Tree.{IsTree, Key, Tree, key_cmp, node_of}

-- whether the tree has what this entry hangs on, and not the entry
abbrev pub lacks : Tree → Entry → Bool
lacks t [] = false
lacks t (n ∷ e) = not (is_some (node_of t (n ∷ e))) && is_some (node_of t e)

abbrev pub lacking : Tree → List Standing → List Standing
lacking t met = filter (λ s. lacks t s.entry) (firsts met)

-- what is told is the packets of the entries that the tree lacks, and the keys are theirs
pub record HasTold (t : Tree) (keys : BTreeSet Key) (told : List PlacedValue)
    (met : List Standing) : Type 0 where
  pub tree : IsTree t
  pub packets : told ≡ map (λ s. s.placed) (lacking t met)
  pub keyed : (p : ℕ) (e : Entry) (n : Name) → node_of t e ≡ Some p
      → contains_by (key_cmp p n) keys ≡ is_in (lacking t met) (n ∷ e)
