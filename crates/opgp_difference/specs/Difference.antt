-- What changed between two keyrings, as sets of entries.
use Rattle.std.specs.Prelude.{Bool, true, false, ◌&&◌, ◌||◌, not, List, [], ◌∷◌, ◌++◌}
use Rattle.std.specs.List.{filter}
use Rattle.opgp_keyring.specs.Keyring.{KeyringValue}
use Rattle.opgp_difference.specs.Entries.{Entry, Standing, is_in, same_entry, standing_in}

-- each entry once, where it first stands
abbrev pub firsts : List Standing → List Standing
firsts [] = []
firsts (s ∷ ss) = s ∷ filter (λ t. not (same_entry t.entry s.entry)) (firsts ss)

-- whether what it hangs on is among them; a primary key hangs on nothing, and no entry has no name
abbrev pub hangs_in : List Standing → Entry → Bool
hangs_in all [] = false
hangs_in all (n ∷ []) = true
hangs_in all (n ∷ m ∷ e) = is_in all (m ∷ e)

-- an entry is told if it isn't among the others, and what it hangs on is
abbrev pub is_told : List Standing → Entry → Bool
is_told others e = not (is_in others e) && hangs_in others e

-- what the second keyring has and the first one hasn't, in the second's order
abbrev pub told : KeyringValue → KeyringValue → List Standing
told r s = filter (λ t. is_told (standing_in r) t.entry) (firsts (standing_in s))

-- ---- the difference applied
-- whether an entry, or something that it hangs on, is among these
abbrev pub is_under : List Standing → Entry → Bool
is_under these [] = false
is_under these (n ∷ e) = is_in these (n ∷ e) || is_under these e

-- the old keyring's entries without what is gone and what hangs on that, and the new ones with what
-- hangs on them
abbrev pub applied : KeyringValue → KeyringValue → List Standing
applied old new =
    filter (λ s. not (is_under (told new old) s.entry)) (standing_in old)
    ++ filter (λ s. is_under (told old new) s.entry) (standing_in new)
