-- What was taken from a composer, compared with the parts of a keyring.
use Rattle.std.specs.Prelude.{◌≡◌, List, [], ◌∷◌, ◌++◌, ◌⊎◌}
use Rattle.opgp_octets.specs.declared.limits.Limits.{Limits}
use Rattle.opgp_keyring.specs.declared.composer.Composer.{Composer}
use Rattle.opgp_keyring.specs.Composed.{IsKeyringOf, PartValue, parts_of}
use Rattle.opgp_keyring.specs.Composition.{Item}
use Rattle.opgp_keyring.specs.Keyring.{KeyringValue}
use Rattle.opgp_keyring.specs.State.{ready_parts}

-- the parts taken, and the one that is ready
abbrev pub so_far : Composer → List PartValue → List PartValue
so_far c taken = taken ++ ready_parts c.ready

-- the first list is the second without its last element, where it has one
abbrev pub IsAllButLast : List PartValue → List PartValue → Type 0
IsAllButLast front all =
    ((all ≡ []) × (front ≡ [])) ⊎ ((last : PartValue) × (all ≡ front ++ last ∷ []))

-- no keyring consists of the items with the next one, if there is a next one
abbrev pub EndsKeyrings : Limits → List Item → List Item → Type 0
EndsKeyrings limits front [] = Unit {0}
EndsKeyrings limits front (next ∷ back) =
    (r : KeyringValue) → IsKeyringOf limits (front ++ next ∷ []) r → ⊥

-- The longest beginning of the items that is a keyring: up to the first fault, or all of them if
-- there is none. The parts are all of its keyring's but the last.
pub record AreHandedOut (limits : Limits) (given : List Item)
    (parts : List PartValue) : Type 0 where
  pub front : List Item
  pub back : List Item
  pub whole : given ≡ front ++ back
  pub ring : KeyringValue
  pub composed : IsKeyringOf limits front ring
  pub ends : EndsKeyrings limits front back
  pub but_last : IsAllButLast parts (parts_of ring)
