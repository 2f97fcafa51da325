-- Walks through statements, component by component.
use Rattle.std.specs.Prelude.{◌≡◌, ℕ, nat_le, nat_lt, Bool, true, false, ◌&&◌}
use Rattle.std.specs.Prelude.{if◌then◌else◌, List, [], ◌∷◌, Option, Some, None}
use Rattle.std.specs.List.{filter}
use Rattle.std.specs.Option.{option_or}
use Rattle.opgp_valid.specs.Group.{is_the}
use Rattle.opgp_valid.specs.State.{first_revocation}
use Rattle.opgp_valid.specs.declared.facts.Key.{Key}
use Rattle.opgp_valid.specs.declared.facts.Key.TheVariants as key
use Rattle.opgp_valid.specs.declared.statement.Statement.{Statement}
use Rattle.opgp_valid.specs.declared.walk.Part.{Part}
use Rattle.opgp_valid.specs.declared.walk.Walk.{Walk}

-- ---- the order of components
-- those on the component of this number
abbrev pub is_on : ℕ → Statement → Bool
is_on n s = is_the n s.component

abbrev pub all_on : ℕ → List Statement → List Statement
all_on n ss = filter (is_on n) ss

-- a component behind the one of this number
abbrev pub is_behind : ℕ → Option ℕ → Bool
is_behind n None = false
is_behind n (Some m) = nat_lt n m

-- the second isn't before the first, where None is the primary key
abbrev pub is_at_or_behind : Option ℕ → Option ℕ → Bool
is_at_or_behind None b = true
is_at_or_behind (Some a) None = false
is_at_or_behind (Some a) (Some b) = nat_le a b

-- they are in the order of their components, from this one on
abbrev pub in_order : Option ℕ → List Statement → Bool
in_order from [] = true
in_order from (s ∷ ss) = is_at_or_behind from s.component && in_order s.component ss

-- up to the first that is on a component behind the one of this number
abbrev pub up_to : ℕ → List Statement → List Statement
up_to n [] = []
up_to n (s ∷ ss) = if is_behind n s.component then [] else s ∷ up_to n ss

-- from there on
abbrev pub behind : ℕ → List Statement → List Statement
behind n [] = []
behind n (s ∷ ss) = if is_behind n s.component then s ∷ ss else behind n ss

-- ---- a walk
-- the primary key, or a subkey of this number or behind it
abbrev pub is_from : ℕ → Key → Bool
is_from n key.Primary = true
is_from n (key.Subkey m created) = nat_le n m

-- A walk has come to the component of this number: all statements on it and on those behind it are
-- to come; and the first revocation of its key is the earlier one, or else the first that is to
-- come.
pub record IsAt (ss : List Statement) (n : ℕ) (walk : Walk) : Type 0 where
  pub ordered : walk.is_ordered ≡ true → in_order None walk.rest.now ≡ true
  pub same : (k : ℕ) → nat_le n k ≡ true → all_on k ss ≡ all_on k walk.rest.now
  pub first : (k : Key) → is_from n k ≡ true
      → first_revocation k ss ≡ option_or walk.earlier (first_revocation k walk.rest.now)

-- A part of the statements is enough for its component: all on it are there; and the first
-- revocation of its key is the earlier one, or else the first that is there, or else the first of
-- the primary key.
pub record AreEnough (ss : List Statement) (part : Part) : Type 0 where
  pub same : all_on part.number part.statements.now ≡ all_on part.number ss
  pub first : (created : ℕ) → first_revocation (key.Subkey part.number created) ss
      ≡ option_or part.earlier (option_or
      (first_revocation (key.Subkey part.number created) part.statements.now)
      (first_revocation key.Primary ss))
