-- Ways through statements, one by one.
use Rattle.std.specs.Prelude.{◌≡◌, ◌++◌, ℕ, nat_lt, Bool, true, List, [], ◌∷◌}
use Rattle.std.specs.Prelude.{Option, Some, None}
use Rattle.std.specs.Option.{option_map}
use Rattle.opgp_valid.specs.Walk.{all_on, in_order, is_at_or_behind}
use Rattle.opgp_valid.specs.declared.statement.Statement.{Statement}
use Rattle.opgp_valid.specs.declared.steps.Step.{Step}
use Rattle.opgp_valid.specs.declared.steps.Steps.{Steps}

-- the component of this number is behind this one, where None is the primary key
abbrev pub is_past : Option ℕ → ℕ → Bool
is_past None k = true
is_past (Some m) k = nat_lt m k

-- These were passed of all; and where they are in order, all on each component that is behind the
-- one that was come to are to come.
pub record ArePast (ss done : List Statement) (steps : Steps) : Type 0 where
  pub all : steps.all.now ≡ ss
  pub passed : done ++ steps.rest.now ≡ ss
  pub ordered : steps.is_ordered ≡ true → in_order steps.component steps.rest.now ≡ true
  pub same : steps.is_ordered ≡ true → (k : ℕ) → is_past steps.component k ≡ true
      → all_on k ss ≡ all_on k steps.rest.now

-- it has all of these statements that are on this component
abbrev pub HasAllOn : List Statement → Option ℕ → List Statement → Type 0
HasAllOn ss component part = (k : ℕ) → component ≡ Some k → all_on k part ≡ all_on k ss

-- the same, if that component isn't one that was passed
abbrev pub HasAllAhead : List Statement → Steps → Option ℕ → List Statement → Type 0
HasAllAhead ss steps component part = (k : ℕ) → component ≡ Some k
    → (steps.is_ordered ≡ true → is_past steps.component k ≡ true) → all_on k part ≡ all_on k ss

-- it is there where the component isn't the one before
abbrev pub HasPart : List Statement → Option ℕ → Option ℕ → Option (List Statement) → Type 0
HasPart ss before component None = component ≡ before
HasPart ss before component (Some part) = HasAllOn ss component part

-- where the statements are in order, a component isn't before the one that was come to
abbrev pub IsAhead : Steps → Option ℕ → Type 0
IsAhead steps component = steps.is_ordered ≡ true
    → is_at_or_behind steps.component component ≡ true

abbrev pub part_shown : Step → Option (List Statement)
part_shown step = option_map (λ p. p.now) step.part

-- A step from one way to the next.
pub record HasStep (ss done : List Statement) (from : Steps) (step : Step) (to : Steps)
    : Type 0 where
  pub passed : ArePast ss (done ++ step.statement.now ∷ []) to
  pub component : to.component ≡ step.statement.now.component
  pub part : HasPart ss from.component step.statement.now.component (part_shown step)
