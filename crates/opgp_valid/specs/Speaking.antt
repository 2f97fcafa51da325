-- The newest of a group that speak at a time, and what they say (RFC 9580, 5.2.3.10).
use Rattle.std.specs.Prelude.{ℕ, ◌==◌, max, min, Bool, false, List, [], ◌∷◌, map}
use Rattle.std.specs.Prelude.{Option, Some, None}
use Rattle.std.specs.List.{filter}
use Rattle.std.specs.Option.{option_map}
use Rattle.opgp_valid.specs.declared.group.Group.{Group}
use Rattle.opgp_valid.specs.declared.statement.Statement.{Statement}
use Rattle.opgp_valid.specs.declared.uses.Uses.{Uses}
use Rattle.opgp_valid.specs.Group.{on_component, speaks}
use Rattle.opgp_valid.specs.Statement.{end_of}
use Rattle.opgp_valid.specs.Uses.{all_of}

-- those of a group that speak at a time
abbrev pub speakers : Group → ℕ → List Statement → List Statement
speakers group at ss = filter (speaks group at) ss

-- when a signature was made
abbrev pub made_at : Statement → Option ℕ
made_at s = option_map (λ life. life.made) s.life

abbrev pub later : Option ℕ → Option ℕ → Option ℕ
later None b = b
later (Some a) None = Some a
later (Some a) (Some b) = Some (max a b)

-- the latest time when one of them was made
abbrev pub latest : List Statement → Option ℕ
latest [] = None
latest (s ∷ ss) = later (made_at s) (latest ss)

abbrev pub is_same : Option ℕ → Option ℕ → Bool
is_same (Some a) (Some b) = a == b
is_same a b = false

-- those that were made at this time
abbrev pub made_then : Option ℕ → List Statement → List Statement
made_then time ss = filter (λ s. is_same (made_at s) time) ss

-- the newest of a group at a time
abbrev pub newest : Group → ℕ → List Statement → List Statement
newest group at ss = made_then (latest (speakers group at ss)) (speakers group at ss)

-- when the newest of a group's certifications of a component was made
abbrev pub latest_on : Group → ℕ → List Statement → Option ℕ → Option ℕ
latest_on group at ss None = None
latest_on group at ss (Some n) = latest (speakers (on_component n group) at ss)

-- it is a newest certification of its user ID or user attribute
abbrev pub is_current : Group → ℕ → List Statement → Statement → Bool
is_current group at ss s = is_same (made_at s) (latest_on group at ss s.component)

-- of the newest certifications of each user ID and user attribute, those of a group; and of these
-- the newest
abbrev pub current : Group → ℕ → List Statement → List Statement
current group at ss = filter (is_current group at ss) (speakers group at ss)

abbrev pub newest_current : Group → ℕ → List Statement → List Statement
newest_current group at ss = made_then (latest (current group at ss)) (current group at ss)

-- the earlier of two times, where None is never
abbrev pub sooner : Option ℕ → Option ℕ → Option ℕ
sooner None b = b
sooner (Some a) None = Some a
sooner (Some a) (Some b) = Some (min a b)

abbrev pub earliest : List (Option ℕ) → Option ℕ
earliest [] = None
earliest (t ∷ ts) = sooner t (earliest ts)

-- when the first of them lets a key expire that was created then (5.2.3.13)
abbrev pub end_in : ℕ → List Statement → Option ℕ
end_in created ss = earliest (map (end_of created) ss)

-- what all of them let a key be used for (5.2.3.29)
abbrev pub uses_in : List Statement → Uses
uses_in ss = all_of (map (λ s. s.uses) ss)
