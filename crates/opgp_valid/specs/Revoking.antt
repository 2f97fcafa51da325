-- Which certifications of a component the primary key has revoked.
use Rattle.std.specs.Prelude.{ℕ, nat_le, Bool, true, false, ◌&&◌, ◌||◌, List}
use Rattle.std.specs.Prelude.{Option, Some, None, is_some}
use Rattle.std.specs.List.{filter, fold}
use Rattle.opgp_valid.specs.Group.{is_certification_on, is_primary}
use Rattle.opgp_valid.specs.Speaking.{later, made_at}
use Rattle.opgp_valid.specs.State.{revokes_certification, revokes_identity}
use Rattle.opgp_valid.specs.Steps.{part_shown}
use Rattle.opgp_valid.specs.Told.{with_revoked}
use Rattle.opgp_valid.specs.declared.revoking.RevokedOn.{RevokedOn}
use Rattle.opgp_valid.specs.declared.statement.Statement.{Statement}
use Rattle.opgp_valid.specs.declared.steps.Step.{Step}

-- a revocation of certifications by the primary key
abbrev pub revokes_some : Statement → Bool
revokes_some s = revokes_certification s.kind && is_primary s.author

abbrev pub nothing_revoked : RevokedOn
nothing_revoked = record { all = false; until = None }

-- with a revocation that was made then, if it says so
abbrev pub with_made : RevokedOn → Option ℕ → RevokedOn
with_made r None = record { all = true; until = r.until }
with_made r (Some made) = record { all = r.all; until = later r.until (Some made) }

abbrev pub with_one : RevokedOn → Statement → RevokedOn
with_one r s = with_made r (made_at s)

-- a certification that was made then, if it says so, is among them
abbrev pub has_made : RevokedOn → Option ℕ → Option ℕ → Bool
has_made r (Some until) (Some made) = r.all || nat_le made until
has_made r until made = r.all || is_some until

abbrev pub has : RevokedOn → Statement → Bool
has r s = has_made r r.until (made_at s)

-- by what these say of a component
abbrev pub revoked_on : List Statement → Option ℕ → RevokedOn
revoked_on ss None = nothing_revoked
revoked_on ss (Some n) = fold with_one nothing_revoked (filter (revokes_identity n) ss)

-- the same, where this was found of the component of the statement before
abbrev pub revoked_in : RevokedOn → Option ℕ → Option (List Statement) → RevokedOn
revoked_in before component None = before
revoked_in before component (Some part) = revoked_on part component

abbrev pub revoked_at : RevokedOn → Step → RevokedOn
revoked_at before step = revoked_in before step.statement.now.component (part_shown step)

-- it is a certification that is revoked by this
abbrev pub marked : RevokedOn → Statement → Statement
marked revoked s = with_revoked (is_certification_on s && has revoked s) s
