-- What the newest of some signatures say, gathered one by one.
use Rattle.std.specs.Prelude.{◌≡◌, ℕ, ◌&&◌, if◌then◌else◌, List, [], ◌∷◌, Option, Some, None}
use Rattle.opgp_valid.specs.Group.{speaks}
use Rattle.opgp_valid.specs.Saying.{merged, saying_of}
use Rattle.opgp_valid.specs.Speaking.{is_same, later, latest_on, made_at, made_then}
use Rattle.opgp_valid.specs.Speaking as speaking
use Rattle.opgp_valid.specs.Steps.{part_shown}
use Rattle.opgp_valid.specs.declared.current.Newest.{Newest}
use Rattle.opgp_valid.specs.declared.group.Group.{Group}
use Rattle.opgp_valid.specs.declared.saying.Saying.{Saying}
use Rattle.opgp_valid.specs.declared.statement.Statement.{Statement}
use Rattle.opgp_valid.specs.declared.steps.Step.{Step}

-- this is what the newest of these say of a key that was created then, at a time
pub record IsNewestOf (created at : ℕ) (ss : List Statement) (newest : Newest) : Type 0 where
  pub last : newest.last ≡ speaking.latest ss
  pub saying : newest.saying ≡ saying_of created at (made_then (speaking.latest ss) ss)

module _ (created at : ℕ) where
  -- what they say, if this is when they were made
  abbrev pub said_then : Newest → Option ℕ → Saying
  said_then newest time =
      if is_same time newest.last then newest.saying else saying_of created at []

  -- with what a signature says, if this is when it was made
  abbrev pub said_too : Saying → Statement → Option ℕ → Saying
  said_too said s time = if is_same (made_at s) time
      then merged said (saying_of created at (s ∷ [])) else said

  -- with one more
  abbrev pub with_one : Newest → Statement → Newest
  with_one newest s = record {
    last = later newest.last (made_at s);
    saying = said_too (said_then newest (later newest.last (made_at s))) s
        (later newest.last (made_at s));
  }

  -- with one more, if it speaks and was made then
  abbrev pub with_current : Group → Option ℕ → Newest → Statement → Newest
  with_current group last newest s = if speaks group at s && is_same (made_at s) last
      then with_one newest s else newest

-- when the newest certifications of a component were made, by these of them, or by what was found
-- of it before
abbrev pub latest_in : Group → ℕ → Option ℕ → Option ℕ → Option (List Statement) → Option ℕ
latest_in group at before component None = before
latest_in group at before component (Some part) = latest_on group at part component

abbrev pub latest_at : Group → ℕ → Option ℕ → Step → Option ℕ
latest_at group at before step =
    latest_in group at before step.statement.now.component (part_shown step)
