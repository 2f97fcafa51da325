-- What signatures say that newer ones outdate at a time.
use Rattle.std.specs.Prelude.{◌≡◌, ℕ, Bool, true, not, List, Option, All}
use Rattle.std.specs.List.{filter}
use Rattle.opgp_valid.specs.Speaking.{made_at}
use Rattle.opgp_valid.specs.declared.statement.Statement.{Statement}
use Rattle.opgp_bound.specs.Newest.{is_before, newest_made}

-- a newer one of its sort counts at this time, on the same key, user ID or attribute
abbrev pub is_outdated : ℕ → List Statement → Statement → Bool
is_outdated at ss s = is_before (made_at s) (newest_made at ss s.component s.kind)

-- those of them that go are outdated
abbrev pub AreOutdated : ℕ → List Statement → (Statement → Bool) → Type 0
AreOutdated at ss goes = All (λ s. goes s ≡ true → is_outdated at ss s ≡ true) ss

abbrev pub without : (Statement → Bool) → List Statement → List Statement
without goes ss = filter (λ s. not (goes s)) ss

-- all of one component know whether that is a user ID
abbrev pub AreOnParts : (Option ℕ → Bool) → List Statement → Type 0
AreOnParts is_user_id ss = All (λ s. s.is_on_user_id ≡ is_user_id s.component) ss
