-- What is said of a key at a time.
use Rattle.std.specs.Prelude.{ℕ, List}
use Rattle.opgp_valid.specs.Facts.{FactsValue}
use Rattle.opgp_valid.specs.Group.{any, good}
use Rattle.opgp_valid.specs.Saying.{heard_of}
use Rattle.opgp_valid.specs.Speaking.{newest}
use Rattle.opgp_valid.specs.Standing.{created_of, limiters, speakers}
use Rattle.opgp_valid.specs.declared.facts.Key.{Key}
use Rattle.opgp_valid.specs.declared.group.Sort.TheVariants.{Bindings}
use Rattle.opgp_valid.specs.declared.saying.Saying.{Saying}
use Rattle.opgp_valid.specs.declared.statement.Statement.{Statement}

abbrev pub saying_at : FactsValue → Key → ℕ → Saying
saying_at f k at = heard_of (created_of f k) at (speakers f k at) (limiters f k at)

-- of a subkey, by its number, by these signatures
abbrev pub subkey_saying_of : List Statement → ℕ → ℕ → ℕ → Saying
subkey_saying_of ss n created at = heard_of created at (newest (good (Bindings n)) at ss)
    (newest (any (Bindings n)) at ss)
