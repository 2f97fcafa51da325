-- What the kept states of a hasher hold.
use Rattle.std.specs.Prelude.{ℕ, List}
use Rattle.std.specs.Option.{ForSome}
use Rattle.opgp_hash.specs.declared.kept.Kept.{Kept}

-- each state that is kept has taken these octets: a key's, or a subject's
abbrev pub Keeps : {D : Type 0} → (D → List ℕ → Type 0) → Kept D → List ℕ → List ℕ → Type 0
Keeps holds kept key subject =
    ForSome kept.key (λ h. holds h key) × ForSome kept.subject (λ h. holds h subject)
