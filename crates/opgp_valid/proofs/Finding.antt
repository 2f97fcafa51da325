-- Looking for a signature by its number.
use Rattle.std.proofs.Common.{◌≡◌, ℕ, zero, suc, ◌-◌, ◌<◌, List, ◌∷◌, length, Option, arith}
use Rattle.std.specs.List.{slice_get}
use Rattle.std.specs.Option.{option_and_then}
use Rattle.opgp_hash.specs.QuestionValue.{QuestionValue}
use Rattle.opgp_report.specs.Standing.{Standing}
use Rattle.opgp_valid.specs.Revocation.{revocation_of}

-- what is found behind the first, is found of all
pub found_behind : (n : ℕ) (s : Standing) (more : List Standing) (q : Option QuestionValue) → 0 < n → (n - 1 < length more) × (q ≡ option_and_then revocation_of (slice_get more (n - 1))) → (n < length (s ∷ more)) × (q ≡ option_and_then revocation_of (slice_get (s ∷ more) n))
found_behind zero s more q some h = absurd (omega (arith, some))
found_behind (suc n) s more q some h = let e : suc n - 1 ≡ n = omega arith in let g = rw e at h in (omega (arith, g.0), g.1)
