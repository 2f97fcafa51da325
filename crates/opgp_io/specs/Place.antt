-- Octets written one after the other into a slice.
use Rattle.std.specs.Prelude.{◌≡◌, ◌≤◌, ℕ, List, ◌++◌, length, take}

-- The octets up to `end` are those that were there up to `at`, followed by the text.
pub record Wrote (old new : List ℕ) (at end : ℕ) (text : List ℕ) : Type 0 where
  pub within : end ≤ length new
  pub octets : take end new ≡ take at old ++ text
