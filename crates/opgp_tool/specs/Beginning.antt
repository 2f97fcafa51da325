-- The first octets of an input.
use Rattle.std.specs.Prelude.{◌≡◌, ◌++◌, ℕ, List, true, take}
use Rattle.opgp_tool.specs.declared.beginning.Beginning.{Beginning}

-- what is kept of an input are its first 65,536 octets, or all of them, or fewer where memory ran
-- out
pub record IsBeginning (b : Beginning) (input : List ℕ) : Type 0 where
  pub rest : List ℕ
  pub front : input ≡ b.octets.items ++ rest
  pub all : b.goes_on ≡ true → b.octets.items ≡ take 65536 input
