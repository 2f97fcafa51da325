use Rattle.std.proofs.Common.{◌≡◌, ◌++◌, ◌≤◌, length}
use Rattle.std.specs.Prelude.{take}
use Rattle.opgp_stack.specs.KeyText.{without_blanks}
use Rattle.opgp_stack.proofs.key_text.Digits.of.Given as goal

-- the digits so far, and what is to come without its blanks, are all
abbrev pub invariant-octets : goal.invariant-octets
invariant-octets l = record {
  within : l.size ≤ 66;
  room : length l.room ≡ 66;
  so_far : take l.size l.room ++ without_blanks l.rest ≡ without_blanks l.fn.text;
}

abbrev pub decreases-octets : goal.decreases-octets
decreases-octets l = length l.rest
