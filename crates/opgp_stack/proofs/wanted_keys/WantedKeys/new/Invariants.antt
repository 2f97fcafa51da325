use Rattle.std.proofs.Common.{◌≡◌, ℕ, List, length, map}
use Rattle.opgp_stack.specs.KeyName.{name_octets}
use Rattle.opgp_stack.proofs.Wanted.{note_all, note_with}
use Rattle.opgp_stack.proofs.wanted_keys.WantedKeys.new.Given as goal

-- what is noted once the rest are too
abbrev pub invariant-names : goal.invariant-names
invariant-names l = (other : List ℕ) → note_with (map name_octets l.rest) other l.notes ≡ note_all (map name_octets l.fn.names) other

abbrev pub decreases-names : goal.decreases-names
decreases-names l = length l.rest
