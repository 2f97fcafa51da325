use Rattle.std.proofs.Common.{◌≡◌, ◌≤◌, ◌-◌, ◌++◌, ℕ, List, length, drop, map}
use Rattle.std.specs.List.{flat_map}
use Rattle.opgp_armor.specs.Text.{lines}
use Rattle.opgp_cleartext.specs.Cleartext.{joined_by}
use Rattle.opgp_cleartext.specs.Line.{shown_of}
use Rattle.opgp_cleartext.proofs.Joining.{Filled}
use Rattle.opgp_cleartext.proofs.writing.fill_joined.Given as goal

-- those filled in, and those that are left, for which there is room
abbrev pub invariant-lines : goal.invariant-lines
invariant-lines l = record {
  within : l.at ≤ length l.text;
  filled : Filled l.fn.table l.table l.count (flat_map (λ (m : List ℕ). l.between ++ m) (map shown_of (lines (drop l.at l.text)))) (joined_by l.between (map shown_of (lines l.text)));
  room : length l.table ≡ length l.fn.table;
}

abbrev pub decreases-lines : goal.decreases-lines
decreases-lines l = length l.text - l.at
