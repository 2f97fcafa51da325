use Rattle.std.proofs.Common.{◌≡◌, ◌≤◌, ◌<◌, ◌+◌, ◌-◌, ◌*◌, ◌++◌, ℕ, List, length, drop, map}
use Rattle.std.specs.List.{flat_map}
use Rattle.opgp_armor.specs.Text.{lines}
use Rattle.opgp_cleartext.specs.Cleartext.{joined_by}
use Rattle.opgp_cleartext.specs.Line.{shown_of}
use Rattle.opgp_cleartext.proofs.writing.joined_len.Given as goal

-- those counted, and those that are left
abbrev pub invariant-lines : goal.invariant-lines
invariant-lines l = record {
  within : l.at ≤ length l.text;
  counted : l.count + length (flat_map (λ (m : List ℕ). l.between ++ m) (map shown_of (lines (drop l.at l.text)))) ≡ length (joined_by l.between (map shown_of (lines l.text)));
  few : l.count ≤ 2 * l.at;
  fewer : l.at < length l.text → l.count < 2 * l.at;
}

abbrev pub decreases-lines : goal.decreases-lines
decreases-lines l = length l.text - l.at
