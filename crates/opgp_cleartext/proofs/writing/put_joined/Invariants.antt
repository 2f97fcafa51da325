use Rattle.std.proofs.Common.{◌≡◌, ◌≤◌, ◌+◌, ◌-◌, ◌++◌, ℕ, List, length, drop, map, vec_len, vec_capacity}
use Rattle.std.specs.List.{flat_map}
use Rattle.opgp_armor.specs.Text.{lines}
use Rattle.opgp_cleartext.specs.Cleartext.{joined_by}
use Rattle.opgp_cleartext.specs.Line.{shown_of}
use Rattle.opgp_cleartext.proofs.writing.put_joined.Given as goal

-- those written, and those that are left, for which there is room
abbrev pub invariant-lines : goal.invariant-lines
invariant-lines l = record {
  within : l.at ≤ length l.text;
  written : l.out.items ++ flat_map (λ (m : List ℕ). l.between ++ m) (map shown_of (lines (drop l.at l.text))) ≡ l.fn.out.items ++ joined_by l.between (map shown_of (lines l.text));
  room : vec_len l.out + length (flat_map (λ (m : List ℕ). l.between ++ m) (map shown_of (lines (drop l.at l.text)))) ≤ vec_capacity l.out;
}

abbrev pub decreases-lines : goal.decreases-lines
decreases-lines l = length l.text - l.at
