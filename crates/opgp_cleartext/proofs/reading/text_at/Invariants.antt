use Rattle.std.proofs.Common.{◌≡◌, ◌≤◌, ◌-◌, length, drop}
use Rattle.opgp_armor.specs.Text.{lines}
use Rattle.opgp_cleartext.specs.Faults.{Headers}
use Rattle.opgp_cleartext.specs.Machine.{reading}
use Rattle.opgp_cleartext.proofs.reading.text_at.Given as goal

-- what is left decides
abbrev pub invariant-lines : goal.invariant-lines
invariant-lines l = record {
  within : l.at ≤ length l.text;
  left : reading l.most (length l.text) Headers l.headers (lines (drop l.headers l.text)) ≡ reading l.most (length l.text) Headers l.at (lines (drop l.at l.text));
}

abbrev pub decreases-lines : goal.decreases-lines
decreases-lines l = length l.text - l.at
