use Rattle.std.proofs.Common.{◌≡◌, ◌≤◌, ◌-◌, ◌++◌, length, take, drop}
use Rattle.opgp_document.specs.Text.{to_text}
use Rattle.opgp_document.proofs.octets_as_text.fill_text.Given as goal

abbrev pub invariant-lines : goal.invariant-lines
invariant-lines l = record {
  within : l.start ≤ length l.octets;
  size : l.at ≡ length (to_text l.after_cr (take l.start l.octets));
  filled : l.table ≡ to_text l.after_cr (take l.start l.octets) ++ drop l.at l.fn.table;
  room : length l.table ≡ length l.fn.table;
}

abbrev pub decreases-lines : goal.decreases-lines
decreases-lines l = length l.octets - l.start
