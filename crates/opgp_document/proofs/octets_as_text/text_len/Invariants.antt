use Rattle.std.proofs.Common.{◌≡◌, ◌≤◌, ◌+◌, ◌-◌, length, take}
use Rattle.opgp_document.specs.Text.{to_text}
use Rattle.opgp_document.proofs.octets_as_text.text_len.Given as goal

abbrev pub invariant-lines : goal.invariant-lines
invariant-lines l = record {
  within : l.start ≤ length l.octets;
  few : l.count ≤ length l.octets + l.start;
  counted : l.count + l.start ≡ length l.octets + length (to_text l.after_cr (take l.start l.octets));
}

abbrev pub decreases-lines : goal.decreases-lines
decreases-lines l = length l.octets - l.start
