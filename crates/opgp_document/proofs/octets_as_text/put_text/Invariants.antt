use Rattle.std.proofs.Common.{◌≡◌, ◌≤◌, ◌+◌, ◌-◌, ◌++◌, length, take, vec_len, vec_capacity}
use Rattle.opgp_document.specs.Text.{to_text}
use Rattle.opgp_document.proofs.octets_as_text.put_text.Given as goal

abbrev pub invariant-lines : goal.invariant-lines
invariant-lines l = record {
  within : l.start ≤ length l.octets;
  written : l.text.items ≡ l.fn.text.items ++ to_text l.after_cr (take l.start l.octets);
  len : vec_len l.text ≡ vec_len l.fn.text + length (to_text l.after_cr (take l.start l.octets));
  room : vec_len l.fn.text + length (to_text l.after_cr l.octets) ≤ vec_capacity l.text;
}

abbrev pub decreases-lines : goal.decreases-lines
decreases-lines l = length l.octets - l.start
