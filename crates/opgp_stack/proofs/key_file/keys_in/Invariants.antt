use Rattle.std.proofs.Common.{ℕ, List, ◌+◌, ◌≤◌, Option, Some, None, length, option_map}
use Rattle.opgp_stack.proofs.KeyFiles.{SoFar}
use Rattle.opgp_stack.proofs.key_file.keys_in.Given as goal

abbrev size : Option (List ℕ) → ℕ
size None = 0
size (Some octets) = length octets + 1

abbrev pub invariant-lines : goal.invariant-lines
invariant-lines l = record {
  so_far : SoFar l.fn.file (option_map (λ octets. octets.now) l.left) l.line l.keys.items;
  few : l.line + size (option_map (λ octets. octets.now) l.left) ≤ length l.fn.file + 2;
}

abbrev pub decreases-lines : goal.decreases-lines
decreases-lines l = size (option_map (λ octets. octets.now) l.left)
