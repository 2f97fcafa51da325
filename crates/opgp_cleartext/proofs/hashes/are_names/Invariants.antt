use Rattle.std.proofs.Common.{◌≡◌, ◌≤◌, length}
use Rattle.std.specs.List.{list_all}
use Rattle.opgp_cleartext.specs.Hashes.{is_named, parts}
use Rattle.opgp_cleartext.proofs.hashes.are_names.Given as goal

abbrev pub invariant-names : goal.invariant-names
invariant-names l = record {
  left : list_all is_named (parts l.rest) ≡ list_all is_named (parts l.names);
  within : length l.rest ≤ length l.names;
}

abbrev pub decreases-names : goal.decreases-names
decreases-names l = length l.rest
