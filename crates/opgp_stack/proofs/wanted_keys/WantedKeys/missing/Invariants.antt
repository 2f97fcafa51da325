use Rattle.std.proofs.Common.{◌≡◌, ◌+◌, false, length, map}
use Rattle.std.specs.Option.{unwrap_or}
use Rattle.opgp_stack.specs.WantedKeys.{note_of}
use Rattle.opgp_stack.specs.KeyName.{missing_from, name_octets}
use Rattle.opgp_stack.proofs.wanted_keys.WantedKeys.missing.Given as goal

-- those that passed are found
abbrev pub invariant-names : goal.invariant-names
invariant-names l = record {
  found : missing_from (λ name. unwrap_or (note_of name l.self.notes) false) l.number (map name_octets l.rest) ≡ missing_from (λ name. unwrap_or (note_of name l.self.notes) false) 0 (map name_octets l.initial.rest);
  count : l.number + length l.rest ≡ length l.initial.rest;
}

abbrev pub decreases-names : goal.decreases-names
decreases-names l = length l.rest
