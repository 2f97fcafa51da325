use Rattle.std.proofs.Common.{◌≡◌, ◌++◌, All, length}
use Rattle.std.specs.List.{flat_map}
use Rattle.opgp_keyring.specs.Keyring.{certificate_packets}
use Rattle.opgp_bound.specs.Bound.{left_behind}
use Rattle.opgp_bound.specs.Judged.{IsJudgedComponent}
use Rattle.opgp_bound.proofs.keeping.add_left.Given as goal

abbrev pub invariant-components : goal.invariant-components
invariant-components l = record {
  sound : All IsJudgedComponent l.rest;
  value : certificate_packets l.chosen ++ flat_map left_behind l.rest ≡ certificate_packets l.fn.chosen ++ flat_map left_behind l.fn.components;
}

abbrev pub decreases-components : goal.decreases-components
decreases-components l = length l.rest
