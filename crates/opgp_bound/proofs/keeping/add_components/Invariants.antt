use Rattle.std.proofs.Common.{◌≡◌, ◌++◌, All, length}
use Rattle.std.specs.List.{flat_map}
use Rattle.opgp_keyring.specs.Keyring.{certificate_packets, component_packets}
use Rattle.opgp_bound.specs.Bound.{kept_components}
use Rattle.opgp_bound.specs.Judged.{IsJudgedComponent}
use Rattle.opgp_bound.proofs.keeping.add_components.Given as goal

abbrev pub invariant-components : goal.invariant-components
invariant-components l = record {
  sound : All IsJudgedComponent l.rest;
  value : certificate_packets l.chosen ++ flat_map component_packets (kept_components l.rest)
      ≡ certificate_packets l.fn.chosen ++ flat_map component_packets (kept_components l.fn.components);
}

abbrev pub decreases-components : goal.decreases-components
decreases-components l = length l.rest
