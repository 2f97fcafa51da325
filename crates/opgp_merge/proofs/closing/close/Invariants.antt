use Rattle.std.proofs.Common.{◌≡◌, ◌++◌, drop}
use Rattle.std.specs.List.{flat_map}
use Rattle.opgp_keyring.specs.Keyring.{certificate_packets, component_packets}
use Rattle.opgp_merge.proofs.closing.close.Given as goal

abbrev pub invariant-loop-component : goal.invariant-loop-component
invariant-loop-component l = certificate_packets l.closed ++ flat_map component_packets (drop l.component-index l.fn.open.components) ≡ certificate_packets l.fn.open
