use Rattle.std.proofs.Common.{◌≡◌, length}
use Rattle.std.specs.List.{flat_map}
use Rattle.opgp_report.specs.Report.{subkey_bodies}
use Rattle.opgp_keyring.specs.Grouped.{components_left}
use Rattle.opgp_stack.specs.KeyName.{is_any_named, name_octets}
use Rattle.opgp_stack.proofs.key_name.KeyName.is_on.Given as goal

-- none of those that passed has the name
abbrev pub invariant-components : goal.invariant-components
invariant-components l = is_any_named (name_octets l.self) (flat_map subkey_bodies (components_left l.components)) ≡ is_any_named (name_octets l.fn.self) (flat_map subkey_bodies (components_left l.initial.components))

abbrev pub decreases-components : goal.decreases-components
decreases-components l = length (components_left l.components)
