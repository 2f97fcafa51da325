use Rattle.std.proofs.Common.{◌≡◌, ◌++◌, length}
use Rattle.opgp_keyring.specs.Grouped.{components_left}
use Rattle.opgp_merge.proofs.open.open_components.Given as goal

abbrev pub invariant-components : goal.invariant-components
invariant-components l = l.open.items ++ components_left l.components ≡ components_left l.fn.components

abbrev pub decreases-components : goal.decreases-components
decreases-components l = length (components_left l.components)
