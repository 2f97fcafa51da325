use Rattle.std.proofs.Common.{◌≡◌, length}
use Rattle.std.specs.List.{slice_get}
use Rattle.opgp_keyring.specs.Grouped.{components_left}
use Rattle.opgp_valid.proofs.judgement.component_at.Given as goal

-- it is among those that are to come
abbrev pub invariant-components : goal.invariant-components
invariant-components l = slice_get (components_left l.initial.components) l.fn.number ≡ slice_get (components_left l.components) l.left

abbrev pub decreases-components : goal.decreases-components
decreases-components l = length (components_left l.components)
