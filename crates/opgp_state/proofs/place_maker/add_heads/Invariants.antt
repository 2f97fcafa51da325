use Rattle.std.proofs.Common.{◌≡◌, ◌++◌, length}
use Rattle.opgp_keyring.specs.Grouped.{components_left}
use Rattle.opgp_state.specs.Placing.{heads_from}
use Rattle.opgp_state.proofs.place_maker.add_heads.Given as goal

-- those that are added, and those of the components that are left, are all
abbrev pub invariant-components : goal.invariant-components
invariant-components l = l.heads.items ++ heads_from l.packets l.user_ids (components_left l.components)
    ≡ l.fn.heads.items ++ heads_from l.fn.first 0 (components_left l.fn.components)

abbrev pub decreases-components : goal.decreases-components
decreases-components l = length (components_left l.components)
