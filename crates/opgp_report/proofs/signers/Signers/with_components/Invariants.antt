use Rattle.std.proofs.Common.{◌≡◌, ◌++◌, length}
use Rattle.std.specs.List.{flat_map}
use Rattle.opgp_keyring.specs.Grouped.{components_left}
use Rattle.opgp_report.specs.Report.{subkey_bodies}
use Rattle.opgp_report.specs.Signers.{signers_keys}
use Rattle.opgp_report.proofs.signers.Signers.with_components.Given as goal

-- the keys so far, and those that are to come, are all
abbrev pub invariant-components : goal.invariant-components
invariant-components l = signers_keys l.signers ++ flat_map subkey_bodies (components_left l.components) ≡ signers_keys l.fn.self ++ flat_map subkey_bodies (components_left l.initial.components)

abbrev pub decreases-components : goal.decreases-components
decreases-components l = length (components_left l.components)
