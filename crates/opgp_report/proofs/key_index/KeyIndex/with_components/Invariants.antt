use Rattle.std.proofs.Common.{◌≡◌, ◌++◌, length, map}
use Rattle.std.specs.List.{flat_map}
use Rattle.opgp_keyring.specs.Grouped.{components_left}
use Rattle.opgp_report.specs.First.{print_of}
use Rattle.opgp_report.specs.KeyIndex.{prints_shown}
use Rattle.opgp_report.specs.Report.{subkey_bodies}
use Rattle.opgp_report.proofs.key_index.KeyIndex.with_components.Given as goal

-- the keys so far, and those that are to come, are all
abbrev pub invariant-components : goal.invariant-components
invariant-components l = prints_shown l.names ++ map print_of (flat_map subkey_bodies (components_left l.components)) ≡ prints_shown l.fn.self ++ map print_of (flat_map subkey_bodies (components_left l.initial.components))

abbrev pub decreases-components : goal.decreases-components
decreases-components l = length (components_left l.components)
