use Rattle.std.proofs.Common.{◌≡◌, ◌++◌, length, map}
use Rattle.std.specs.List.{flat_map}
use Rattle.opgp_keyring.specs.Grouped.{components_left}
use Rattle.opgp_report.specs.Report.{subkey_bodies}
use Rattle.opgp_valid.specs.KnownKeys.{known_of, knowns}
use Rattle.opgp_valid.proofs.known_keys.KnownKeys.with_components.Given as goal

-- the keys so far, and those that are to come, are all
abbrev pub invariant-components : goal.invariant-components
invariant-components l = knowns l.known ++ map known_of (flat_map subkey_bodies (components_left l.components)) ≡ knowns l.fn.self ++ map known_of (flat_map subkey_bodies (components_left l.initial.components))

abbrev pub decreases-components : goal.decreases-components
decreases-components l = length (components_left l.components)
