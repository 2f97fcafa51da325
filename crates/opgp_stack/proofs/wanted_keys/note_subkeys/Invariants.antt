use Rattle.std.proofs.Common.{◌≡◌, ℕ, ◌||◌, ◌++◌, List, length}
use Rattle.std.specs.List.{flat_map, list_any}
use Rattle.opgp_report.specs.First.{print_of}
use Rattle.opgp_report.specs.Report.{subkey_bodies}
use Rattle.opgp_keyring.specs.Grouped.{components_left}
use Rattle.opgp_stack.specs.WantedKeys.{AreNotes}
use Rattle.opgp_stack.specs.KeyName.{has_one_of}
use Rattle.opgp_stack.proofs.wanted_keys.note_subkeys.Given as goal

-- the keys that came, and those of the components to come, are all; and so are those that are looked for
abbrev pub invariant-components : goal.invariant-components
invariant-components l = (names bodies : List (List ℕ)) → AreNotes names bodies l.fn.notes → (came : List (List ℕ)) × AreNotes names came l.notes
    × (came ++ flat_map subkey_bodies (components_left l.components) ≡ bodies ++ flat_map subkey_bodies (components_left l.fn.components))
    × ((l.any || list_any (λ body. has_one_of names (print_of body)) (flat_map subkey_bodies (components_left l.components))) ≡ list_any (λ body. has_one_of names (print_of body)) (flat_map subkey_bodies (components_left l.fn.components)))

abbrev pub decreases-components : goal.decreases-components
decreases-components l = length (components_left l.components)
