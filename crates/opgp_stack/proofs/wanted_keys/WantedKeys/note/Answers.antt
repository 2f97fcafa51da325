use Rattle.std.proofs.Common.{◌∙◌, [], ◌∷◌, ◌++◌, ap}
use Rattle.std.specs.List.{flat_map}
use Rattle.opgp_report.specs.First.{print_of}
use Rattle.opgp_report.specs.Report.{subkey_bodies}
use Rattle.opgp_stack.proofs.Wanted.{certificate_noted, or_else, or_then}
use Rattle.opgp_stack.proofs.wanted_keys.WantedKeys.note.Goals as goal

pub returns-then-primary-clause-noted : goal.returns-then-primary-clause-noted
returns-then-primary-clause-noted c = λ names bodies h.
    let body = c.args.certificate.now.primary.body in
    let first = c.note_key-primary.ensures names bodies body (c.print_of.ensures ∙ ap print_of c.key.ensures) h in
    certificate_noted names bodies (flat_map subkey_bodies c.args.certificate.now.components) body c.note_key-primary.result c.note_subkeys-subkeys.result c.note_key-primary.result c.note_subkeys-subkeys.new.notes
    (or_then c.note_key-primary.result c.note_subkeys-subkeys.result c.if-primary.true) first.0 (rw c.components.ensures.value at (c.note_subkeys-subkeys.ensures names (bodies ++ body ∷ []) first.1))

pub returns-else-primary-clause-noted : goal.returns-else-primary-clause-noted
returns-else-primary-clause-noted c = λ names bodies h.
    let body = c.args.certificate.now.primary.body in
    let first = c.note_key-primary.ensures names bodies body (c.print_of.ensures ∙ ap print_of c.key.ensures) h in
    certificate_noted names bodies (flat_map subkey_bodies c.args.certificate.now.components) body c.note_key-primary.result c.note_subkeys-subkeys.result c.note_subkeys-subkeys.result c.note_subkeys-subkeys.new.notes
    (or_else c.note_key-primary.result c.note_subkeys-subkeys.result c.if-primary.false) first.0 (rw c.components.ensures.value at (c.note_subkeys-subkeys.ensures names (bodies ++ body ∷ []) first.1))
