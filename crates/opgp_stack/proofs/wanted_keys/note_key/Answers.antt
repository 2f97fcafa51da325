use Rattle.std.proofs.Common.{◌∙◌, ap}
use Rattle.opgp_hash.specs.Fingerprint.{print_octets}
use Rattle.opgp_hash.specs.KeyId.{id_of}
use Rattle.opgp_stack.proofs.Wanted.{key_noted, or_else, or_then}
use Rattle.opgp_stack.proofs.wanted_keys.note_key.Goals as goal

pub returns-then-by_print : goal.returns-then-by_print
returns-then-by_print c = λ names bodies body is h.
    let k = key_noted names bodies body c.octets.result.now c.as_slice.result.now c.args.notes.now c.note_name-by_print.new.notes c.note_name-by_id.new.notes c.note_name-by_print.result c.note_name-by_id.result (c.octets.ensures.value ∙ ap print_octets is)
    (c.as_slice.ensures ∙ c.key_id-id.ensures ∙ ap id_of is) c.note_name-by_print.ensures.wanted c.note_name-by_id.ensures.wanted c.note_name-by_print.ensures.noted c.note_name-by_id.ensures.noted h in
    (or_then c.note_name-by_print.result c.note_name-by_id.result c.if-by_print.true ∙ k.0, k.1)

pub returns-else-by_print : goal.returns-else-by_print
returns-else-by_print c = λ names bodies body is h.
    let k = key_noted names bodies body c.octets.result.now c.as_slice.result.now c.args.notes.now c.note_name-by_print.new.notes c.note_name-by_id.new.notes c.note_name-by_print.result c.note_name-by_id.result (c.octets.ensures.value ∙ ap print_octets is)
    (c.as_slice.ensures ∙ c.key_id-id.ensures ∙ ap id_of is) c.note_name-by_print.ensures.wanted c.note_name-by_id.ensures.wanted c.note_name-by_print.ensures.noted c.note_name-by_id.ensures.noted h in
    (or_else c.note_name-by_print.result c.note_name-by_id.result c.if-by_print.false ∙ k.0, k.1)
