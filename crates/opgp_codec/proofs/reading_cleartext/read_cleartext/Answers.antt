use Rattle.std.proofs.Common.{◌≡◌, ◌∙◌, ℕ, ◌≤◌, List, Ok, Err, Bor, length, drop, refl, ap, subst, arith}
use Rattle.std.proofs.lemmas.List.{length-drop}
use Rattle.opgp_octets.specs.Limits.{line_limit}
use Rattle.opgp_frame.specs.Packet.{PacketValue}
use Rattle.opgp_keyring.specs.DetachedSignatures.{detached_packets}
use Rattle.opgp_cleartext.specs.Cleartext.{HasCleartext}
use Rattle.opgp_cleartext.specs.Faults.{IsCleartextFault}
use Rattle.opgp_cleartext.specs.View.{document_of, place_of, rest_of}
use Rattle.opgp_codec.specs.declared.mode.Mode.TheVariants.{Armor}
use Rattle.opgp_codec.specs.Cleartext.{at_lines, at_rest, moved}
use Rattle.opgp_codec.specs.Reading.{AnswerOf}
use Rattle.opgp_codec.specs.Signatures.{AreDetachedSignatures, signature_label}
use Rattle.opgp_codec.proofs.Cleartexts.{rest_within}
use Rattle.opgp_codec.proofs.reading_cleartext.read_cleartext.Goals as goal

pub returns-in-Err-clause-reads : goal.returns-in-Err-clause-reads
returns-in-Err-clause-reads c =
    at_lines (omega (arith, c.if-text-input.false, c.input.ensures.value)) c.in-Err.fault
    (subst (λ (n : ℕ). IsCleartextFault n c.args.text.now c.in-Err.fault) c.line.ensures.value c.in-Err.ensures.err) refl

pub moved-requires : goal.moved-requires
moved-requires c = λ armor.
    let l = c.with_outside-strict.result in
    let f = c.in-Err-Refused.fault in
    let m = c.in-Ok.message in
    let t : List ℕ = c.args.text.now in
    let all = rw c.in-Err-Refused.field-0-is at c.in-Err-Refused.ensures in
    let is : AnswerOf {A = List PacketValue} signature_label (AreDetachedSignatures l) Armor l c.signatures.result.now (Err f) =
    subst (λ (s : Bor (List ℕ)). AnswerOf {A = List PacketValue} signature_label (AreDetachedSignatures l) Armor l s.now (Err f)) c.new-source.ensures.inner all.known in
    let pos : f.pos ≤ length c.signatures.result.now = rest_within l c.signatures.result.now f is armor in
    let size = ap (length {A = ℕ}) (c.signatures.ensures ∙ c.in-Ok.ensures.place.1) in
    omega (arith, pos, size, length-drop (place_of m) t, c.signatures_place-place.ensures, c.in-Ok.ensures.place.0)

pub returns-in-Ok-read_signatures-clause-reads : goal.returns-in-Ok-read_signatures-clause-reads
returns-in-Ok-read_signatures-clause-reads c =
    let l = c.with_outside-strict.result in
    let e = c.with_outside-strict.ensures in
    let m = c.in-Ok.message in
    let s = c.in-Ok-read_signatures.signatures in
    let t : List ℕ = c.args.text.now in
    let is : AnswerOf {A = List PacketValue} signature_label (AreDetachedSignatures l) Armor l c.signatures.result.now (Ok (detached_packets s)) =
    subst (λ (x : Bor (List ℕ)). AnswerOf {A = List PacketValue} signature_label (AreDetachedSignatures l) Armor l x.now (Ok (detached_packets s))) c.new-source.ensures.inner c.in-Ok-read_signatures.ensures.known in
    let rest : c.signatures.result.now ≡ drop (place_of m) t = c.signatures.ensures ∙ c.in-Ok.ensures.place.1 in
    at_rest (omega (arith, c.if-text-input.false, c.input.ensures.value)) (document_of m) (place_of m) c.in-Ok.ensures.place.0
    (subst (λ (x : List ℕ). HasCleartext (line_limit c.args.limits.now) t (document_of m) x) c.in-Ok.ensures.place.1
    (subst (λ (n : ℕ). HasCleartext n t (document_of m) (rest_of m)) c.line.ensures.value c.in-Ok.ensures.ok))
    (Ok (detached_packets s))
    (record {
      strict = l;
      are_strict = record { line = e.line; body = e.body; cert = e.cert; input = e.input; pieces = e.pieces; outside = e.outside; malformed = e.malformed };
      is = subst (λ (x : List ℕ). AnswerOf {A = List PacketValue} signature_label (AreDetachedSignatures l) Armor l x (Ok (detached_packets s))) rest is;
    }) refl

pub returns-in-Err-Refused-clause-reads : goal.returns-in-Err-Refused-clause-reads
returns-in-Err-Refused-clause-reads c =
    let l = c.with_outside-strict.result in
    let e = c.with_outside-strict.ensures in
    let f = c.in-Err-Refused.fault in
    let m = c.in-Ok.message in
    let t : List ℕ = c.args.text.now in
    let all = rw c.in-Err-Refused.field-0-is at c.in-Err-Refused.ensures in
    let is : AnswerOf {A = List PacketValue} signature_label (AreDetachedSignatures l) Armor l c.signatures.result.now (Err f) =
    subst (λ (x : Bor (List ℕ)). AnswerOf {A = List PacketValue} signature_label (AreDetachedSignatures l) Armor l x.now (Err f)) c.new-source.ensures.inner all.known in
    let rest : c.signatures.result.now ≡ drop (place_of m) t = c.signatures.ensures ∙ c.in-Ok.ensures.place.1 in
    at_rest (omega (arith, c.if-text-input.false, c.input.ensures.value)) (document_of m) (place_of m) c.in-Ok.ensures.place.0
    (subst (λ (x : List ℕ). HasCleartext (line_limit c.args.limits.now) t (document_of m) x) c.in-Ok.ensures.place.1
    (subst (λ (n : ℕ). HasCleartext n t (document_of m) (rest_of m)) c.line.ensures.value c.in-Ok.ensures.ok))
    (Err f)
    (record {
      strict = l;
      are_strict = record { line = e.line; body = e.body; cert = e.cert; input = e.input; pieces = e.pieces; outside = e.outside; malformed = e.malformed };
      is = subst (λ (x : List ℕ). AnswerOf {A = List PacketValue} signature_label (AreDetachedSignatures l) Armor l x (Err f)) rest is;
    })
    (ap Err (c.moved.ensures ∙ ap (λ (n : ℕ). moved n f) c.signatures_place-place.ensures))

pub returns-in-Ok-read_signatures-clause-lines : goal.returns-in-Ok-read_signatures-clause-lines
returns-in-Ok-read_signatures-clause-lines c =
    let m = c.in-Ok.message in
    subst (λ (n : ℕ). HasCleartext n c.args.text.now (document_of m) (rest_of m)) c.line.ensures.value c.in-Ok.ensures.ok
