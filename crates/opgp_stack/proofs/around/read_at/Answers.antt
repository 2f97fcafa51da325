use Rattle.std.proofs.Common.{◌∙◌, ℕ, List, Some, Result, ap, sym, map, slice_get}
use Rattle.opgp_octets.specs.declared.fault.BodyFault.{BodyFault}
use Rattle.opgp_packet.specs.SignatureBody.{SignatureValue}
use Rattle.opgp_keyring.specs.SignedLiteral.{signatures_left}
use Rattle.opgp_stack.specs.Documents.{signed_in, signed_read}
use Rattle.opgp_stack.proofs.DocumentLines.{read_is}
use Rattle.opgp_stack.proofs.around.read_at.Goals as goal

pub returns-then-before-eq0 : goal.returns-then-before-eq0
returns-then-before-eq0 c =
    let b = c.in-Some.ensures in
    sym (c.signatures.invariant
    ∙ ap (λ (i : ℕ). slice_get (map signed_in (signatures_left c.signatures.left)) i) c.if-before-eq0.true
    ∙ ap (λ (l : List (List ℕ)). slice_get (map signed_in l) 0) b.1
    ∙ ap (λ (r : Result SignatureValue BodyFault). Some (signed_read r)) (read_is b.0 c.in-Some.read b.2))
