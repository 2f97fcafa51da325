use Rattle.std.proofs.Common.{ℕ, List, Option, Result, arith, ap, inl, inr, map, refl, subst}
use Rattle.std.specs.List.{AllZip}
use Rattle.opgp_octets.specs.declared.fault.BodyFault.{BodyFault}
use Rattle.opgp_packet.specs.SignatureBody.{SignatureValue}
use Rattle.opgp_hash.specs.SignedValue.{SignedValue}
use Rattle.opgp_document.specs.Answer.{IsAnswer, asked_of}
use Rattle.opgp_keyring.specs.DetachedSignatures.{detached_packets}
use Rattle.opgp_keyring.specs.Signed.{signature_bodies}
use Rattle.opgp_stack.specs.Documents.{Answer, AnswersTo, digest_lines, read_shown}
use Rattle.opgp_stack.specs.Running.{Refused, Text}
use Rattle.opgp_stack.proofs.DocumentLines.{reads_asked, reads_long, reads_shown}
use Rattle.opgp_stack.proofs.Runs.{ran_of, stopped_of}
use Rattle.opgp_stack.proofs.digesting.run_digests.Goals as goal

pub begin-requires : goal.begin-requires
begin-requires g c =
    let long = reads_long c.in_ok-reads.reads.items (signature_bodies (detached_packets c.args.signatures.now)) c.in_ok-reads.ensures in
    omega (arith, long, c.count.ensures)

pub returns-in_err-ended-clause-few : goal.returns-in_err-ended-clause-few
returns-in_err-ended-clause-few g c few =
    let signed = map asked_of c.in_ok-reads.reads.items in
    stopped_of (λ octets answer. AnswersTo c.args.limits.now signed octets answer) (λ fault. (refl, refl)) _ _ (λ octets fault h. inr (h.0, ap Refused h.1)) (c.in_err-ended.ensures signed (rw c.deref.ensures.value at c.in_ok-hashed.ensures.value)) c.from_residual-in_err-ended.ensures

pub returns-clause-few : goal.returns-clause-few
returns-clause-few g c few =
    let reads = c.in_ok-reads.reads.items in
    let bodies : List (List ℕ) = signature_bodies (detached_packets c.args.signatures.now) in
    let signed = map asked_of reads in
    let answers : List Answer = c.in_ok-answers.answers.items in
    ran_of (λ octets answer. AnswersTo c.args.limits.now signed octets answer) (λ fault. (refl, refl)) _ _ _ c.in_ok-ended.ended
    (λ octets h. (
      Text (digest_lines 0 (map read_shown reads) answers),
      inl (
        h.0,
        answers,
        subst (λ (l : List (Option SignedValue)). AllZip (λ (a : Answer) (s : Option SignedValue). IsAnswer s octets a) answers l) (reads_asked reads bodies c.in_ok-reads.ensures) (c.in_ok-answers.ensures signed octets h.1),
        ap (λ (l : List (Result SignatureValue BodyFault)). Text (digest_lines 0 l answers)) (reads_shown reads bodies c.in_ok-reads.ensures),
      ),
      rw (c.deref-2.ensures.value, c.deref-3.ensures.value) at c.write_answers.ensures,
    )) (c.in_ok-ended.ensures signed (rw c.deref.ensures.value at c.in_ok-hashed.ensures.value)) refl
