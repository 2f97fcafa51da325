use Rattle.std.proofs.Common.{ℕ, List, Err, Ok, refl}
use Rattle.opgp_octets.specs.declared.limits.Limits.{Limits}
use Rattle.opgp_keyring.specs.DetachedSignatures.{detached_packets}
use Rattle.opgp_keyring.specs.declared.detached_signatures.DetachedSignatures.{DetachedSignatures}
use Rattle.opgp_codec.specs.Reading.{AnswerOf, Outcome, shown}
use Rattle.opgp_codec.specs.Signatures.{AreDetachedSignatures, signature_label}
use Rattle.opgp_codec.specs.declared.mode.Mode.{Mode}
use Rattle.opgp_stack.specs.Documents.{around_of}
use Rattle.opgp_stack.proofs.ReadFor.{reads_for}
use Rattle.opgp_stack.proofs.Runs.{ran_of, stopped_of}
use Rattle.opgp_stack.proofs.around.run_around.Goals as goal

-- what is read
abbrev SignaturesOf : Mode → Limits → List ℕ → Outcome DetachedSignatures → Type 0
SignaturesOf mode limits octets answer = AnswerOf signature_label (AreDetachedSignatures limits) mode limits octets (shown detached_packets answer)

pub returns-in_err-signatures : goal.returns-in_err-signatures
returns-in_err-signatures g c =
    stopped_of (SignaturesOf c.args.mode c.args.limits.now) (λ fault. (refl, refl)) _ _ (λ octets fault h. (Err fault, h, refl)) (reads_for g.R.Source.left g.R.Source.has_failed c.args.reader.now c.read_signatures.new.reader c.args.limits.now (SignaturesOf c.args.mode c.args.limits.now) c.in_err-signatures.field-0.0 c.in_err-signatures.ensures) c.from_residual.ensures

pub returns : goal.returns
returns g c =
    ran_of (SignaturesOf c.args.mode c.args.limits.now) (λ fault. (refl, refl)) _ _ _ c.in_ok-signatures.signatures
    (λ octets h. (around_of c.args.part c.args.row (detached_packets c.in_ok-signatures.signatures), (Ok (detached_packets c.in_ok-signatures.signatures), h, refl), c.write_around.ensures)) c.in_ok-signatures.ensures refl
