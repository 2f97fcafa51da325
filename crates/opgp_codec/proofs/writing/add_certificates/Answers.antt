use Rattle.std.proofs.Common.{◌∙◌, refl}
use Rattle.opgp_keyring.specs.Keyring.{CertificateValue, certificate_packets}
use Rattle.opgp_io.specs.Added.{State}
use Rattle.opgp_io.specs.Output.{state_of}
use Rattle.opgp_codec.specs.Writing.{packets_text}
use Rattle.opgp_codec.proofs.Loops.{broken_of, more_of}
use Rattle.opgp_codec.proofs.writing.add_certificates.Goals as goal

pub returns-in_err-add_text : goal.returns-in_err-add_text
returns-in_err-add_text g c =
    let old : State = state_of g.W.Sink.held g.W.Sink.has_failed c.args.output.now in
    let mid : State = state_of g.W.Sink.held g.W.Sink.has_failed c.loop-certificate.output in
    let new : State = state_of g.W.Sink.held g.W.Sink.has_failed c.add_text.new.output in
    record {
      same = c.in_err-add_text.ensures.same ∙ c.loop-certificate.invariant.same;
      written = broken_of (λ (v : CertificateValue). packets_text c.args.out (certificate_packets v)) old mid new c.from_residual.result c.args.certificates.now c.loop-certificate.certificate-index c.certificate-item.result _ c.loop-certificate-test.true c.certificate-item.is refl c.from_residual.ensures.0 c.loop-certificate.invariant.added (rw c.of_certificate.ensures at c.in_err-add_text.ensures.written);
    }

pub loop-certificate-preserved : goal.loop-certificate-preserved
loop-certificate-preserved g c =
    let old : State = state_of g.W.Sink.held g.W.Sink.has_failed c.args.output.now in
    let mid : State = state_of g.W.Sink.held g.W.Sink.has_failed c.loop-certificate.output in
    let new : State = state_of g.W.Sink.held g.W.Sink.has_failed c.add_text.new.output in
    record {
      same = c.in_ok-add_text.ensures.same ∙ c.loop-certificate.invariant.same;
      added = more_of (λ (v : CertificateValue). packets_text c.args.out (certificate_packets v)) old mid new c.args.certificates.now c.loop-certificate.certificate-index
          c.certificate-item.result _ c.loop-certificate-test.true c.certificate-item.is refl c.loop-certificate.invariant.added (rw c.of_certificate.ensures at c.in_ok-add_text.ensures.written);
    }
