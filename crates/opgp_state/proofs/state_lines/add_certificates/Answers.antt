use Rattle.std.proofs.Common.{◌+◌, arith}
use Rattle.opgp_io.proofs.Extended.{extends_all_left, extends_broken_left, extends_less_left}
use Rattle.opgp_state.specs.StateLines.{lines_from}
use Rattle.opgp_state.proofs.StateTexts.{items_of, next_certificate, whys_of}
use Rattle.opgp_state.proofs.state_lines.add_certificates.Goals as goal

pub certificates-init : goal.certificates-init
certificates-init g c = record { but = extends_all_left c.requires; count = omega arith }

pub returns-in_err-add_certificate : goal.returns-in_err-add_certificate
returns-in_err-add_certificate g c =
    extends_broken_left (lines_from c.args.basis c.args.values (c.certificates.number + 1) c.in-Some.more.now (items_of c.in-Some-split_first.others.now) (whys_of c.next_causes.result.1.now)) c.certificates.invariant.but
    (next_certificate c.args.basis c.args.values c.certificates.number c.certificates.rest.now c.in-Some.more.now c.in-Some.certificate.now c.certificates.left.now c.in-Some-split_first.others.now c.in-Some-split_first.parts.now c.certificates.whys.now c.next_causes.result.1.now c.next_causes.result.0.now c.in-Some.ensures.cases.0 c.in-Some-split_first.ensures.cases.0 c.next_causes.ensures.first c.next_causes.ensures.behind) c.from_residual.ensures.0 (rw c.deref.ensures.value at c.in_err-add_certificate.ensures)

pub certificates-preserved : goal.certificates-preserved
certificates-preserved g c = record {
  but = extends_less_left c.certificates.invariant.but
      (next_certificate c.args.basis c.args.values c.certificates.number c.certificates.rest.now c.in-Some.more.now c.in-Some.certificate.now c.certificates.left.now c.in-Some-split_first.others.now c.in-Some-split_first.parts.now c.certificates.whys.now c.next_causes.result.1.now c.next_causes.result.0.now c.in-Some.ensures.cases.0 c.in-Some-split_first.ensures.cases.0 c.next_causes.ensures.first c.next_causes.ensures.behind) (rw c.deref.ensures.value at c.in_ok-add_certificate.ensures);
  count = omega (arith, c.in-Some.ensures.cases.1, c.certificates.invariant.count);
}
