use Rattle.std.proofs.Common.{◌∙◌, arith}
use Rattle.std.proofs.lemmas.Grind.{common_steps}
use Rattle.opgp_valid.specs.KnownKeys.{knowns}
use Rattle.opgp_handles.proofs.StateRows.{first_added}
use Rattle.opgp_handles.proofs.states.add_certificates.Goals as goal

pub certificates-preserved : goal.certificates-preserved
certificates-preserved c = record {
  rows = first_added (knowns c.args.known.now) c.args.policy c.args.at c.certificates.number c.certificates.rows.items c.add_certificate.new.rows.items c.certificate-item.result c.certificates.found.now c.verdicts_behind-found.result.now c.certificates.rest.now c.in-len1-up.len_at_least c.certificate-item.is c.in_ok-add_certificate.ensures c.verdicts_behind-found.ensures ∙ c.certificates.invariant.rows;
  count = grind (arith, common_steps);
}
