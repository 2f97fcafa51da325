use Rattle.opgp_valid.specs.KnownKeys.{knowns}
use Rattle.opgp_state.specs.KeyringStates.{causes_in, states_in}
use Rattle.opgp_state.proofs.AllClaims.{next_causes, next_states}
use Rattle.opgp_state.proofs.keyring_states.add_certificates.Goals as goal

pub certificates-preserved : goal.certificates-preserved
certificates-preserved c = record {
  states = next_states (knowns c.args.known.now) c.args.policy c.args.at (states_in c.certificates.states) (states_in c.add_certificate.new.states) c.in-Some.certificate.now c.certificates.rest.now c.in-Some.more.now c.certificates.found.now c.verdicts_behind-found.result.now _
      c.in-Some.ensures.cases.0 c.verdicts_behind-found.ensures c.in_ok-add_certificate.ensures.states c.certificates.invariant.states;
  causes = next_causes c.args.causes (knowns c.args.known.now) c.args.policy c.args.at (causes_in c.certificates.states) (causes_in c.add_certificate.new.states) c.in-Some.certificate.now c.certificates.rest.now c.in-Some.more.now c.certificates.found.now c.verdicts_behind-found.result.now _
      c.in-Some.ensures.cases.0 c.verdicts_behind-found.ensures c.in_ok-add_certificate.ensures.causes c.certificates.invariant.causes;
}
