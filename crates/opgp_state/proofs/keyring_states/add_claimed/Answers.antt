use Rattle.opgp_valid.specs.KnownKeys.{knowns}
use Rattle.opgp_state.specs.KeyringStates.{causes_in, states_in}
use Rattle.opgp_state.proofs.AllClaims.{added_causes, added_states}
use Rattle.opgp_state.proofs.keyring_states.add_claimed.Goals as goal

pub certificates-preserved : goal.certificates-preserved
certificates-preserved c = record {
  states = added_states (knowns c.args.known.now) c.args.policy c.args.at (states_in c.certificates.states) (states_in c.add_claimed_one.new.states) c.in-Some.certificate.now c.certificates.rest.now c.in-Some.more.now _
      c.in-Some.ensures.cases.0 c.in_ok-add_claimed_one.ensures.states c.certificates.invariant.states;
  causes = added_causes c.args.causes (knowns c.args.known.now) c.args.policy c.args.at (causes_in c.certificates.states) (causes_in c.add_claimed_one.new.states) c.in-Some.certificate.now c.certificates.rest.now c.in-Some.more.now _
      c.in-Some.ensures.cases.0 c.in_ok-add_claimed_one.ensures.causes c.certificates.invariant.causes;
}
