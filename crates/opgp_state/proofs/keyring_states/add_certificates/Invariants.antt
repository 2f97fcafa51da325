use Rattle.std.proofs.Common.{◌≡◌, ◌++◌, length}
use Rattle.opgp_valid.specs.KnownKeys.{knowns}
use Rattle.opgp_state.specs.KeyringStates.{causes_among, causes_in, states_among, states_in}
use Rattle.opgp_state.proofs.keyring_states.add_certificates.Given as goal

-- the states so far, and those that are to come, are all; and so are the causes
abbrev pub invariant-certificates : goal.invariant-certificates
invariant-certificates l = record {
  states : states_in l.states ++ states_among (knowns l.known) l.policy l.at l.rest l.found
      ≡ states_in l.fn.states ++ states_among (knowns l.fn.known) l.policy l.at l.fn.certificates l.fn.verdicts;
  causes : causes_in l.states ++ causes_among l.causes (knowns l.known) l.policy l.at l.rest l.found
      ≡ causes_in l.fn.states ++ causes_among l.causes (knowns l.fn.known) l.policy l.at l.fn.certificates l.fn.verdicts;
}

abbrev pub decreases-certificates : goal.decreases-certificates
decreases-certificates l = length l.rest
