use Rattle.std.proofs.Common.{◌∙◌, [], ◌∷◌, ◌++◌, List, ap}
use Rattle.opgp_report.specs.declared.verifier.Verdict.{Verdict}
use Rattle.opgp_valid.specs.Facts.{FactsValue}
use Rattle.opgp_valid.specs.Judgement.{facts_by}
use Rattle.opgp_valid.specs.KnownKeys.{knowns}
use Rattle.opgp_valid.specs.States.{states_of}
use Rattle.opgp_state.specs.KeyringStates.{causes_if, causes_in, states_in}
use Rattle.opgp_state.proofs.keyring_states.add_claimed_one.Goals as goal

pub returns-clause-states : goal.returns-clause-states
returns-clause-states c = λ more.
    c.in_ok-add_certificate.ensures.states
    ∙ ap (λ (l : List Verdict). states_in c.args.states.now ++ states_of (facts_by (knowns c.args.known.now) c.args.policy c.args.certificate.now l) c.args.certificate.now c.args.at ∷ []) c.as_slice-said.ensures.value
    ∙ ap (λ (f : FactsValue). states_in c.args.states.now ++ states_of f c.args.certificate.now c.args.at ∷ []) (c.in_ok-verdicts.ensures (knowns c.args.known.now) c.args.policy more)

pub returns-clause-causes : goal.returns-clause-causes
returns-clause-causes c = λ more.
    c.in_ok-add_certificate.ensures.causes
    ∙ ap (λ (l : List Verdict). causes_in c.args.states.now ++ causes_if c.args.causes (facts_by (knowns c.args.known.now) c.args.policy c.args.certificate.now l) c.args.certificate.now c.args.at ∷ []) c.as_slice-said.ensures.value
    ∙ ap (λ (f : FactsValue). causes_in c.args.states.now ++ causes_if c.args.causes f c.args.certificate.now c.args.at ∷ []) (c.in_ok-verdicts.ensures (knowns c.args.known.now) c.args.policy more)
