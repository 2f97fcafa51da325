use Rattle.std.proofs.Common.{◌∙◌, ap}
use Rattle.opgp_valid.specs.Facts.{FactsValue}
use Rattle.opgp_valid.specs.Judgement.{facts_by}
use Rattle.opgp_valid.specs.KnownKeys.{knowns}
use Rattle.opgp_valid.specs.States.{states_of}
use Rattle.opgp_state.specs.KeyringStates.{causes_if}
use Rattle.opgp_state.proofs.AllClaims.{pushed}
use Rattle.opgp_state.proofs.keyring_states.add_certificate.Goals as goal

pub returns-clause-states : goal.returns-clause-states
returns-clause-states c =
    let facts : FactsValue = facts_by (knowns c.args.known.now) c.args.policy c.args.certificate.now c.args.verdicts.now in
    pushed c.args.states.now.certificates.items c.push.new.self.items c.in_ok-parts.parts (states_of facts c.args.certificate.now c.args.at) c.in_ok-push.ensures.items
    (c.in_ok-parts.ensures ∙ ap (λ (f : FactsValue). states_of f c.args.certificate.now c.args.at) (c.facts.ensures ∙ c.in_ok-certified.ensures))

pub returns-clause-causes : goal.returns-clause-causes
returns-clause-causes c =
    let facts : FactsValue = facts_by (knowns c.args.known.now) c.args.policy c.args.certificate.now c.args.verdicts.now in
    pushed c.args.states.now.causes.items c.push-2.new.self.items c.in_ok-why.why (causes_if c.args.causes facts c.args.certificate.now c.args.at) c.in_ok-push-2.ensures.items
    (c.in_ok-why.ensures ∙ ap (λ (f : FactsValue). causes_if c.args.causes f c.args.certificate.now c.args.at) (c.facts-2.ensures ∙ c.in_ok-certified.ensures))
