use Rattle.std.proofs.Common.{◌∙◌, ◌++◌, List, Option, ap}
use Rattle.opgp_keyring.specs.Keyring.{CertificateValue}
use Rattle.opgp_valid.specs.KnownKeys.{knowns}
use Rattle.opgp_valid.specs.declared.cause.Cause.{Cause}
use Rattle.opgp_valid.specs.declared.known_keys.Known.{Known}
use Rattle.opgp_valid.specs.declared.states.PartState.{PartState}
use Rattle.opgp_state.specs.KeyringStates.{causes_among, states_among}
use Rattle.opgp_state.proofs.keyring_states.KeyringStates.of.Goals as goal

pub returns-clause-states : goal.returns-clause-states
returns-clause-states c =
    let known : List Known = knowns c.in_ok-known.known in
    c.in_ok-add_certificates.ensures.states
    ∙ ap (λ (l : List (List PartState)). l ++ states_among known c.args.policy c.args.at c.certificates-all.result.now c.args.verdicts.now) c.none_yet-states.ensures.states
    ∙ ap (λ (l : List CertificateValue). states_among known c.args.policy c.args.at l c.args.verdicts.now) c.certificates-all.ensures.value
    ∙ ap (λ (k : List Known). states_among k c.args.policy c.args.at c.args.keyring.now.certificates c.args.verdicts.now) c.in_ok-known.ensures

pub returns-clause-causes : goal.returns-clause-causes
returns-clause-causes c =
    let known : List Known = knowns c.in_ok-known.known in
    c.in_ok-add_certificates.ensures.causes
    ∙ ap (λ (l : List (List (Option Cause))). l ++ causes_among c.args.causes known c.args.policy c.args.at c.certificates-all.result.now c.args.verdicts.now) c.none_yet-states.ensures.causes
    ∙ ap (λ (l : List CertificateValue). causes_among c.args.causes known c.args.policy c.args.at l c.args.verdicts.now) c.certificates-all.ensures.value
    ∙ ap (λ (k : List Known). causes_among c.args.causes k c.args.policy c.args.at c.args.keyring.now.certificates c.args.verdicts.now) c.in_ok-known.ensures
