use Rattle.std.proofs.Common.{◌∙◌, ◌++◌, List, Option, ap}
use Rattle.std.specs.List.{flat_map}
use Rattle.opgp_keyring.specs.Keyring.{CertificateValue}
use Rattle.opgp_valid.specs.KnownKeys.{known_in, knowns}
use Rattle.opgp_valid.specs.declared.cause.Cause.{Cause}
use Rattle.opgp_valid.specs.declared.known_keys.Known.{Known}
use Rattle.opgp_valid.specs.declared.states.PartState.{PartState}
use Rattle.opgp_state.specs.Claimed.{claims_of}
use Rattle.opgp_state.specs.Claims.{certificate_claims}
use Rattle.opgp_state.specs.KeyringStates.{causes_among, states_among}
use Rattle.opgp_state.proofs.AllClaims.{claimed_causes, claimed_states}
use Rattle.opgp_state.proofs.keyring_states.KeyringStates.claimed.Goals as goal

pub returns-clause-states : goal.returns-clause-states
returns-clause-states c =
    let known : List Known = knowns c.in_ok-known.known in
    let all : List CertificateValue = c.certificates-all.result.now in
    c.in_ok-add_claimed.ensures.states
    ∙ ap (λ (l : List (List PartState)). l ++ states_among known c.args.policy c.args.at all (flat_map certificate_claims all)) c.none_yet-states.ensures.states
    ∙ ap (λ (l : List CertificateValue). states_among known c.args.policy c.args.at l (flat_map certificate_claims l)) c.certificates-all.ensures.value
    ∙ claimed_states c.args.keyring.now known c.args.policy c.args.at
    ∙ ap (λ (k : List Known). states_among k c.args.policy c.args.at c.args.keyring.now.certificates (claims_of c.args.keyring.now)) c.in_ok-known.ensures

pub returns-clause-causes : goal.returns-clause-causes
returns-clause-causes c =
    let known : List Known = knowns c.in_ok-known.known in
    let all : List CertificateValue = c.certificates-all.result.now in
    c.in_ok-add_claimed.ensures.causes
    ∙ ap (λ (l : List (List (Option Cause))). l ++ causes_among c.args.causes known c.args.policy c.args.at all (flat_map certificate_claims all)) c.none_yet-states.ensures.causes
    ∙ ap (λ (l : List CertificateValue). causes_among c.args.causes known c.args.policy c.args.at l (flat_map certificate_claims l)) c.certificates-all.ensures.value
    ∙ claimed_causes c.args.keyring.now c.args.causes known c.args.policy c.args.at
    ∙ ap (λ (k : List Known). causes_among c.args.causes k c.args.policy c.args.at c.args.keyring.now.certificates (claims_of c.args.keyring.now)) c.in_ok-known.ensures
