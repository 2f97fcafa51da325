use Rattle.std.proofs.Common.{◌≡◌, ◌∙◌, List, [], ◌∷◌, ◌++◌, ap, append_assoc, map, subst, sym}
use Rattle.opgp_packet.specs.SigView.{sig_view_value}
use Rattle.opgp_keyring.specs.Keyring.{CertificateValue}
use Rattle.opgp_valid.specs.Believed.{belief_of}
use Rattle.opgp_valid.specs.Reached.{IsReached}
use Rattle.opgp_valid.specs.declared.believing.Belief.{Belief}
use Rattle.opgp_valid.specs.declared.judgement.KeyPlace.{KeyPlace}
use Rattle.opgp_valid.proofs.believing.believe_at.Goals as goal

pub places-preserved : goal.places-preserved
places-preserved c =
    let of : KeyPlace → Belief = λ at. belief_of c.args.keyring.now c.args.policy c.args.verdicts.now at c.args.now (sig_view_value c.args.signature) in
    let begin : IsReached c.args.keyring.now.certificates c.args.verdicts.now c.first-begin.result =
    subst (λ (l : List CertificateValue). IsReached l c.args.verdicts.now c.first-begin.result) c.certificates.ensures.value c.first-begin.ensures.reached in
    let reached : IsReached c.args.keyring.now.certificates c.args.verdicts.now c.go_on-reached.result =
    c.go_on-reached.ensures.reached _ _ (c.nearest.ensures.reached _ _ begin c.places.invariant.reached) in
    let is : c.in_ok-belief.belief ≡ of c.in-Some.at.now = c.in_ok-belief.ensures c.args.keyring.now c.args.verdicts.now c.in_ok-known.ensures reached in
    record {
      reached = reached;
      found = ap (λ (l : List Belief). l ++ map of c.in-Some.more.now) c.in_ok-push.ensures.items
          ∙ append_assoc c.places.beliefs.items (c.in_ok-belief.belief ∷ []) (map of c.in-Some.more.now)
          ∙ ap (λ (b : Belief). c.places.beliefs.items ++ (b ∷ map of c.in-Some.more.now)) is
          ∙ ap (λ (l : List KeyPlace). c.places.beliefs.items ++ map of l) (sym c.in-Some.ensures.cases.0)
          ∙ c.places.invariant.found;
    }
