use Rattle.std.proofs.Common.{◌≡◌, ◌⊎◌, inl, inr, ℕ, List, [], ◌∷◌, Result, Ok, Err, Some}
use Rattle.std.proofs.lemmas.List.{nil_from_length}
use Rattle.std.specs.Prelude.{IfOk}
use Rattle.std.specs.List.{slice_get}
use Rattle.opgp_packet.specs.SigView.{sig_view_value}
use Rattle.opgp_packet.specs.SignatureBody.{SignatureValue}
use Rattle.opgp_keyring.specs.Keyring.{CertificateValue, KeyringValue}
use Rattle.opgp_report.specs.declared.verifier.Verdict.{Verdict}
use Rattle.opgp_valid.specs.Believed.{belief_of}
use Rattle.opgp_valid.specs.Judgement.{verdicts_from}
use Rattle.opgp_valid.specs.KnownKeys.{known_in}
use Rattle.opgp_valid.specs.Reached.{IsReached}
use Rattle.opgp_valid.specs.declared.believing.Belief.{Belief}
use Rattle.opgp_valid.specs.declared.judgement.KeyPlace.{KeyPlace}
use Rattle.opgp_valid.specs.declared.known_keys.Known.{Known}
use Rattle.opgp_valid.specs.declared.policy.Policy.{Policy}
use Rattle.opgp_valid.specs.declared.reached.Reached.{Reached}
use Rattle.opgp_valid.proofs.BeliefThere.{believed_nowhere}
use Rattle.opgp_valid.proofs.WalkOn.{certificate_there, none_there, verdicts_there}
use Rattle.opgp_valid.proofs.believing.believe_there.Goals as goal

pub returns-in_default : goal.returns-in_default
returns-in_default c = λ r founds known h.
    believed_nowhere r c.args.policy founds c.args.at c.args.now (sig_view_value c.args.signature)
    (none_there r.certificates founds c.args.reached h c.args.at.certificate (nil_from_length _ c.in_default.ensures.cases) c.requires.before)

-- it was reached, since one is left
number_there : (number n : ℕ) (certificates more : List CertificateValue) (c : CertificateValue) → (number ≡ n) ⊎ (certificates ≡ []) → certificates ≡ c ∷ more → number ≡ n
number_there number n certificates more c (inl same) e = same
number_there number n certificates more c (inr none) e = cc (none, e)

believed_reached : {E : Type 0} (result : Result Belief E) (known : List Known) (policy : Policy) (at : KeyPlace) (now : ℕ) (v : SignatureValue) (reached : Reached) (c : CertificateValue) (more : List CertificateValue)
    → reached.certificates.now ≡ c ∷ more → reached.number ≡ at.certificate
    → IfOk result (λ b. (r : KeyringValue) (founds : List Verdict) → known ≡ known_in r → slice_get r.certificates at.certificate ≡ Some c → reached.verdicts.now ≡ verdicts_from r.certificates at.certificate founds → b ≡ belief_of r policy founds at now v)
    → IfOk result (λ b. (r : KeyringValue) (founds : List Verdict) → known ≡ known_in r → IsReached r.certificates founds reached → b ≡ belief_of r policy founds at now v)
believed_reached (Ok b) known policy at now v reached c more e same h = λ r founds k i.
    h r founds k (certificate_there r.certificates founds reached i c more at.certificate e same) (verdicts_there r.certificates founds reached i at.certificate same)
believed_reached (Err error) known policy at now v reached c more e same h = tt

pub returns : goal.returns
returns c =
    believed_reached c.believe_in.result _ c.args.policy c.args.at c.args.now (sig_view_value c.args.signature) c.args.reached _ _ c.in-Some.ensures.cases.0
    (number_there c.args.reached.number c.args.at.certificate c.args.reached.certificates.now _ _ c.requires.there c.in-Some.ensures.cases.0) c.believe_in.ensures
