-- Whether a signature is believed as one by a key that was found.
use Rattle.std.proofs.Common.{◌≡◌, ◌∙◌, ℕ, None, Some, Option, List, ap, sym}
use Rattle.std.specs.Option.{option_and_then}
use Rattle.std.specs.Prelude.{slice_get}
use Rattle.opgp_hash.specs.declared.fingerprints.Fingerprint.{Fingerprint}
use Rattle.opgp_packet.specs.SignatureBody.{SignatureValue}
use Rattle.opgp_keyring.specs.Keyring.{CertificateValue, KeyringValue}
use Rattle.opgp_report.specs.declared.verifier.Verdict.{Verdict}
use Rattle.opgp_valid.specs.Believed.{belief_of, believed_as, believed_by, believed_if, flaw_of, made_by, print_in}
use Rattle.opgp_valid.specs.Judgement.{judgement_of}
use Rattle.opgp_valid.specs.KnownKeys.{known_in}
use Rattle.opgp_valid.specs.Told.{life_in}
use Rattle.opgp_valid.specs.declared.believing.Belief.{Belief}
use Rattle.opgp_valid.specs.declared.believing.Belief.TheVariants as belief
use Rattle.opgp_valid.specs.declared.believing.Flaw.{Flaw}
use Rattle.opgp_valid.specs.declared.judgement.Judgement.{Judgement}
use Rattle.opgp_valid.specs.declared.judgement.KeyPlace.{KeyPlace}
use Rattle.opgp_valid.specs.declared.policy.Policy.{Policy}

module _ (r : KeyringValue) (policy : Policy) (founds : List Verdict) (at : KeyPlace) (now : ℕ) (v : SignatureValue) where
  believed_of : Option Fingerprint → Belief
  believed_of print = believed_by r policy founds at now v print

  pub believed_nowhere : slice_get r.certificates at.certificate ≡ None → belief.NoKey ≡ belief_of r policy founds at now v
  believed_nowhere none = sym (ap (λ (o : Option CertificateValue). believed_by r policy founds at now v (option_and_then (λ c. print_in c at.component) o)) none)

  module _ (c : CertificateValue) (here : slice_get r.certificates at.certificate ≡ Some c) where
    at_print : (print : Option Fingerprint) → print ≡ print_in c at.component → believed_by r policy founds at now v print ≡ belief_of r policy founds at now v
    at_print print is = ap (λ (o : Option Fingerprint). believed_by r policy founds at now v o) is
        ∙ sym (ap (λ (o : Option CertificateValue). believed_by r policy founds at now v (option_and_then (λ x. print_in x at.component) o)) here)

    pub believed_no_print : None ≡ print_in c at.component → belief.NoKey ≡ belief_of r policy founds at now v
    believed_no_print is = at_print None is

    pub believed_flaw : (print : Fingerprint) (flaw : Flaw) → Some print ≡ print_in c at.component → Some flaw ≡ flaw_of (known_in r) policy print now v → belief.Flawed flaw ≡ belief_of r policy founds at now v
    believed_flaw print flaw is has = ap (λ (o : Option Flaw). believed_if o (judgement_of r policy founds at (made_by (life_in v)) now)) has ∙ at_print (Some print) is

    pub believed_none : (print : Fingerprint) (j : Judgement) → Some print ≡ print_in c at.component → None ≡ flaw_of (known_in r) policy print now v → j ≡ judgement_of r policy founds at (made_by (life_in v)) now → believed_as j ≡ belief_of r policy founds at now v
    believed_none print j is has judged =
        ap believed_as judged ∙ ap (λ (o : Option Flaw). believed_if o (judgement_of r policy founds at (made_by (life_in v)) now)) has ∙ at_print (Some print) is
