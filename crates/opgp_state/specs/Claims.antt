-- Verdicts on a certificate's rows that serve as well as what its signatures claim.
use Rattle.std.specs.Prelude.{◌≡◌, List, ◌++◌, map}
use Rattle.opgp_keyring.specs.Keyring.{CertificateValue}
use Rattle.opgp_report.specs.Standing.{certificate_standing}
use Rattle.opgp_report.specs.declared.verifier.Verdict.{Verdict}
use Rattle.opgp_valid.specs.Judgement.{facts_by}
use Rattle.opgp_valid.specs.declared.known_keys.Known.{Known}
use Rattle.opgp_valid.specs.declared.policy.Policy.{Policy}
use Rattle.opgp_state.specs.Claiming.{claim}

abbrev pub certificate_claims : CertificateValue → List Verdict
certificate_claims c = map claim (certificate_standing 0 c)

-- by them its signatures say what they say by all claims, whatever keys are known, by each policy,
-- and whatever verdicts follow on other certificates
abbrev pub SayTheSame : CertificateValue → List Verdict → Type 0
SayTheSame c founds = (known : List Known) (policy : Policy) (more : List Verdict)
    → facts_by known policy c founds ≡ facts_by known policy c (certificate_claims c ++ more)
