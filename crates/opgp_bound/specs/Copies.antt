-- Certificates that a keyring has several times, by verdicts that go by what is signed.
use Rattle.std.specs.Prelude.{ℕ, List, map}
use Rattle.opgp_hash.specs.SubjectValue.{SubjectValue}
use Rattle.opgp_hash.specs.declared.site.Site.{Site}
use Rattle.opgp_report.specs.Standing.{Standing, certificate_standing}
use Rattle.opgp_report.specs.declared.verifier.Verdict.{Verdict}
use Rattle.opgp_keyring.specs.Keyring.{CertificateValue}
use Rattle.opgp_valid.specs.Facts.{FactsValue}
use Rattle.opgp_valid.specs.Judgement.{facts_by}
use Rattle.opgp_valid.specs.declared.known_keys.Known.{Known}
use Rattle.opgp_valid.specs.declared.policy.Policy.{Policy}

-- what a verifier says of a signature's octets over a subject, wherever in a keyring it stands
abbrev pub Deciding : Type 0
Deciding = Site → SubjectValue → List ℕ → Verdict

abbrev pub decided : Deciding → Standing → Verdict
decided v s = v s.site s.subject s.body

-- what the signatures of a certificate say by it
abbrev pub facts_decided : List Known → Policy → Deciding → CertificateValue → FactsValue
facts_decided known policy v c =
    facts_by known policy c (map (decided v) (certificate_standing 0 c))
