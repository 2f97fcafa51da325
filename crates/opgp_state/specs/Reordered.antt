-- A certificate whose components stand in any order, each with the verdicts on its rows.
use Rattle.std.specs.Prelude.{◌≡◌, List, ◌++◌, map, length, None}
use Rattle.std.specs.List.{All, flat_map}
use Rattle.opgp_hash.specs.SubjectValue.{one}
use Rattle.opgp_keyring.specs.Keyring.{CertificateValue, ComponentValue}
use Rattle.opgp_report.specs.Standing.{component_standing, hangs_standing}
use Rattle.opgp_report.specs.declared.verifier.Verdict.{Verdict}
use Rattle.opgp_valid.specs.Facts.{FactsValue}
use Rattle.opgp_valid.specs.Judgement.{facts_by}
use Rattle.opgp_valid.specs.declared.known_keys.Known.{Known}
use Rattle.opgp_valid.specs.declared.policy.Policy.{Policy}

-- a component, and the verdicts on its rows in a report
pub record Judged : Type 0 where
  pub component : ComponentValue
  pub founds : List Verdict

-- it has a verdict for each row, of which there are as many at each place
abbrev pub HasEach : CertificateValue → Judged → Type 0
HasEach c x = length x.founds ≡ length (component_standing c.primary.body 0 0 x.component)

-- there is a verdict for each row, of the primary key's signatures and of each component's
pub record AreJudged (c : CertificateValue) (founds : List Verdict)
    (parts : List Judged) : Type 0 where
  pub own : length founds ≡ length (hangs_standing 0 None (one c.primary.body) c.hangs)
  pub each : All (HasEach c) parts

-- the certificate with these components in place of its own
abbrev pub with_components : CertificateValue → List Judged → CertificateValue
with_components c parts = record {
  primary = c.primary;
  hangs = c.hangs;
  components = map (λ x. x.component) parts;
}

-- what its signatures say, by the verdicts on those of its primary key, and then on each
-- component's
abbrev pub facts_with : List Known → Policy → CertificateValue → List Verdict → List Judged
    → FactsValue
facts_with known policy c founds parts =
    facts_by known policy (with_components c parts) (founds ++ flat_map (λ x. x.founds) parts)
