-- What the signatures of a keyring claim: the verdicts of one who verifies nothing.
use Rattle.std.specs.Prelude.{List, map}
use Rattle.opgp_report.specs.Left.{says_left}
use Rattle.opgp_report.specs.Report.{report_of}
use Rattle.opgp_report.specs.RowValue.{FindingValue, RowValue, not_asked, asked_with}
use Rattle.opgp_report.specs.declared.verifier.Verdict.{Verdict}
use Rattle.opgp_report.specs.declared.verifier.Verdict.TheVariants.{Good, Bad, Undecided}
use Rattle.opgp_keyring.specs.Keyring.{KeyringValue}

-- It is good, unless its digest is bad. One that isn't hashed where it is may revoke the primary
-- key all the same (RFC 9580, 5.2.1.11); any other such one says nothing, whatever its verdict.
abbrev pub unless_bad : Verdict → Verdict
unless_bad Good = Good
unless_bad Bad = Bad
unless_bad Undecided = Good

abbrev pub claimed : FindingValue → Verdict
claimed (not_asked why) = Good
claimed (asked_with kind hash signer digest verdict) = unless_bad verdict

abbrev pub claims_among : List RowValue → List Verdict
claims_among rows = map (λ row. claimed row.finding) rows

abbrev pub claims_of : KeyringValue → List Verdict
claims_of r = claims_among (report_of says_left r)
