-- The lines of a keyring's report, one for each of its rows.
use Rattle.std.specs.Prelude.{◌≡◌, ℕ, ◌+◌, List, [], ◌∷◌, ◌++◌, codes, take, Option, Some, None}
use Rattle.std.specs.Fmt.{decimal}
use Rattle.std.specs.List.{flat_map}
use Rattle.hex.specs.Hex.{encode_upper}
use Rattle.opgp_hash.specs.Why.{why_text}
use Rattle.opgp_hash.specs.Digest.{digest_octets}
use Rattle.opgp_hash.specs.Fingerprint.{print_octets}
use Rattle.opgp_hash.specs.declared.fingerprints.Fingerprint.{Fingerprint}
use Rattle.opgp_keyring.specs.Keyring.{KeyringValue}
use Rattle.opgp_report.specs.Fingerprinted.{FingerprintedValue, fingerprinted_report_of}
use Rattle.opgp_report.specs.Fingerprinting.{fingerprinted_rows_of}
use Rattle.opgp_report.specs.Left.{says_left}
use Rattle.opgp_report.specs.Report.{report_of}
use Rattle.opgp_report.specs.Row.{report_rows}
use Rattle.opgp_report.specs.declared.fingerprinted.FingerprintedReport.{FingerprintedReport}
use Rattle.opgp_report.specs.declared.report.Report.{Report}
use Rattle.opgp_report.specs.declared.place.Place.{Place}
use Rattle.opgp_report.specs.declared.verifier.Verdict.{Verdict}
use Rattle.opgp_report.specs.declared.verifier.Verdict.TheVariants.{Good, Bad, Undecided}
use Rattle.opgp_report.specs.RowValue.{FindingValue, RowValue, not_asked, asked_with}

-- words, one after the other
abbrev pub joined : List (List ℕ) → List ℕ
joined words = flat_map (λ word. word) words

-- ---- words
-- a number, or `-` for none
abbrev pub number_or_none : Option ℕ → List ℕ
number_or_none (Some n) = decimal n
number_or_none None = codes "-"

-- a key ID, or `-` for none
abbrev pub id_or_none : Option (List ℕ) → List ℕ
id_or_none (Some id) = encode_upper id
id_or_none None = codes "-"

abbrev pub verdict_name : Verdict → List ℕ
verdict_name Good = codes "good"
verdict_name Bad = codes "bad"
verdict_name Undecided = codes "undecided"

-- ---- lines
-- after its place: `none <why>`, or
-- `asked type <T> hash <n> signer <key ID or -> digest <its first two octets> verdict <..>`
abbrev pub finding_words : FindingValue → List (List ℕ)
finding_words (not_asked why) = codes " : none " ∷ why_text why ∷ []
finding_words (asked_with kind hash signer digest verdict) = codes " : asked type "
    ∷ encode_upper (kind ∷ []) ∷ codes " hash " ∷ decimal hash ∷ codes " signer "
    ∷ id_or_none signer ∷ codes " digest " ∷ encode_upper (take 2 (digest_octets digest))
    ∷ (codes " verdict " ++ verdict_name verdict) ∷ []

-- `row <n> cert <n> part <n or -> hang <n> nested <n or -> : <..>`
abbrev pub fields_at : ℕ → Place → List (List ℕ) → List ℕ
fields_at number place words = joined (codes "row " ∷ decimal number ∷ codes " cert "
    ∷ decimal place.certificate ∷ codes " part " ∷ number_or_none place.component ∷ codes " hang "
    ∷ decimal place.hang ∷ codes " nested " ∷ number_or_none place.nested ∷ words)

abbrev pub row_fields : ℕ → RowValue → List ℕ
row_fields number row = fields_at number row.place (finding_words row.finding)

abbrev pub row_line : ℕ → RowValue → List ℕ
row_line number row = row_fields number row ++ codes "\n"

-- of rows, numbered from here
abbrev pub report_lines : ℕ → List RowValue → List ℕ
report_lines number [] = []
report_lines number (row ∷ rows) = row_line number row ++ report_lines (number + 1) rows

-- ---- with fingerprints
-- a fingerprint, or `-` for none
abbrev pub print_or_none : Option Fingerprint → List ℕ
print_or_none (Some print) = encode_upper (print_octets print)
print_or_none None = codes "-"

-- the line of a row goes on: ` <fingerprint of the certificate> <fingerprint of the signer, or ->`
abbrev pub print_words : Fingerprint → Option Fingerprint → List ℕ
print_words certificate signer = codes " " ++ encode_upper (print_octets certificate)
    ++ codes " " ++ print_or_none signer ++ codes "\n"

abbrev pub fingerprinted_line : ℕ → FingerprintedValue → List ℕ
fingerprinted_line number r = row_fields number r.row ++ print_words r.certificate r.signer

abbrev pub fingerprinted_lines : ℕ → List FingerprintedValue → List ℕ
fingerprinted_lines number [] = []
fingerprinted_lines number (row ∷ rows) =
    fingerprinted_line number row ++ fingerprinted_lines (number + 1) rows

-- ---- what was made of a keyring
-- its report, with the verifier that compares first octets
abbrev pub HasReport : KeyringValue → Report → Type 0
HasReport r report = report_rows report ≡ report_of says_left r

abbrev pub HasFingerprintedReport : KeyringValue → FingerprintedReport → Type 0
HasFingerprintedReport r report =
    fingerprinted_rows_of report ≡ fingerprinted_report_of says_left r
