-- What is kept for the fingerprints of a report, and the rows that it shows.
use Rattle.std.specs.Prelude.{◌≡◌, List, map}
use Rattle.opgp_keyring.specs.Keyring.{CertificateValue}
use Rattle.opgp_report.specs.declared.fingerprinted.FingerprintedReport.{FingerprintedReport}
use Rattle.opgp_report.specs.declared.fingerprinted.FingerprintedRow.{FingerprintedRow}
use Rattle.opgp_report.specs.declared.fingerprinted.FingerprintedRows.{FingerprintedRows}
use Rattle.opgp_report.specs.declared.fingerprinting.FingerprintedReporting.{FingerprintedReporting}
use Rattle.opgp_report.specs.Fingerprinted.{FingerprintedValue}
use Rattle.opgp_report.specs.First.{print_of}
use Rattle.opgp_report.specs.FoundRows.{found_rows}
use Rattle.opgp_report.specs.IssuerName.{name_value}
use Rattle.opgp_report.specs.KeyIndex.{prints_shown}
use Rattle.opgp_report.specs.Reporting.{Reports}
use Rattle.opgp_report.specs.Row.{row_value}

-- ---- a report in the making
-- what is kept of these certificates, and the fingerprint of the primary key of each
pub record ReportsPrints (r : FingerprintedReporting) (cs : List CertificateValue) : Type 0 where
  pub reports : Reports r.reporting cs
  pub primaries : r.primaries.items ≡ map (λ c. print_of c.primary.body) cs

-- ---- the rows that are found
abbrev pub fingerprinted_value : FingerprintedRow → FingerprintedValue
fingerprinted_value r = record {
  row = row_value r.row;
  certificate = r.certificate;
  signer = r.signer;
}

-- those that are left to be visited, and all of them
abbrev pub rows_to_come : FingerprintedRows → List FingerprintedValue
rows_to_come r = found_rows (prints_shown r.keys.now) r.primaries.now (map row_value r.rows.now)
    (map name_value r.names.now)

abbrev pub fingerprinted_rows_of : FingerprintedReport → List FingerprintedValue
fingerprinted_rows_of r = found_rows (prints_shown r.keys) r.primaries.items
    (map row_value r.rows.items) (map name_value r.issuers.items)
