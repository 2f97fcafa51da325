-- A report in the making: what is kept of the certificates that came.
use Rattle.std.specs.Prelude.{◌≡◌, List, length, map}
use Rattle.std.specs.List.{flat_map}
use Rattle.opgp_keyring.specs.Keyring.{CertificateValue}
use Rattle.opgp_report.specs.declared.reporting.Reporting.{Reporting}
use Rattle.opgp_report.specs.First.{print_of}
use Rattle.opgp_report.specs.KeyIndex.{prints_shown}
use Rattle.opgp_report.specs.Report.{certificate_keys}
use Rattle.opgp_report.specs.RowMaker.{Keeps, names_at, unsigned_row}
use Rattle.opgp_report.specs.Standing.{by_number, certificate_standing}

-- it has the keys of these certificates and the rows of their signatures, and was given no others
pub record Reports (r : Reporting) (cs : List CertificateValue) : Type 0 where
  pub count : r.certificates ≡ length cs
  pub keys : prints_shown r.keys ≡ map print_of (flat_map certificate_keys cs)
  pub rows : Keeps r.made (map unsigned_row (by_number certificate_standing 0 cs))
      (flat_map names_at (by_number certificate_standing 0 cs))
