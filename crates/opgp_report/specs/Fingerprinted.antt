-- The report of a keyring with fingerprints (RFC 9580, 5.5.4).
use Rattle.std.specs.Prelude.{ℕ, List, map, Option, None, Ok, Err}
use Rattle.std.specs.Option.{option_map}
use Rattle.opgp_hash.specs.declared.fingerprints.Fingerprint.{Fingerprint}
use Rattle.opgp_keyring.specs.Keyring.{CertificateValue, KeyringValue}
use Rattle.opgp_report.specs.Asked.{PosedValue, posed_by}
use Rattle.opgp_report.specs.First.{print_of}
use Rattle.opgp_report.specs.Report.{Says, keys_in, row_of, signer_in}
use Rattle.opgp_report.specs.RowValue.{RowValue}
use Rattle.opgp_report.specs.Standing.{Standing, by_number, certificate_standing}

-- a row, the fingerprint of the primary key of its certificate, and that of its signer
pub record FingerprintedValue : Type 0 where
  pub row : RowValue
  pub certificate : Fingerprint
  pub signer : Option Fingerprint

module _ (keys : List (List ℕ)) where
  -- the fingerprint of the first of these keys that a signature names as its issuer's, if it is
  -- hashed
  abbrev pub signer_print : PosedValue → Option Fingerprint
  signer_print (Ok x) = option_map print_of (signer_in keys x.0)
  signer_print (Err why) = None

  -- of a signature in the certificate of this primary key
  abbrev pub fingerprinted_row : Says → List ℕ → Standing → FingerprintedValue
  fingerprinted_row says primary s = record {
    row = row_of says keys s;
    certificate = print_of primary;
    signer = signer_print (posed_by s);
  }

  abbrev pub fingerprinted_rows : Says → ℕ → CertificateValue → List FingerprintedValue
  fingerprinted_rows says n c =
      map (fingerprinted_row says c.primary.body) (certificate_standing n c)

-- the report of a keyring with a verifier, each row with fingerprints
abbrev pub fingerprinted_report_of : Says → KeyringValue → List FingerprintedValue
fingerprinted_report_of says r = by_number (fingerprinted_rows (keys_in r) says) 0 r.certificates
