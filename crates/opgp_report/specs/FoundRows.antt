-- Rows with fingerprints, as they are found in what is kept of a keyring: its keys' fingerprints,
-- those of its certificates, its rows, and the names of the issuers of those that are hashed.
use Rattle.std.specs.Prelude.{List, [], ◌∷◌, Option, Some, None, slice_get}
use Rattle.opgp_hash.specs.declared.fingerprints.Fingerprint.{Fingerprint}
use Rattle.opgp_report.specs.Fingerprinted.{FingerprintedValue}
use Rattle.opgp_report.specs.RowValue.{FindingValue, RowValue, not_asked, asked_with}
use Rattle.opgp_report.specs.Signer.{NameValue, print_named}

-- a row that is hashed takes the first name that is left, and the others are for the rows behind it
abbrev pub signer_by : List Fingerprint → FindingValue → List NameValue → Option Fingerprint
signer_by prints (not_asked why) names = None
signer_by prints (asked_with kind hash signer digest verdict) [] = None
signer_by prints (asked_with kind hash signer digest verdict) (name ∷ names) =
    print_named prints name

abbrev pub names_behind : FindingValue → List NameValue → List NameValue
names_behind (not_asked why) names = names
names_behind (asked_with kind hash signer digest verdict) [] = []
names_behind (asked_with kind hash signer digest verdict) (name ∷ names) = names

-- the rows, each with the fingerprint that is kept of the certificate in its place; no rows behind
-- one whose certificate has none
abbrev pub found_then : List Fingerprint → RowValue → List NameValue → Option Fingerprint
    → (List NameValue → List FingerprintedValue) → List FingerprintedValue
found_then prints row names None more = []
found_then prints row names (Some primary) more = record {
  row = row;
  certificate = primary;
  signer = signer_by prints row.finding names;
} ∷ more (names_behind row.finding names)

abbrev pub found_rows : (prints primaries : List Fingerprint) → List RowValue → List NameValue
    → List FingerprintedValue
found_rows prints primaries [] names = []
found_rows prints primaries (row ∷ rows) names =
    found_then prints row names (slice_get primaries row.place.certificate)
    (found_rows prints primaries rows)
