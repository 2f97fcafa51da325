-- Rows that are made while no key is known, and the names of the issuers that they lack.
use Rattle.std.specs.Prelude.{◌≡◌, ⊤, List, [], ◌∷◌, ◌++◌, map, Result, Ok, Err}
use Rattle.std.specs.List.{flat_map}
use Rattle.opgp_hash.specs.declared.fingerprints.Fingerprint.{Fingerprint}
use Rattle.opgp_report.specs.declared.place.Place.{Place}
use Rattle.opgp_report.specs.declared.row_maker.RowMaker.{RowMaker}
use Rattle.opgp_report.specs.Asked.{PosedValue, posed_by}
use Rattle.opgp_report.specs.IssuerName.{name_value}
use Rattle.opgp_report.specs.Left.{says_left}
use Rattle.opgp_report.specs.Report.{row_of}
use Rattle.opgp_report.specs.Row.{row_value}
use Rattle.opgp_report.specs.RowValue.{FindingValue, RowValue, not_asked, asked_with}
use Rattle.opgp_report.specs.Signer.{NameValue, id_named, issuer_of}
use Rattle.opgp_report.specs.Standing.{Standing}

-- ---- what is kept of a signature
-- the name of its issuer, if it is hashed
abbrev pub names_if : PosedValue → List NameValue
names_if (Ok x) = issuer_of x.0 ∷ []
names_if (Err why) = []

abbrev pub names_at : Standing → List NameValue
names_at s = names_if (posed_by s)

-- its row in the report of a keyring without keys, where it has no signer
abbrev pub unsigned_row : Standing → RowValue
unsigned_row s = row_of says_left [] s

-- these are those of a list of signatures
pub record Keeps (maker : RowMaker) (rows : List RowValue) (names : List NameValue) : Type 0 where
  pub rows_are : map row_value maker.rows.items ≡ rows
  pub names_are : map name_value maker.issuers.items ≡ names

-- they are added for each signature that it visits, unless memory runs out
abbrev pub AddsUnsigned : {E : Type 0} → RowMaker → List Standing → Result RowMaker E → Type 0
AddsUnsigned a list (Ok b) = Keeps b (map row_value a.rows.items ++ map unsigned_row list)
    (map name_value a.issuers.items ++ flat_map names_at list)
AddsUnsigned a list (Err refusal) = ⊤

-- ---- once all keys are known
-- a row that is hashed takes the first name that is left; the others are for the rows behind it
abbrev pub signed_then : List Fingerprint → Place → FindingValue → List NameValue
    → (List NameValue → List RowValue) → List RowValue
signed_then prints place (not_asked why) names more =
    record { place = place; finding = not_asked why } ∷ more names
signed_then prints place (asked_with kind hash signer digest verdict) [] more =
    record { place = place; finding = asked_with kind hash signer digest verdict } ∷ more []
signed_then prints place (asked_with kind hash signer digest verdict) (name ∷ names) more =
    record { place = place; finding = asked_with kind hash (id_named prints name) digest verdict }
    ∷ more names

-- rows with the key IDs of the keys that are named
abbrev pub signed_rows : List Fingerprint → List RowValue → List NameValue → List RowValue
signed_rows prints [] names = []
signed_rows prints (row ∷ rows) names =
    signed_then prints row.place row.finding names (signed_rows prints rows)
