-- A report in the making, with one more certificate, and at the end.
use Rattle.std.proofs.Common.{◌≡◌, ◌∙◌, ℕ, ◌+◌, List, [], ◌∷◌, ◌++◌, length, map, Ok, sym, ap, arith, append-nil, length-append}
use Rattle.std.specs.List.{flat_map}
use Rattle.std.proofs.lemmas.List.{map-append}
use Rattle.std.proofs.lemmas.List.Concat.{flat_map-append}
use Rattle.opgp_hash.specs.declared.fingerprints.Fingerprint.{Fingerprint}
use Rattle.opgp_keyring.specs.Keyring.{CertificateValue, KeyringValue}
use Rattle.opgp_report.specs.declared.reporting.Reporting.{Reporting}
use Rattle.opgp_report.specs.declared.row_maker.RowMaker.{RowMaker}
use Rattle.opgp_report.specs.First.{print_of}
use Rattle.opgp_report.specs.IssuerName.{name_value}
use Rattle.opgp_report.specs.KeyIndex.{prints_shown}
use Rattle.opgp_report.specs.Left.{says_left}
use Rattle.opgp_report.specs.Report.{certificate_keys, keys_in, report_of}
use Rattle.opgp_report.specs.Reporting.{Reports}
use Rattle.opgp_report.specs.Row.{row_value}
use Rattle.opgp_report.specs.RowMaker.{AddsUnsigned, names_at, signed_rows, unsigned_row}
use Rattle.opgp_report.specs.RowValue.{RowValue}
use Rattle.opgp_report.specs.Signer.{NameValue}
use Rattle.opgp_report.specs.Standing.{Standing, by_number, certificate_standing, standing_in}
use Rattle.opgp_report.proofs.Numbered.{by_number_append}
use Rattle.opgp_report.proofs.Unsigned.{all_signed}

-- nothing is added
pub none_added : (E : Type 0) (maker : RowMaker) → AddsUnsigned {E = E} maker [] (Ok maker)
none_added E maker = record { rows_are = sym (append-nil (map row_value maker.rows.items)); names_are = sym (append-nil (map name_value maker.issuers.items)) }

-- ---- one certificate more
keys_more : (cs : List CertificateValue) (c : CertificateValue) → map print_of (flat_map certificate_keys (cs ++ c ∷ [])) ≡ map print_of (flat_map certificate_keys cs) ++ map print_of (certificate_keys c)
keys_more cs c =
    ap (λ (l : List (List ℕ)). map print_of l) (flat_map-append certificate_keys cs (c ∷ []) ∙ ap (λ (l : List (List ℕ)). flat_map certificate_keys cs ++ l) (append-nil (certificate_keys c)))
    ∙ map-append print_of (flat_map certificate_keys cs) (certificate_keys c)

standing_more : (cs : List CertificateValue) (c : CertificateValue) (n : ℕ) → n ≡ length cs → by_number certificate_standing 0 (cs ++ c ∷ []) ≡ by_number certificate_standing 0 cs ++ certificate_standing n c
standing_more cs c n e =
    by_number_append certificate_standing 0 cs (c ∷ []) ∙ ap (λ (l : List Standing). by_number certificate_standing 0 cs ++ l) (append-nil (certificate_standing (0 + length cs) c))
    ∙ ap (λ (m : ℕ). by_number certificate_standing 0 cs ++ certificate_standing m c) (sym (e ∙ zero_plus))
  where
    zero_plus : length cs ≡ 0 + length cs
    zero_plus = omega arith

pub one_more : (E : Type 0) (old new : Reporting) (cs : List CertificateValue) (c : CertificateValue) → new.certificates ≡ old.certificates + 1
    → prints_shown new.keys ≡ prints_shown old.keys ++ map print_of (certificate_keys c) → AddsUnsigned {E = E} old.made (certificate_standing old.certificates c) (Ok new.made) → Reports old cs → Reports new (cs ++ c ∷ [])
one_more E old new cs c next keys added so =
    let done : List Standing = by_number certificate_standing 0 cs in
    let here : List Standing = certificate_standing old.certificates c in
    let all = standing_more cs c old.certificates so.count in
    record {
      count = omega (arith, so.count, next, length-append cs (c ∷ []));
      keys = keys ∙ ap (λ (l : List Fingerprint). l ++ map print_of (certificate_keys c)) so.keys ∙ sym (keys_more cs c);
      rows = record {
        rows_are = added.rows_are ∙ ap (λ (l : List RowValue). l ++ map unsigned_row here) so.rows.rows_are ∙ sym (ap (λ (l : List Standing). map unsigned_row l) all ∙ map-append unsigned_row done here);
        names_are = added.names_are ∙ ap (λ (l : List NameValue). l ++ flat_map names_at here) so.rows.names_are ∙ sym (ap (λ (l : List Standing). flat_map names_at l) all ∙ flat_map-append names_at done here);
      };
    }

-- ---- all certificates
pub reported : (so_far : Reporting) (r : KeyringValue) → Reports so_far r.certificates
    → signed_rows (prints_shown so_far.keys) (map row_value so_far.made.rows.items) (map name_value so_far.made.issuers.items) ≡ report_of says_left r
reported so_far r so =
    ap (λ (l : List Fingerprint). signed_rows l (map row_value so_far.made.rows.items) (map name_value so_far.made.issuers.items)) so.keys
    ∙ ap (λ (l : List RowValue). signed_rows (map print_of (keys_in r)) l (map name_value so_far.made.issuers.items)) so.rows.rows_are
    ∙ ap (λ (l : List NameValue). signed_rows (map print_of (keys_in r)) (map unsigned_row (standing_in r)) l) so.rows.names_are
    ∙ all_signed (keys_in r) (standing_in r)
