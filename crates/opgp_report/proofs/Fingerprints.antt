-- Rows with fingerprints, of what is kept of a keyring's certificates.
use Rattle.std.proofs.Common.{◌≡◌, ◌∙◌, ◌≤◌, ℕ, suc, ◌+◌, Bool, true, false, List, [], ◌∷◌, ◌++◌, length, map, Option, Some, None, Ok, Err, refl, sym, ap, arith, append_assoc, slice_get}
use Rattle.std.specs.Prelude.{◌==◌, if◌then◌else◌}
use Rattle.std.specs.List.{flat_map}
use Rattle.std.specs.Option.{option_map, option_and_then}
use Rattle.std.proofs.lemmas.List.{map-append}
use Rattle.std.proofs.lemmas.List.Concat.{flat_map-append}
use Rattle.std.proofs.lemmas.Option.{slice_get-map}
use Rattle.opgp_frame.specs.Packet.{PacketValue}
use Rattle.opgp_packet.specs.SignatureBody.{SignatureValue, signature_at}
use Rattle.opgp_hash.specs.SubjectValue.{SubjectValue, one}
use Rattle.opgp_hash.specs.declared.fingerprints.Fingerprint.{Fingerprint}
use Rattle.opgp_keyring.specs.Keyring.{CertificateValue, KeyringValue}
use Rattle.opgp_report.specs.declared.fingerprinting.FingerprintedReporting.{FingerprintedReporting}
use Rattle.opgp_report.specs.declared.place.Place.{Place}
use Rattle.opgp_report.specs.Asked.{PosedValue, posed_by}
use Rattle.opgp_report.specs.Fingerprinted.{FingerprintedValue, fingerprinted_report_of, fingerprinted_row, fingerprinted_rows, signer_print}
use Rattle.opgp_report.specs.Fingerprinting.{ReportsPrints}
use Rattle.opgp_report.specs.First.{print_of}
use Rattle.opgp_report.specs.FoundRows.{found_rows, found_then, names_behind, signer_by}
use Rattle.opgp_report.specs.IssuerName.{name_value}
use Rattle.opgp_report.specs.KeyIndex.{prints_shown}
use Rattle.opgp_report.specs.Left.{says_left}
use Rattle.opgp_report.specs.Report.{Says, finding_of, keys_in, report_of, row_of, signer_in}
use Rattle.opgp_report.specs.Row.{row_value}
use Rattle.opgp_report.specs.RowMaker.{names_at, names_if, signed_rows}
use Rattle.opgp_report.specs.RowValue.{RowValue}
use Rattle.opgp_report.specs.Signer.{NameValue, issuer_of, named_in, print_named}
use Rattle.opgp_report.specs.Standing.{Standing, bodies_within, by_number, certificate_standing, component_standing, hang_standing, hung_at, nested_standing, on_head, signature_standing, standing_in}
use Rattle.opgp_report.proofs.Reported.{reported}

-- ---- the signatures of a certificate have its number
abbrev AllAt : ℕ → List Standing → Type 0
AllAt n [] = Unit {0}
AllAt n (s ∷ list) = (s.place.certificate ≡ n) × AllAt n list

both_at : (n : ℕ) (xs ys : List Standing) → AllAt n xs → AllAt n ys → AllAt n (xs ++ ys)
both_at n [] ys a b = b
both_at n (x ∷ xs) ys a b = (a.0, both_at n xs ys a.1 b)

each_at : {A : Type 0} (n : ℕ) (make : ℕ → A → List Standing) → ((m : ℕ) (x : A) → AllAt n (make m x)) → (m : ℕ) (xs : List A) → AllAt n (by_number make m xs)
each_at n make each m [] = tt
each_at n make each m (x ∷ xs) = both_at n (make m x) (by_number make (m + 1) xs) (each m x) (each_at n make each (m + 1) xs)

chosen_at : (n : ℕ) (b : Bool) (xs : List Standing) → AllAt n xs → AllAt n (if b then xs else [])
chosen_at n true xs a = a
chosen_at n false xs a = tt

hang_at : (n : ℕ) (component : Option ℕ) (subject : SubjectValue) (m : ℕ) (p : PacketValue) → AllAt n (hang_standing n component subject m p)
hang_at n component subject m p =
    let place : Place = hung_at n component m in
    chosen_at n (p.kind == 2) (signature_standing place subject p.body)
    (refl, each_at n (nested_standing place subject) (λ k body. (refl, tt)) 0 (bodies_within subject (signature_at p.body)))

hangs_at : (n : ℕ) (component : Option ℕ) (subject : SubjectValue) (ps : List PacketValue) → AllAt n (by_number (hang_standing n component subject) 0 ps)
hangs_at n component subject ps = each_at n (hang_standing n component subject) (hang_at n component subject) 0 ps

certificate_at : (n : ℕ) (c : CertificateValue) → AllAt n (certificate_standing n c)
certificate_at n c =
    both_at n (by_number (hang_standing n None (one c.primary.body)) 0 c.hangs) (by_number (component_standing c.primary.body n) 0 c.components) (hangs_at n None (one c.primary.body) c.hangs)
    (each_at n (component_standing c.primary.body n) (λ m k. hangs_at n (Some m) (on_head c.primary.body k.head) k.hangs) 0 c.components)

module _ (keys : List (List ℕ)) (primaries : List Fingerprint) where
  -- ---- the rows of signatures
  at_place : (place : Option ℕ) → option_and_then (λ i. slice_get (map print_of keys) i) place ≡ option_map print_of (option_and_then (λ i. slice_get keys i) place)
  at_place None = refl
  at_place (Some i) = slice_get-map print_of keys i

  signer_found : (v : SignatureValue) → print_named (map print_of keys) (issuer_of v) ≡ option_map print_of (signer_in keys v)
  signer_found v = at_place (named_in (map print_of keys) (issuer_of v))

  taken : (place : Place) (posed : PosedValue) (primary : Fingerprint) (names : List NameValue) (more : List NameValue → List FingerprintedValue)
      → found_then (map print_of keys) (record { place = place; finding = finding_of says_left keys posed }) (names_if posed ++ names) (Some primary) more
      ≡ record { row = record { place = place; finding = finding_of says_left keys posed }; certificate = primary; signer = signer_print keys posed } ∷ more names
  taken place (Ok (v, q)) primary names more =
      ap (λ (signer : Option Fingerprint). record { row = record { place = place; finding = finding_of says_left keys (Ok (v, q)) }; certificate = primary; signer = signer } ∷ more names) (signer_found v)
  taken place (Err why) primary names more = refl

  -- those in one certificate
  all_found : (n : ℕ) (primary : List ℕ) → slice_get primaries n ≡ Some (print_of primary) → (list : List Standing) → AllAt n list → (rows : List RowValue) (names : List NameValue)
      → found_rows (map print_of keys) primaries (map (row_of says_left keys) list ++ rows) (flat_map names_at list ++ names)
      ≡ map (fingerprinted_row keys says_left primary) list ++ found_rows (map print_of keys) primaries rows names
  all_found n primary is [] at rows names = refl
  all_found n primary is (s ∷ list) at rows names =
      let row : RowValue = row_of says_left keys s in
      let more : List RowValue = map (row_of says_left keys) list ++ rows in
      let left : List NameValue = flat_map names_at list ++ names in
      ap (λ (l : List NameValue). found_rows (map print_of keys) primaries (row ∷ more) l) (append_assoc (names_at s) (flat_map names_at list) names)
      ∙ ap (λ (o : Option Fingerprint). found_then (map print_of keys) row (names_at s ++ left) o (found_rows (map print_of keys) primaries more)) (ap (λ (m : ℕ). slice_get primaries m) at.0 ∙ is)
      ∙ taken s.place (posed_by s) (print_of primary) left (found_rows (map print_of keys) primaries more)
      ∙ ap (λ (l : List FingerprintedValue). fingerprinted_row keys says_left primary s ∷ l) (all_found n primary is list at.1 rows names)

  -- those in all certificates
  certificates_found : (n : ℕ) (cs : List CertificateValue) → ((i : ℕ) → slice_get primaries (n + i) ≡ slice_get (map (λ c. print_of c.primary.body) cs) i)
      → found_rows (map print_of keys) primaries (map (row_of says_left keys) (by_number certificate_standing n cs)) (flat_map names_at (by_number certificate_standing n cs))
      ≡ by_number (fingerprinted_rows keys says_left) n cs
  certificates_found n [] at = refl
  certificates_found n (c ∷ cs) at =
      let here : List Standing = certificate_standing n c in
      let rest : List Standing = by_number certificate_standing (n + 1) cs in
      let is : slice_get primaries n ≡ Some (print_of c.primary.body) = ap (λ (m : ℕ). slice_get primaries m) (omega arith) ∙ at 0 in
      ap (λ (l : List RowValue). found_rows (map print_of keys) primaries l (flat_map names_at (here ++ rest))) (map-append (row_of says_left keys) here rest)
      ∙ ap (λ (l : List NameValue). found_rows (map print_of keys) primaries (map (row_of says_left keys) here ++ map (row_of says_left keys) rest) l) (flat_map-append names_at here rest)
      ∙ all_found n c.primary.body is here (certificate_at n c) (map (row_of says_left keys) rest) (flat_map names_at rest)
      ∙ ap (λ (l : List FingerprintedValue). map (fingerprinted_row keys says_left c.primary.body) here ++ l)
      (certificates_found (n + 1) cs (λ i. ap (λ (m : ℕ). slice_get primaries m) (omega arith) ∙ at (suc i)))

-- ---- a report in the making
pub one_more : (cs : List CertificateValue) (c : CertificateValue) (old : List Fingerprint) → old ≡ map (λ c. print_of c.primary.body) cs
    → old ++ print_of c.primary.body ∷ [] ≡ map (λ c. print_of c.primary.body) (cs ++ c ∷ [])
one_more cs c old e = ap (λ (l : List Fingerprint). l ++ print_of c.primary.body ∷ []) e ∙ sym (map-append (λ c. print_of c.primary.body) cs (c ∷ []))

pub all_reported : (so_far : FingerprintedReporting) (rows : List RowValue) (r : KeyringValue) → ReportsPrints so_far r.certificates
    → rows ≡ signed_rows (prints_shown so_far.reporting.keys) (map row_value so_far.reporting.made.rows.items) (map name_value so_far.reporting.made.issuers.items)
    → found_rows (prints_shown so_far.reporting.keys) so_far.primaries.items rows (map name_value so_far.reporting.made.issuers.items) ≡ fingerprinted_report_of says_left r
all_reported so_far rows r so signed =
    let names : List NameValue = map name_value so_far.reporting.made.issuers.items in
    ap (λ (l : List RowValue). found_rows (prints_shown so_far.reporting.keys) so_far.primaries.items l names) (signed ∙ reported so_far.reporting r so.reports)
    ∙ ap (λ (l : List Fingerprint). found_rows l so_far.primaries.items (report_of says_left r) names) so.reports.keys
    ∙ ap (λ (l : List NameValue). found_rows (map print_of (keys_in r)) so_far.primaries.items (report_of says_left r) l) so.reports.rows.names_are
    ∙ ap (λ (l : List Fingerprint). found_rows (map print_of (keys_in r)) l (report_of says_left r) (flat_map names_at (standing_in r))) so.primaries
    ∙ certificates_found (keys_in r) (map (λ c. print_of c.primary.body) r.certificates) 0 r.certificates (λ i. ap (λ (m : ℕ). slice_get (map (λ c. print_of c.primary.body) r.certificates) m) (omega arith))

-- ---- the rows without fingerprints
module _ (says : Says) (keys : List (List ℕ)) where
  of_one : (primary : List ℕ) (list : List Standing) → map (λ p. p.row) (map (fingerprinted_row keys says primary) list) ≡ map (row_of says keys) list
  of_one primary [] = refl
  of_one primary (s ∷ list) = ap (λ (l : List RowValue). row_of says keys s ∷ l) (of_one primary list)

  of_all : (n : ℕ) (cs : List CertificateValue) → map (λ p. p.row) (by_number (fingerprinted_rows keys says) n cs) ≡ map (row_of says keys) (by_number certificate_standing n cs)
  of_all n [] = refl
  of_all n (c ∷ cs) =
      map-append (λ p. p.row) (fingerprinted_rows keys says n c) (by_number (fingerprinted_rows keys says) (n + 1) cs)
      ∙ ap (λ (l : List RowValue). l ++ map (λ p. p.row) (by_number (fingerprinted_rows keys says) (n + 1) cs)) (of_one c.primary.body (certificate_standing n c))
      ∙ ap (λ (l : List RowValue). map (row_of says keys) (certificate_standing n c) ++ l) (of_all (n + 1) cs)
      ∙ sym (map-append (row_of says keys) (certificate_standing n c) (by_number certificate_standing (n + 1) cs))

pub same_rows : (says : Says) (r : KeyringValue) → map (λ p. p.row) (fingerprinted_report_of says r) ≡ report_of says r
same_rows says r = of_all says (keys_in r) 0 r.certificates

-- ---- the next row
module _ (prints primaries : List Fingerprint) (row : RowValue) (rows : List RowValue) (names : List NameValue) where
  pub next_found : (primary : Fingerprint) (signer : Option Fingerprint) (left : List NameValue) → slice_get primaries row.place.certificate ≡ Some primary
      → signer ≡ signer_by prints row.finding names → left ≡ names_behind row.finding names
      → found_rows prints primaries (row ∷ rows) names ≡ record { row = row; certificate = primary; signer = signer } ∷ found_rows prints primaries rows left
  next_found primary signer left is by behind =
      ap (λ (o : Option Fingerprint). found_then prints row names o (found_rows prints primaries rows)) is
      ∙ ap (λ (o : Option Fingerprint). record { row = row; certificate = primary; signer = o } ∷ found_rows prints primaries rows (names_behind row.finding names)) (sym by)
      ∙ ap (λ (l : List NameValue). record { row = row; certificate = primary; signer = signer } ∷ found_rows prints primaries rows l) (sym behind)

  pub none_found : slice_get primaries row.place.certificate ≡ None → found_rows prints primaries (row ∷ rows) names ≡ []
  none_found is = ap (λ (o : Option Fingerprint). found_then prints row names o (found_rows prints primaries rows)) is

-- ---- there are no more than the rows that are kept
few_then : (prints : List Fingerprint) (row : RowValue) (names : List NameValue) (primary : Option Fingerprint) (more : List NameValue → List FingerprintedValue) (n : ℕ)
    → ((left : List NameValue) → length (more left) ≤ n) → length (found_then prints row names primary more) ≤ n + 1
few_then prints row names None more n few = omega arith
few_then prints row names (Some primary) more n few = omega (arith, few (names_behind row.finding names))

pub few_found : (prints primaries : List Fingerprint) (rows : List RowValue) (names : List NameValue) → length (found_rows prints primaries rows names) ≤ length rows
few_found prints primaries [] names = omega arith
few_found prints primaries (row ∷ rows) names =
    omega (arith, few_then prints row names (slice_get primaries row.place.certificate) (found_rows prints primaries rows) (length rows) (few_found prints primaries rows))
