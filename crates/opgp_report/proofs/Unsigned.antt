-- Rows that are made while no key is known, with their signers filled in.
use Rattle.std.proofs.Common.{◌≡◌, ◌∙◌, ℕ, ◌+◌, ◌<◌, List, [], ◌∷◌, ◌++◌, length, map, take, drop, set, get_or, Option, Some, None, Ok, Err, refl, sym, ap, arith, add-one, append_assoc, slice_get}
use Rattle.std.specs.List.{flat_map}
use Rattle.std.specs.Option.{option_map, option_and_then}
use Rattle.std.proofs.lemmas.List.{drop-set-lt, map-append, take_more_set}
use Rattle.std.proofs.lemmas.Option.{slice_get-map}
use Rattle.std.proofs.Math.Seq.{drop-cons}
use Rattle.opgp_packet.specs.SignatureBody.{SignatureValue}
use Rattle.opgp_hash.specs.Digest.{digest_of}
use Rattle.opgp_hash.specs.KeyId.{id_of}
use Rattle.opgp_hash.specs.declared.fingerprints.Fingerprint.{Fingerprint}
use Rattle.opgp_report.specs.declared.place.Place.{Place}
use Rattle.opgp_report.specs.declared.row.Row.{Row}
use Rattle.opgp_report.specs.Asked.{PosedValue, posed_by}
use Rattle.opgp_report.specs.First.{print_of}
use Rattle.opgp_report.specs.Left.{says_left}
use Rattle.opgp_report.specs.Report.{finding_of, row_of, signer_in}
use Rattle.opgp_report.specs.Row.{row_value}
use Rattle.opgp_report.specs.RowMaker.{names_at, names_if, signed_rows, unsigned_row}
use Rattle.opgp_report.specs.RowValue.{RowValue, asked_with}
use Rattle.opgp_report.specs.Signer.{NameValue, id_named, issuer_of, named_in}
use Rattle.opgp_report.specs.Standing.{Standing}

-- ---- one row more
pub one_seen : {A B : Type 0} (see : A → B) (old new : List A) (x : A) (y : B) (rest : List B) → new ≡ old ++ x ∷ [] → see x ≡ y → map see new ++ rest ≡ map see old ++ y ∷ rest
one_seen {A} {B} see old new x y rest e f =
    ap (λ (l : List A). map see l ++ rest) e ∙ ap (λ (l : List B). l ++ rest) (map-append see old (x ∷ [])) ∙ append_assoc (map see old) (see x ∷ []) rest
    ∙ ap (λ (z : B). map see old ++ z ∷ rest) f

pub one_signed : (prints : List Fingerprint) (items : List Row) (i : ℕ) (d s : Row) (names left : List NameValue) (all : List RowValue) → i < length items
    → ((rows : List RowValue) → signed_rows prints (row_value (get_or items i d) ∷ rows) names ≡ row_value s ∷ signed_rows prints rows left)
    → map row_value (take i items) ++ signed_rows prints (map row_value (drop i items)) names ≡ all
    → map row_value (take (i + 1) (set items i s)) ++ signed_rows prints (map row_value (drop (i + 1) (set items i s))) left ≡ all
one_signed prints items i d s names left all within one so =
    let more : List Row = drop (i + 1) items in
    let done : List RowValue = map row_value (take i items) in
    let here : drop i items ≡ get_or items i d ∷ more = drop-cons items i d within ∙ sym (ap (λ (n : ℕ). get_or items i d ∷ drop n items) (add-one i)) in
    ap (λ (rows : List Row). map row_value rows ++ signed_rows prints (map row_value (drop (i + 1) (set items i s))) left) (take_more_set items i s within)
    ∙ ap (λ (rows : List Row). map row_value (take i items ++ s ∷ []) ++ signed_rows prints (map row_value rows) left) (drop-set-lt (i + 1) items i s (omega arith))
    ∙ ap (λ (rows : List RowValue). rows ++ signed_rows prints (map row_value more) left) (map-append row_value (take i items) (s ∷ []))
    ∙ append_assoc done (row_value s ∷ []) (signed_rows prints (map row_value more) left)
    ∙ ap (λ (rows : List RowValue). done ++ rows) (sym (one (map row_value more)))
    ∙ ap (λ (rows : List Row). done ++ signed_rows prints (map row_value rows) names) (sym here)
    ∙ so

-- ---- the rows of all signatures
module _ (keys : List (List ℕ)) where
  of_found : (found : Option (List ℕ)) → option_map id_of (option_map print_of found) ≡ option_map (λ body. id_of (print_of body)) found
  of_found None = refl
  of_found (Some body) = refl

  at_place : (place : Option ℕ) → option_map id_of (option_and_then (λ i. slice_get (map print_of keys) i) place) ≡ option_map (λ body. id_of (print_of body)) (option_and_then (λ i. slice_get keys i) place)
  at_place None = refl
  at_place (Some i) = ap (option_map id_of) (slice_get-map print_of keys i) ∙ of_found (slice_get keys i)

  signer_named : (v : SignatureValue) → id_named (map print_of keys) (issuer_of v) ≡ option_map (λ body. id_of (print_of body)) (signer_in keys v)
  signer_named v = at_place (named_in (map print_of keys) (issuer_of v))

  signed_by : (place : Place) (posed : PosedValue) (rows : List RowValue) (names : List NameValue)
      → signed_rows (map print_of keys) (record { place = place; finding = finding_of says_left [] posed } ∷ rows) (names_if posed ++ names)
      ≡ record { place = place; finding = finding_of says_left keys posed } ∷ signed_rows (map print_of keys) rows names
  signed_by place (Ok (v, q)) rows names =
      ap (λ (id : Option (List ℕ)). record { place = place; finding = asked_with q.kind q.hash id (digest_of q) (says_left (record { signature = v; digest = digest_of q; signer = None })) } ∷ signed_rows (map print_of keys) rows names) (signer_named v)
  signed_by place (Err why) rows names = refl

  pub all_signed : (list : List Standing) → signed_rows (map print_of keys) (map unsigned_row list) (flat_map names_at list) ≡ map (row_of says_left keys) list
  all_signed [] = refl
  all_signed (s ∷ list) = signed_by s.place (posed_by s) (map unsigned_row list) (flat_map names_at list)
      ∙ ap (λ (rows : List RowValue). row_of says_left keys s ∷ rows) (all_signed list)
