-- The tables of signatures over a document.
use Rattle.std.proofs.Common.{◌≡◌, ◌∙◌, Bool, ℕ, ◌+◌, ◌≤◌, List, [], ◌∷◌, ◌++◌, length, map, drop, Result, Ok, Err, refl, sym, ap, subst, arith, append_assoc, append-nil, zero-add, suc, length-append}
use Rattle.std.specs.List.{flat_map}
use Rattle.std.proofs.lemmas.List.{map-append}
use Rattle.opgp_octets.specs.declared.fault.BodyFault.{BodyFault}
use Rattle.opgp_packet.specs.AreasValue.{areas_fields, areas_value}
use Rattle.opgp_packet.specs.SignatureBody.{SignatureValue, of_three, of_four, of_six, signature_at, version_three, version_four, version_six}
use Rattle.opgp_packet.specs.SigView.{sig_view_octets, sig_view_value}
use Rattle.opgp_packet.specs.Three.{three_fields, three_value}
use Rattle.opgp_packet.specs.declared.sig_view.SigView.{SigView}
use Rattle.opgp_packet.specs.declared.sig_view.SigView.TheVariants.{Three, Four, Six, Other}
use Rattle.opgp_packet.proofs.GrammarLaws.{body_found}
use Rattle.opgp_packet.proofs.SignatureLaws.{sig_only}
use Rattle.opgp_hash.specs.declared.fingerprints.Fingerprint.{Fingerprint}
use Rattle.opgp_keyring.specs.SignedLiteral.{IsReadAs}
use Rattle.opgp_report.specs.declared.place.Place.{Place}
use Rattle.opgp_tables.specs.declared.job_row.JobRow.{JobRow}
use Rattle.opgp_tables.specs.declared.subpacket_row.SubpacketRow.{SubpacketRow}
use Rattle.opgp_tables.specs.declared.table_sizes.TableSizes.{TableSizes}
use Rattle.opgp_tables.specs.DocumentJobs.{Answer, document_job_bytes, document_job_rows, document_jobs_from, document_row, document_subpacket_bytes, document_subpackets_from, document_subs, made_octets, made_read, read_shown, signature_place, sub_octets}
use Rattle.opgp_keyring.specs.Keyring.{KeyringValue}
use Rattle.opgp_tables.specs.Filling.{Fills}
use Rattle.opgp_tables.specs.Jobs.{issuer_in, parts_read, prints_in, signature_parts, sizes_in}
use Rattle.opgp_tables.specs.Parts.{cuts}
use Rattle.opgp_tables.specs.Subpackets.{area_octets, area_rows, octets_read, rows_read, subs_read}
use Rattle.opgp_packet.specs.Areas.{hashed_subs, unhashed_subs}
use Rattle.opgp_tables.proofs.Cutting.{cut_all, next}
use Rattle.opgp_tables.proofs.Filling.{both, nothing}
use Rattle.opgp_tables.proofs.FilledSubpackets.{area_many}

-- ---- a body as it is read
read_view : (s : SigView) → signature_at (sig_view_octets s) ≡ Ok (sig_view_value s)
read_view (Three s) = let f = three_fields (three_value s) in sig_only s.body.now (of_three f) s.octets (body_found version_three s.body.now f s.octets s.parses)
read_view (Four s) = let f = areas_fields (areas_value s) in sig_only s.body.now (of_four f) s.octets (body_found version_four s.body.now f s.octets s.parses)
read_view (Six s) = let f = areas_fields (areas_value s) in sig_only s.body.now (of_six f) s.octets (body_found version_six s.body.now f s.octets s.parses)
read_view (Other s) = s.parses

pub read_is : (body : List ℕ) (read : Result SigView BodyFault) → IsReadAs body read → signature_at body ≡ read_shown read
read_is body (Ok view) e = ap signature_at (sym e) ∙ read_view view
read_is body (Err fault) e = e

-- ---- the table of signatures
pub jobs_end : (is_message : Bool) (prints : List Fingerprint) (n : ℕ) (all : List (List ℕ)) (answers : List Answer) (here : TableSizes) (rows : List JobRow) (bytes : List ℕ) → all ≡ []
    → here.rows ≤ length rows → here.bytes ≤ length bytes → Fills (document_jobs_from is_message prints n here.bytes all answers) (document_job_bytes all) here here rows rows bytes bytes
jobs_end is_message prints n [] answers here rows bytes e h k = nothing here rows bytes h k
jobs_end is_message prints n (body ∷ bodies) answers here rows bytes e h k = cc

-- a signature, and all behind it
pub jobs_step : (is_message : Bool) (prints : List Fingerprint) (n : ℕ) (read : Result SignatureValue BodyFault) (body : List ℕ) (all bodies : List (List ℕ)) (answer : Answer) (answers_left answers : List Answer)
    (here mid there : TableSizes) (rows mid_rows rows' : List JobRow) (bytes mid_bytes bytes' : List ℕ)
    → all ≡ body ∷ bodies → answers_left ≡ answer ∷ answers → signature_at body ≡ read
    → Fills (document_row is_message prints n here.bytes read answer ∷ []) (made_read read) here mid rows mid_rows bytes mid_bytes
    → Fills (document_jobs_from is_message prints (n + 1) mid.bytes bodies answers) (document_job_bytes bodies) mid there mid_rows rows' mid_bytes bytes'
    → Fills (document_jobs_from is_message prints n here.bytes all answers_left) (document_job_bytes all) here there rows rows' bytes bytes'
jobs_step is_message prints n read body all bodies answer answers_left answers here mid there rows mid_rows rows' bytes mid_bytes bytes' e a r f g =
    let first : Fills (document_row is_message prints n here.bytes (signature_at body) answer ∷ []) (made_octets body) here mid rows mid_rows bytes mid_bytes =
    subst (λ (s : Result SignatureValue BodyFault). Fills (document_row is_message prints n here.bytes s answer ∷ []) (made_read s) here mid rows mid_rows bytes mid_bytes) (sym r) f in
    let h : Fills (document_jobs_from is_message prints (n + 1) (here.bytes + length (made_octets body)) bodies answers) (document_job_bytes bodies) mid there mid_rows rows' mid_bytes bytes' =
    subst (λ (at : ℕ). Fills (document_jobs_from is_message prints (n + 1) at bodies answers) (document_job_bytes bodies) mid there mid_rows rows' mid_bytes bytes') first.bytes_there g in
    let whole : Fills (document_jobs_from is_message prints n here.bytes (body ∷ bodies) (answer ∷ answers)) (document_job_bytes (body ∷ bodies)) here there rows rows' bytes bytes' =
    both (document_row is_message prints n here.bytes (signature_at body) answer ∷ []) (document_jobs_from is_message prints (n + 1) (here.bytes + length (made_octets body)) bodies answers) (made_octets body) (document_job_bytes bodies)
    here mid there rows mid_rows rows' bytes mid_bytes bytes' first h in
    subst (λ (l : List (List ℕ)). Fills (document_jobs_from is_message prints n here.bytes l answers_left) (document_job_bytes l) here there rows rows' bytes bytes') (sym e)
    (subst (λ (l : List Answer). Fills (document_jobs_from is_message prints n here.bytes (body ∷ bodies) l) (document_job_bytes (body ∷ bodies)) here there rows rows' bytes bytes') (sym a) whole)

-- there is a row for each
pub jobs_many : (is_message : Bool) (prints : List Fingerprint) (n at : ℕ) (bodies : List (List ℕ)) (answers : List Answer) → length answers ≡ length bodies → length (document_jobs_from is_message prints n at bodies answers) ≡ length bodies
jobs_many is_message prints n at [] answers e = refl
jobs_many is_message prints n at (body ∷ bodies) [] e = absurd (omega (arith, e))
jobs_many is_message prints n at (body ∷ bodies) (answer ∷ answers) e = ap (λ (k : ℕ). suc k) (jobs_many is_message prints (n + 1) (at + length (made_octets body)) bodies answers (omega (arith, e)))

-- all from the front on
pub all_put : {A : Type 0} (items : List A) (octets : List ℕ) (there : TableSizes) (rows rows' : List A) (bytes bytes' : List ℕ)
    → Fills items octets (record { rows = 0; bytes = 0 }) there rows rows' bytes bytes'
    → (rows' ≡ items ++ drop (length items) rows) × (bytes' ≡ octets ++ drop (length octets) bytes)
all_put items octets there rows rows' bytes bytes' g =
    (g.rows_put ∙ ap (λ n. items ++ drop n rows) (zero-add (length items)), g.bytes_put ∙ ap (λ n. octets ++ drop n bytes) (zero-add (length octets)))

-- ---- the table of subpackets
pub subs_end : (n : ℕ) (all : List (List ℕ)) (here : TableSizes) (rows : List SubpacketRow) (bytes : List ℕ) → all ≡ []
    → here.rows ≤ length rows → here.bytes ≤ length bytes → Fills (document_subpackets_from n here.bytes all) (document_subpacket_bytes all) here here rows rows bytes bytes
subs_end n [] here rows bytes e h k = nothing here rows bytes h k
subs_end n (body ∷ bodies) here rows bytes e h k = cc

pub subs_step : (n : ℕ) (read : Result SignatureValue BodyFault) (body : List ℕ) (all bodies : List (List ℕ))
    (here mid there : TableSizes) (rows mid_rows rows' : List SubpacketRow) (bytes mid_bytes bytes' : List ℕ)
    → all ≡ body ∷ bodies → signature_at body ≡ read
    → Fills (rows_read (signature_place n) here.bytes read) (octets_read read) here mid rows mid_rows bytes mid_bytes
    → Fills (document_subpackets_from (n + 1) mid.bytes bodies) (document_subpacket_bytes bodies) mid there mid_rows rows' mid_bytes bytes'
    → Fills (document_subpackets_from n here.bytes all) (document_subpacket_bytes all) here there rows rows' bytes bytes'
subs_step n read body all bodies here mid there rows mid_rows rows' bytes mid_bytes bytes' e r f g =
    let first : Fills (rows_read (signature_place n) here.bytes (signature_at body)) (sub_octets body) here mid rows mid_rows bytes mid_bytes =
    subst (λ (s : Result SignatureValue BodyFault). Fills (rows_read (signature_place n) here.bytes s) (octets_read s) here mid rows mid_rows bytes mid_bytes) (sym r) f in
    let h : Fills (document_subpackets_from (n + 1) (here.bytes + length (sub_octets body)) bodies) (document_subpacket_bytes bodies) mid there mid_rows rows' mid_bytes bytes' =
    subst (λ (at : ℕ). Fills (document_subpackets_from (n + 1) at bodies) (document_subpacket_bytes bodies) mid there mid_rows rows' mid_bytes bytes') first.bytes_there g in
    let whole : Fills (document_subpackets_from n here.bytes (body ∷ bodies)) (document_subpacket_bytes (body ∷ bodies)) here there rows rows' bytes bytes' =
    both (rows_read (signature_place n) here.bytes (signature_at body)) (document_subpackets_from (n + 1) (here.bytes + length (sub_octets body)) bodies) (sub_octets body) (document_subpacket_bytes bodies)
    here mid there rows mid_rows rows' bytes mid_bytes bytes' first h in
    subst (λ (l : List (List ℕ)). Fills (document_subpackets_from n here.bytes l) (document_subpacket_bytes l) here there rows rows' bytes bytes') (sym e) whole

-- there is a row for each
pub read_many : (place : Place) (at : ℕ) (read : Result SignatureValue BodyFault) → length (rows_read place at read) ≡ length (subs_read read)
read_many place at (Ok v) =
    length-append (area_rows place 1 at (hashed_subs v)) (area_rows place 0 (at + length (area_octets (hashed_subs v))) (unhashed_subs v))
    ∙ ap (λ (n : ℕ). n + length (area_rows place 0 (at + length (area_octets (hashed_subs v))) (unhashed_subs v))) (area_many place 1 at (hashed_subs v))
    ∙ ap (λ (n : ℕ). length (hashed_subs v) + n) (area_many place 0 (at + length (area_octets (hashed_subs v))) (unhashed_subs v))
    ∙ sym (length-append (hashed_subs v) (unhashed_subs v))
read_many place at (Err fault) = refl

pub subs_many : (n at : ℕ) (bodies : List (List ℕ)) → length (document_subpackets_from n at bodies) ≡ length (flat_map document_subs bodies)
subs_many n at [] = refl
subs_many n at (body ∷ bodies) =
    let next : ℕ = at + length (sub_octets body) in
    length-append (rows_read (signature_place n) at (signature_at body)) (document_subpackets_from (n + 1) next bodies)
    ∙ ap (λ (k : ℕ). k + length (document_subpackets_from (n + 1) next bodies)) (read_many (signature_place n) at (signature_at body))
    ∙ ap (λ (k : ℕ). length (document_subs body) + k) (subs_many (n + 1) next bodies)
    ∙ sym (length-append (document_subs body) (flat_map document_subs bodies))

-- ---- what a list has behind its first, of which there is one
pub made_many : (body : List ℕ) (all bodies : List (List ℕ)) (read : Result SignatureValue BodyFault) → all ≡ body ∷ bodies → signature_at body ≡ read
    → length (document_job_bytes all) ≡ length (made_read read) + length (document_job_bytes bodies)
made_many body all bodies read e r =
    ap (λ (l : List (List ℕ)). length (document_job_bytes l)) e ∙ length-append (made_octets body) (document_job_bytes bodies)
    ∙ ap (λ (s : Result SignatureValue BodyFault). length (made_read s) + length (document_job_bytes bodies)) r

pub sub_octets_many : (body : List ℕ) (all bodies : List (List ℕ)) (read : Result SignatureValue BodyFault) → all ≡ body ∷ bodies → signature_at body ≡ read
    → length (document_subpacket_bytes all) ≡ length (octets_read read) + length (document_subpacket_bytes bodies)
sub_octets_many body all bodies read e r =
    ap (λ (l : List (List ℕ)). length (document_subpacket_bytes l)) e ∙ length-append (sub_octets body) (document_subpacket_bytes bodies)
    ∙ ap (λ (s : Result SignatureValue BodyFault). length (octets_read s) + length (document_subpacket_bytes bodies)) r

pub subs_left_many : (body : List ℕ) (all bodies : List (List ℕ)) (read : Result SignatureValue BodyFault) → all ≡ body ∷ bodies → signature_at body ≡ read
    → length (flat_map document_subs all) ≡ length (subs_read read) + length (flat_map document_subs bodies)
subs_left_many body all bodies read e r =
    ap (λ (l : List (List ℕ)). length (flat_map document_subs l)) e ∙ length-append (document_subs body) (flat_map document_subs bodies)
    ∙ ap (λ (s : Result SignatureValue BodyFault). length (subs_read s) + length (flat_map document_subs bodies)) r

-- ---- what the rows say
pub rows_many : (is_message : Bool) (r : KeyringValue) (bodies : List (List ℕ)) (answers : List Answer) → length answers ≡ length bodies → length (document_job_rows is_message r bodies answers) ≡ length bodies
rows_many is_message r bodies answers e = jobs_many is_message (prints_in r) 0 0 bodies answers e

module _ (bytes : List ℕ) (is_message : Bool) (prints : List Fingerprint) where
  abbrev cut : JobRow → List (List ℕ)
  cut row = cuts bytes row.at (sizes_in row)

  cut_one : (n at : ℕ) (read : Result SignatureValue BodyFault) (answer : Answer) (rest : List ℕ) → drop at bytes ≡ made_read read ++ rest → cut (document_row is_message prints n at read answer) ≡ parts_read read
  cut_one n at (Ok v) answer rest e =
      ap (λ (sizes : List ℕ). cuts bytes at sizes) (sym (map-append length (signature_parts v) (issuer_in v ∷ []))) ∙ cut_all bytes at (parts_read (Ok v)) rest e
  cut_one n at (Err fault) answer rest e = cut_all bytes at (parts_read (Err fault)) rest e

  cut_each : (n at : ℕ) (bodies : List (List ℕ)) (answers : List Answer) (rest : List ℕ) → length answers ≡ length bodies → drop at bytes ≡ document_job_bytes bodies ++ rest
      → map cut (document_jobs_from is_message prints n at bodies answers) ≡ map (λ (body : List ℕ). parts_read (signature_at body)) bodies
  cut_each n at [] answers rest many e = refl
  cut_each n at (body ∷ bodies) [] rest many e = absurd (omega (arith, many))
  cut_each n at (body ∷ bodies) (answer ∷ answers) rest many e =
      let more : List ℕ = document_job_bytes bodies in
      let f : drop at bytes ≡ made_octets body ++ (more ++ rest) = e ∙ append_assoc (made_octets body) more rest in
      ap (λ (x : List (List ℕ)). x ∷ map cut (document_jobs_from is_message prints (n + 1) (at + length (made_octets body)) bodies answers)) (cut_one n at (signature_at body) answer (more ++ rest) f)
      ∙ ap (λ (l : List (List (List ℕ))). parts_read (signature_at body) ∷ l) (cut_each (n + 1) (at + length (made_octets body)) bodies answers rest (omega (arith, many)) (next bytes at (made_octets body) (more ++ rest) f))

pub made_lies : (is_message : Bool) (r : KeyringValue) (bodies : List (List ℕ)) (answers : List Answer) → length answers ≡ length bodies
    → map (λ row. cuts (document_job_bytes bodies) row.at (sizes_in row)) (document_job_rows is_message r bodies answers) ≡ map (λ body. parts_read (signature_at body)) bodies
made_lies is_message r bodies answers many = cut_each (document_job_bytes bodies) is_message (prints_in r) 0 0 bodies answers [] many (sym (append-nil (document_job_bytes bodies)))
