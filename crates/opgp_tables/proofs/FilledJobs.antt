-- A caller's table of jobs that is filled by visiting signatures.
use Rattle.std.proofs.Common.{◌≡◌, ◌∙◌, ℕ, ◌+◌, ◌≤◌, List, [], ◌∷◌, ◌++◌, length, map, get_or, drop, Option, Some, Result, Ok, Err, refl, sym, ap, subst, arith, length-append, append-nil, zero-add, inl, inr}
use Rattle.std.proofs.lemmas.Bool.{cases_lt}
use Rattle.std.specs.List.{flat_map}
use denote.Bor.{Bor}
use Rattle.opgp_octets.specs.declared.fault.BodyFault.{BodyFault}
use Rattle.opgp_packet.specs.SignatureBody.{SignatureValue}
use Rattle.opgp_packet.specs.SigView.{sig_view_value}
use Rattle.opgp_packet.specs.declared.sig_view.SigView.{SigView}
use Rattle.opgp_hash.specs.declared.fingerprints.Fingerprint.{Fingerprint}
use Rattle.opgp_report.specs.Asked.{IsMet, PosedValue}
use Rattle.opgp_report.specs.declared.place.Place.{Place}
use Rattle.opgp_tables.specs.declared.job_row.Answered.{Answered}
use Rattle.opgp_report.specs.KeyIndex.{prints_shown}
use Rattle.opgp_report.specs.Standing.{Standing, standing_in}
use Rattle.opgp_keyring.specs.Keyring.{KeyringValue}
use Rattle.opgp_tables.specs.declared.job_filler.JobFiller.{JobFiller}
use Rattle.opgp_tables.specs.declared.job_row.JobRow.{JobRow}
use Rattle.opgp_tables.specs.declared.table_sizes.TableSizes.{TableSizes}
use Rattle.opgp_tables.specs.FilledJobs.{FillsJobs}
use Rattle.opgp_tables.specs.Filling.{Fills}
use Rattle.opgp_tables.specs.Jobs.{answer_to, issuer_in, job_bytes, job_octets, job_row, job_rows, jobs_from, made_in, parts_read, prints_in, row_read, said_parts, signature_parts, signature_row}
use Rattle.opgp_tables.specs.Parts.{two, values_of}
use Rattle.opgp_tables.specs.declared.job_filler.NoRoom.{NoRoom}
use Rattle.opgp_tables.proofs.Filling.{both, nothing}

-- a row and its octets, and all behind them
put_both : (prints : List Fingerprint) (s : Standing) (more : List Standing) (here mid there : TableSizes) (rows rows1 rows' : List JobRow) (bytes bytes1 bytes' : List ℕ)
    → Fills (job_row prints here.bytes s ∷ []) (job_octets s) here mid rows rows1 bytes bytes1
    → Fills (jobs_from prints mid.bytes more) (flat_map job_octets more) mid there rows1 rows' bytes1 bytes'
    → Fills (jobs_from prints here.bytes (s ∷ more)) (flat_map job_octets (s ∷ more)) here there rows rows' bytes bytes'
put_both prints s more here mid there rows rows1 rows' bytes bytes1 bytes' f g =
    let h : Fills (jobs_from prints (here.bytes + length (job_octets s)) more) (flat_map job_octets more) mid there rows1 rows' bytes1 bytes' =
    subst (λ (at : ℕ). Fills (jobs_from prints at more) (flat_map job_octets more) mid there rows1 rows' bytes1 bytes') f.bytes_there g in
    both (job_row prints here.bytes s ∷ []) (jobs_from prints (here.bytes + length (job_octets s)) more) (job_octets s) (flat_map job_octets more) here mid there rows rows1 rows' bytes bytes1 bytes' f h

-- an array of two is read at both places
abbrev nowhere : Bor (List ℕ)
nowhere = record { ref_ptr = (0, 0); now = [] }

both_read : (r : List (Bor (List ℕ))) → (get_or r 0 nowhere).now ∷ (get_or r 1 nowhere).now ∷ [] ≡ get_or (map (λ (o : Bor (List ℕ)). o.now) r) 0 [] ∷ get_or (map (λ (o : Bor (List ℕ)). o.now) r) 1 [] ∷ []
both_read [] = refl
both_read (x ∷ []) = refl
both_read (x ∷ y ∷ r) = refl

two_read : (l : List (List ℕ)) → get_or (two l) 0 [] ∷ get_or (two l) 1 [] ∷ [] ≡ two l
two_read [] = refl
two_read (a ∷ []) = refl
two_read (a ∷ b ∷ more) = refl

-- the two parts and the name are what is said
pub three_said : (v : SignatureValue) (r : List (Bor (List ℕ))) (o name : List ℕ) → map (λ (o : Bor (List ℕ)). o.now) r ≡ signature_parts v → name ≡ issuer_in v → o ≡ name
    → (get_or r 0 (record { ref_ptr = (0, 0); now = [] })).now ∷ (get_or r 1 (record { ref_ptr = (0, 0); now = [] })).now ∷ o ∷ [] ≡ said_parts v
three_said v r o name e f g =
    let parts : (get_or r 0 nowhere).now ∷ (get_or r 1 nowhere).now ∷ [] ≡ signature_parts v =
    both_read r ∙ ap (λ (l : List (List ℕ)). get_or l 0 [] ∷ get_or l 1 [] ∷ []) e ∙ two_read (values_of (made_in v)) in
    ap (λ (l : List (List ℕ)). l ++ o ∷ []) parts ∙ ap (λ (n : List ℕ). signature_parts v ++ n ∷ []) (g ∙ f)

-- a signature that is met
pub row_met : (prints : List Fingerprint) (place : Place) (at : ℕ) (met : Option SigView) (view : SigView) (read : Result SignatureValue BodyFault) (posed : PosedValue) (answer : Answered)
    → met ≡ Some view → IsMet met read → answer ≡ answer_to posed
    → (signature_row prints place at (sig_view_value view) answer ≡ row_read prints place at read posed) × (flat_map (λ (o : List ℕ). o) (said_parts (sig_view_value view)) ≡ flat_map (λ (o : List ℕ). o) (parts_read read))
row_met prints place at met view read posed answer is reads answered =
    let e : read ≡ Ok (sig_view_value view) = subst (λ (m : Option SigView). IsMet m read) is reads in (
      ap (λ (a : Answered). signature_row prints place at (sig_view_value view) a) answered ∙ sym (ap (λ (r : Result SignatureValue BodyFault). row_read prints place at r posed) e),
      sym (ap (λ (r : Result SignatureValue BodyFault). flat_map (λ (o : List ℕ). o) (parts_read r)) e),
    )

pub job_step : {E : Type 0} (old new : JobFiller) (s : Standing) (more : List Standing) (row : JobRow) (octets : List ℕ)
    → row ≡ job_row (prints_shown old.names.now) old.here.bytes s → octets ≡ job_octets s
    → Fills (row ∷ []) octets old.here new.here old.rows.now new.rows.now old.bytes.now new.bytes.now
    → length new.rows.now ≡ length old.rows.now → length new.bytes.now ≡ length old.bytes.now
    → new.rows.ghost_name ≡ old.rows.ghost_name → new.bytes.ghost_name ≡ old.bytes.ghost_name → new.names.now ≡ old.names.now
    → (end : Result JobFiller E) → FillsJobs new more end → FillsJobs old (s ∷ more) end
job_step old new s more row octets e o f m n r b k (Ok u) (g, v, w, x) =
    let prints : List Fingerprint = prints_shown old.names.now in
    let first : Fills (job_row prints old.here.bytes s ∷ []) (job_octets s) old.here new.here old.rows.now new.rows.now old.bytes.now new.bytes.now =
    subst (λ (p : List ℕ). Fills (job_row prints old.here.bytes s ∷ []) p old.here new.here old.rows.now new.rows.now old.bytes.now new.bytes.now) o
    (subst (λ (p : JobRow). Fills (p ∷ []) octets old.here new.here old.rows.now new.rows.now old.bytes.now new.bytes.now) e f) in
    let rest : Fills (jobs_from prints new.here.bytes more) (flat_map job_octets more) new.here u.here new.rows.now u.rows.now new.bytes.now u.bytes.now =
    subst (λ names. Fills (jobs_from (prints_shown names) new.here.bytes more) (flat_map job_octets more) new.here u.here new.rows.now u.rows.now new.bytes.now u.bytes.now) k g in
    (put_both prints s more old.here new.here u.here old.rows.now new.rows.now u.rows.now old.bytes.now new.bytes.now u.bytes.now first rest, v ∙ r, w ∙ b, x ∙ k)
job_step old new s more row octets e o f m n r b k (Err refusal) g =
    λ h i. g (omega (arith, h, m, f.rows_there)) (omega (arith, i, n, f.bytes_there, ap (λ l. length l) o, length-append (job_octets s) (flat_map job_octets more)))

pub all_put : (r : KeyringValue) (prints : List Fingerprint) (there : TableSizes) (rows rows' : List JobRow) (bytes bytes' : List ℕ) → prints ≡ prints_in r
    → Fills (jobs_from prints 0 (standing_in r)) (flat_map job_octets (standing_in r)) (record { rows = 0; bytes = 0 }) there rows rows' bytes bytes'
    → (rows' ≡ job_rows r ++ drop (length (job_rows r)) rows) × (bytes' ≡ job_bytes r ++ drop (length (job_bytes r)) bytes)
all_put r prints there rows rows' bytes bytes' e f =
    let g : Fills (job_rows r) (job_bytes r) (record { rows = 0; bytes = 0 }) there rows rows' bytes bytes' =
    subst (λ (p : List Fingerprint). Fills (jobs_from p 0 (standing_in r)) (flat_map job_octets (standing_in r)) (record { rows = 0; bytes = 0 }) there rows rows' bytes bytes') e f in
    (g.rows_put ∙ ap (λ n. job_rows r ++ drop n rows) (zero-add (length (job_rows r))), g.bytes_put ∙ ap (λ n. job_bytes r ++ drop n bytes) (zero-add (length (job_bytes r))))

-- ---- the whole keyring is visited
-- what can't fail to hold holds
pub both_within : (a n b m : ℕ) → ((a ≤ n → b ≤ m → ⊥) → ⊥) → (a ≤ n) × (b ≤ m)
both_within a n b m f =
    elim (cases_lt n a) [
      | inl h ↦ absurd (f (λ h' k. omega arith))
      | inr h ↦ elim (cases_lt m b) [
        | inl k ↦ absurd (f (λ h' k'. omega arith))
        | inr k ↦ (h, k)
      ]
    ]

-- it stands within the tables in the end, since all had room
pub visited : (old new : JobFiller) (list : List Standing) (refusal : NoRoom) → ((more : List Standing) (end : Result JobFiller NoRoom) → FillsJobs {E = NoRoom} new more end → FillsJobs {E = NoRoom} old (list ++ more) end)
    → old.here.rows + length list ≤ length old.rows.now → old.here.bytes + length (flat_map job_octets list) ≤ length old.bytes.now → FillsJobs {E = NoRoom} old list (Ok new)
visited old new list refusal leaves h k =
    let e : list ++ [] ≡ list = append-nil list in
    let room : (new.here.rows ≤ length new.rows.now) × (new.here.bytes ≤ length new.bytes.now) = both_within new.here.rows (length new.rows.now) new.here.bytes (length new.bytes.now)
    (λ none. leaves [] (Err refusal) (λ a b. none (omega (arith, a)) (omega (arith, b))) (omega (arith, h, ap (λ (l : List Standing). length l) e)) (omega (arith, k, ap (λ (l : List Standing). length (flat_map job_octets l)) e))) in
    subst (λ (l : List Standing). FillsJobs {E = NoRoom} old l (Ok new)) e
    (leaves [] (Ok new) (nothing new.here new.rows.now new.bytes.now room.0 room.1, refl, refl, refl))
