-- The rows of jobs are those of the questions, and say where what algorithms made and names of issuers lie.
use Rattle.std.proofs.Common.{◌≡◌, ◌∙◌, ℕ, ◌+◌, List, [], ◌∷◌, ◌++◌, length, map, Result, Ok, Err, refl, sym, ap, append_assoc, append-nil}
use Rattle.std.specs.Prelude.{drop}
use Rattle.std.specs.List.{flat_map}
use Rattle.std.proofs.lemmas.List.{map-append}
use Rattle.opgp_octets.specs.declared.fault.BodyFault.{BodyFault}
use Rattle.opgp_packet.specs.SignatureBody.{SignatureValue, signature_at}
use Rattle.opgp_hash.specs.declared.fingerprints.Fingerprint.{Fingerprint}
use Rattle.opgp_hash.specs.declared.site.Site.{Site}
use Rattle.opgp_hash.specs.SubjectValue.{SubjectValue}
use Rattle.opgp_keyring.specs.Keyring.{KeyringValue}
use Rattle.opgp_report.specs.declared.place.Place.{Place}
use Rattle.opgp_report.specs.Asked.{PosedValue, asked_by, asked_of, posed_by, posed_in, question_of}
use Rattle.opgp_report.specs.Standing.{Standing, standing_in}
use Rattle.opgp_tables.specs.declared.job_row.JobRow.{JobRow}
use Rattle.opgp_tables.specs.Jobs.{answer_to, asked_shown, job_bytes, job_octets, job_parts, job_rows, job_shown, jobs_from, parts_read, prints_in, issuer_in, row_read, signature_parts, signature_row, sizes_in}
use Rattle.opgp_tables.specs.Parts.{cuts}
use Rattle.opgp_tables.proofs.Cutting.{cut_all, next}

answered : (prints : List Fingerprint) (place : Place) (at : ℕ) (v : SignatureValue) (posed : PosedValue) → job_shown (signature_row prints place at v (answer_to posed)) ≡ asked_shown (question_of posed)
answered prints place at v (Ok x) = refl
answered prints place at v (Err why) = refl

one : (prints : List Fingerprint) (place : Place) (at : ℕ) (site : Site) (subject : SubjectValue) (read : Result SignatureValue BodyFault)
    → job_shown (row_read prints place at read (posed_in site subject read)) ≡ asked_shown (question_of (posed_in site subject read))
one prints place at site subject (Ok v) = answered prints place at v (posed_in site subject (Ok v))
one prints place at site subject (Err fault) = refl

all : (prints : List Fingerprint) (at : ℕ) (list : List Standing) → map job_shown (jobs_from prints at list) ≡ map asked_shown (map asked_by list)
all prints at [] = refl
all prints at (s ∷ list) =
    ap (λ (x : ℕ × List ℕ). x ∷ map job_shown (jobs_from prints (at + length (job_octets s)) list)) (one prints s.place at s.site s.subject (signature_at s.body))
    ∙ ap (λ (l : List (ℕ × List ℕ)). asked_shown (asked_by s) ∷ l) (all prints (at + length (job_octets s)) list)

pub are_questions : (r : KeyringValue) → map job_shown (job_rows r) ≡ map asked_shown (asked_of r)
are_questions r = all (prints_in r) 0 (standing_in r)

-- ---- what algorithms made
module _ (bytes : List ℕ) (prints : List Fingerprint) where
  abbrev cut : JobRow → List (List ℕ)
  cut row = cuts bytes row.at (sizes_in row)

  cut_one : (place : Place) (at : ℕ) (read : Result SignatureValue BodyFault) (posed : PosedValue) (rest : List ℕ) → drop at bytes ≡ flat_map (λ (o : List ℕ). o) (parts_read read) ++ rest → cut (row_read prints place at read posed) ≡ parts_read read
  cut_one place at (Ok v) posed rest e =
      ap (λ (sizes : List ℕ). cuts bytes at sizes) (sym (map-append length (signature_parts v) (issuer_in v ∷ [])))
      ∙ cut_all bytes at (parts_read (Ok v)) rest e
  cut_one place at (Err fault) posed rest e = cut_all bytes at (parts_read (Err fault)) rest e

  cut_each : (at : ℕ) (list : List Standing) (rest : List ℕ) → drop at bytes ≡ flat_map job_octets list ++ rest → map cut (jobs_from prints at list) ≡ map job_parts list
  cut_each at [] rest e = refl
  cut_each at (s ∷ list) rest e =
      let more : List ℕ = flat_map job_octets list in
      let f : drop at bytes ≡ job_octets s ++ (more ++ rest) = e ∙ append_assoc (job_octets s) more rest in
      ap (λ (x : List (List ℕ)). x ∷ map cut (jobs_from prints (at + length (job_octets s)) list)) (cut_one s.place at (signature_at s.body) (posed_by s) (more ++ rest) f)
      ∙ ap (λ (l : List (List (List ℕ))). job_parts s ∷ l) (cut_each (at + length (job_octets s)) list rest (next bytes at (job_octets s) (more ++ rest) f))

pub made_lies : (r : KeyringValue) → map (λ row. cuts (job_bytes r) row.at (sizes_in row)) (job_rows r) ≡ map job_parts (standing_in r)
made_lies r = cut_each (job_bytes r) (prints_in r) 0 (standing_in r) [] (sym (append-nil (job_bytes r)))
