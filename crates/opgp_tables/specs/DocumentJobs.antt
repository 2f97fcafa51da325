-- The tables of signatures over a document (RFC 9580, 5.2.4, 10.4): of the signatures a row for
-- each, in order, as in a keyring's table of jobs; and of their subpackets.
use Rattle.std.specs.Prelude.{ℕ, ◌+◌, ◌==◌, Bool, not, ◌&&◌, if◌then◌else◌}
use Rattle.std.specs.Prelude.{List, [], ◌∷◌, ◌++◌, length, None, Result, Ok, Err}
use Rattle.std.specs.List.{flat_map}
use Rattle.opgp_octets.specs.declared.fault.BodyFault.{BodyFault}
use Rattle.opgp_packet.specs.SignatureBody.{SignatureValue, signature_at}
use Rattle.opgp_packet.specs.SigView.{sig_view_value}
use Rattle.opgp_packet.specs.declared.sig_view.SigView.{SigView}
use Rattle.opgp_hash.specs.declared.digests.Digest.{Digest}
use Rattle.opgp_hash.specs.declared.fingerprints.Fingerprint.{Fingerprint}
use Rattle.opgp_document.specs.DocumentWhy as document
use Rattle.opgp_document.specs.declared.document_why.DocumentWhy.{DocumentWhy}
use Rattle.opgp_document.specs.declared.document_why.DocumentWhy.TheVariants.{Kind}
use Rattle.opgp_report.specs.declared.place.Place.{Place}
use Rattle.opgp_keyring.specs.Keyring.{KeyringValue}
use Rattle.opgp_tables.specs.declared.job_row.Answered.{Answered}
use Rattle.opgp_tables.specs.declared.job_row.JobRow.{JobRow}
use Rattle.opgp_tables.specs.declared.subpacket_row.SubpacketRow.{SubpacketRow}
use Rattle.opgp_tables.specs.Jobs.{digest_answer, kind_in, opaque_row, parts_read, prints_in}
use Rattle.opgp_tables.specs.Jobs.{signature_row, why_answer}
use Rattle.opgp_tables.specs.Room.{none}
use Rattle.opgp_tables.specs.Subpackets.{octets_read, rows_read, subs_read}
use Rattle.opgp_packet.specs.Subpackets.{Sub}

-- what is answered for a signature: the digest of what it hashes, or why it isn't hashed
abbrev pub Answer : Type 0
Answer = Result Digest DocumentWhy

-- a signature as it is read, or the fault of a malformed one
abbrev pub read_shown : Result SigView BodyFault → Result SignatureValue BodyFault
read_shown (Ok view) = Ok (sig_view_value view)
read_shown (Err fault) = Err fault

-- the place of the signature of this number: it is in no certificate
abbrev pub signature_place : ℕ → Place
signature_place n = record { certificate = none; component = None; hang = n; nested = None }

-- ---- of a signature
-- it is over text (5.2.1.2)
abbrev pub is_over_text : SignatureValue → Bool
is_over_text v = kind_in v == 1

-- What is said of a document's answer for it. Of a cleartext message only signatures over text have
-- a digest (7.1): programs disagree on what others hash there.
abbrev pub document_answer : Bool → SignatureValue → Answer → Answered
document_answer is_message v (Ok digest) =
    if is_message && not (is_over_text v) then why_answer (document.why_number Kind)
    else digest_answer v digest
document_answer is_message v (Err why) = why_answer (document.why_number why)

module _ (is_message : Bool) (prints : List Fingerprint) where
  abbrev pub document_row : ℕ → ℕ → Result SignatureValue BodyFault → Answer → JobRow
  document_row n at (Ok v) answer =
      signature_row prints (signature_place n) at v (document_answer is_message v answer)
  document_row n at (Err fault) answer = opaque_row (signature_place n) at

-- what its algorithm made, and its issuer's name
abbrev pub made_read : Result SignatureValue BodyFault → List ℕ
made_read read = flat_map (λ o. o) (parts_read read)

abbrev pub made_octets : List ℕ → List ℕ
made_octets body = made_read (signature_at body)

-- ---- the table of the signatures with these bodies
-- from this number on, whose octets begin here
abbrev pub document_jobs_from : Bool → List Fingerprint → ℕ → ℕ → List (List ℕ) → List Answer
    → List JobRow
document_jobs_from is_message prints n at [] answers = []
document_jobs_from is_message prints n at (body ∷ bodies) [] = []
document_jobs_from is_message prints n at (body ∷ bodies) (answer ∷ answers) =
    document_row is_message prints n at (signature_at body) answer
    ∷ document_jobs_from is_message prints (n + 1) (at + length (made_octets body)) bodies answers

-- their issuers' keys are named by their rows in the keyring's table of keys
abbrev pub document_job_rows : Bool → KeyringValue → List (List ℕ) → List Answer → List JobRow
document_job_rows is_message r bodies answers =
    document_jobs_from is_message (prints_in r) 0 0 bodies answers

abbrev pub document_job_bytes : List (List ℕ) → List ℕ
document_job_bytes bodies = flat_map made_octets bodies

-- ---- the table of their subpackets
abbrev pub document_subs : List ℕ → List Sub
document_subs body = subs_read (signature_at body)

abbrev pub sub_octets : List ℕ → List ℕ
sub_octets body = octets_read (signature_at body)

abbrev pub document_subpackets_from : ℕ → ℕ → List (List ℕ) → List SubpacketRow
document_subpackets_from n at [] = []
document_subpackets_from n at (body ∷ bodies) =
    rows_read (signature_place n) at (signature_at body)
    ++ document_subpackets_from (n + 1) (at + length (sub_octets body)) bodies

abbrev pub document_subpacket_rows : List (List ℕ) → List SubpacketRow
document_subpacket_rows bodies = document_subpackets_from 0 0 bodies

abbrev pub document_subpacket_bytes : List (List ℕ) → List ℕ
document_subpacket_bytes bodies = flat_map sub_octets bodies
