-- What the calls say that read signatures over a document, and take the document in pieces.
use Rattle.std.specs.Prelude.{◌≡◌, ◌≢◌, ◌<◌, ◌↔◌, ◌⊎◌, ◌==◌, if◌then◌else◌, ℕ, List, []}
use Rattle.std.specs.Prelude.{length, map, Bool, true, false, Option, Some, None, Result, Ok, Err}
use Rattle.std.specs.List.{AllZip}
use Rattle.opgp_octets.specs.declared.fault.BodyFault.{BodyFault}
use Rattle.opgp_octets.specs.declared.limits.Limits.{Limits}
use Rattle.opgp_frame.specs.Packet.{PacketValue}
use Rattle.opgp_packet.specs.SignatureBody.{SignatureValue, signature_at}
use Rattle.opgp_hash.specs.SignedValue.{SignedValue, signed_of}
use Rattle.opgp_document.specs.Answer.{IsAnswer}
use Rattle.opgp_document.specs.OwnOctets.{closing}
use Rattle.opgp_document.specs.SignedDocument.{AreAnswers, IsSignedBy}
use Rattle.opgp_keyring.specs.DetachedSignatures.{detached_packets}
use Rattle.opgp_keyring.specs.Keyring.{KeyringValue}
use Rattle.opgp_keyring.specs.Signed.{signature_bodies}
use Rattle.opgp_codec.specs.Reading.{AnswerOf, Outcome}
use Rattle.opgp_codec.specs.Signatures.{AreDetachedSignatures, signature_label}
use Rattle.opgp_codec.specs.declared.mode.Mode.{Mode}
use Rattle.opgp_tables.specs.DocumentJobs.{Answer, document_job_bytes, document_job_rows}
use Rattle.opgp_tables.specs.GivenLimits.{AreThese}
use Rattle.opgp_tables.specs.declared.given_limits.GivenLimits.{GivenLimits}
use Rattle.opgp_tables.specs.declared.job_row.JobRow.{JobRow}
use Rattle.opgp_handles.specs.Calls.{HoldsTheSame, IsFilled, IsShort, AreSized}
use Rattle.opgp_handles.specs.declared.document.Document.{Document}
use Rattle.opgp_handles.specs.declared.ring.Ring.{Ring}
use Rattle.opgp_handles.specs.declared.sizes.Sizes.{Sizes}
use Rattle.opgp_handles.specs.declared.slot.Signed.{Signed}
use Rattle.opgp_handles.specs.declared.slot.Signed.TheVariants.{Going, Ended, Message, Lost}

-- this is the answer to an input of detached signatures that is read by a mode, within the given
-- limits: their packets, or a fault (RFC 9580, 10.4)
abbrev pub SignaturesBy : Mode → GivenLimits → List ℕ → Outcome (List PacketValue) → Type 0
SignaturesBy mode given input answer = (l : Limits) × AreThese l given
    × AnswerOf signature_label (AreDetachedSignatures l) mode l input answer

-- ---- the signatures
-- the fields that a signature hashes, by how its body is read; a malformed one has none
abbrev pub signed_read : Result SignatureValue BodyFault → Option SignedValue
signed_read (Ok v) = signed_of v
signed_read (Err fault) = None

abbrev pub signed_at : List ℕ → Option SignedValue
signed_at body = signed_read (signature_at body)

-- those of signatures with these bodies
abbrev pub signed_in : List (List ℕ) → List (Option SignedValue)
signed_in bodies = map signed_at bodies

-- the packets of the signatures that are held
abbrev pub packets_in : Signed → List PacketValue
packets_in (Going signatures document) = detached_packets signatures
packets_in (Ended signatures answers) = detached_packets signatures
packets_in (Message signatures answers) = detached_packets signatures
packets_in Lost = []

-- their bodies, in order
abbrev pub bodies_in : Signed → List (List ℕ)
bodies_in held = signature_bodies (packets_in held)

-- ---- the document
-- it is that of a cleartext message (7), which has ended
abbrev pub is_message : Signed → Bool
is_message (Going signatures document) = false
is_message (Ended signatures answers) = false
is_message (Message signatures answers) = true
is_message Lost = false

-- these octets of it were given, and more may come
abbrev pub IsGoing : List ℕ → Signed → Type 0
IsGoing given (Going signatures document) =
    IsSignedBy document (signed_in (signature_bodies (detached_packets signatures))) given
IsGoing given (Ended signatures answers) = ⊥
IsGoing given (Message signatures answers) = ⊥
IsGoing given Lost = ⊥

-- these octets are the document, which has ended
abbrev pub IsEnded : List ℕ → Signed → Type 0
IsEnded given (Going signatures document) = ⊥
IsEnded given (Ended signatures answers) =
    AreAnswers answers (signed_in (signature_bodies (detached_packets signatures))) given
IsEnded given (Message signatures answers) =
    AreAnswers answers (signed_in (signature_bodies (detached_packets signatures))) given
IsEnded given Lost = ⊥

-- these octets of it were given, whether or not it has ended
abbrev pub IsGiven : List ℕ → Signed → Type 0
IsGiven given (Going signatures document) =
    IsSignedBy document (signed_in (signature_bodies (detached_packets signatures))) given
IsGiven given (Ended signatures answers) =
    AreAnswers answers (signed_in (signature_bodies (detached_packets signatures))) given
IsGiven given (Message signatures answers) =
    AreAnswers answers (signed_in (signature_bodies (detached_packets signatures))) given
IsGiven given Lost = ⊥

-- the handle, if it is open, was given these octets of a document
abbrev pub WasGiven : List ℕ → Document → Type 0
WasGiven given document = document.is_open ≡ true → IsGiven given document.slot.held

-- the handle holds what it held
abbrev pub KeepsItsOwn : Document → Document → Type 0
KeepsItsOwn before after = (after.is_open ≡ before.is_open)
    × (before.is_open ≡ true → after.slot.held ≡ before.slot.held)

-- ---- what is answered
-- the digest of what each signature hashes over the document, or why there is none
abbrev pub AreAnswered : List ℕ → List (List ℕ) → List Answer → Type 0
AreAnswered document bodies answers =
    AllZip (λ answer signature. IsAnswer signature document answer) answers (signed_in bodies)

-- The tables are filled with the signatures that have these bodies, over this document, which may
-- be that of a cleartext message; their issuers' keys are named by their rows in the keyring's
-- table of keys.
pub record FillsJobs (document : List ℕ) (of_message : Bool) (bodies : List (List ℕ))
    (keyring : KeyringValue) (rows rows' : List JobRow) (bytes bytes' : List ℕ) : Type 0 where
  pub answers : List Answer
  pub are : AreAnswered document bodies answers
  pub rows_filled : IsFilled (document_job_rows of_message keyring bodies answers) rows rows'
  pub bytes_filled : IsFilled (document_job_bytes bodies) bytes bytes'

-- A call puts two tables of the signatures that a handle holds, over the document that it was given
-- (0); or they are as they were, and too short (2), or memory ran out (3), or a handle holds
-- nothing (5), or the document hasn't ended (9). The sizes say what is wanted.
pub record PutsJobs (given : List ℕ) (document document' : Document) (ring ring' : Ring)
    (rows rows' : List JobRow) (bytes bytes' : List ℕ) (sizes : Sizes) (status : ℕ) : Type 0 where
  pub done : status ≡ 0 → FillsJobs given (is_message document.slot.held)
      (bodies_in document.slot.held) ring.slot.held.keyring rows rows' bytes bytes'
  pub ended : (status ≡ 0) ⊎ (status ≡ 2) → IsEnded given document.slot.held
  pub room : status ≡ 2 → (length rows < length (bodies_in document.slot.held))
      ⊎ (length bytes < length (document_job_bytes (bodies_in document.slot.held)))
  pub kept : status ≢ 0 → (rows' ≡ rows) × (bytes' ≡ bytes)
  pub sized : (status ≡ 0) ⊎ (status ≡ 2) → (sizes.rows ≡ length (bodies_in document.slot.held))
      × (sizes.bytes ≡ length (document_job_bytes (bodies_in document.slot.held)))
  pub going : status ≡ 9 → IsGoing given document.slot.held
  pub before : document.is_open ≡ true → ring.is_open ≡ true → IsGoing given document.slot.held
      → status ≡ 9
  pub closed : (status ≡ 5) ↔ ((document.is_open ≡ false) ⊎ (ring.is_open ≡ false))
  pub holds : KeepsItsOwn document document'
  pub holds_ring : HoldsTheSame ring ring'
  pub one_of : (status ≡ 0) ⊎ ((status ≡ 2) ⊎ ((status ≡ 3) ⊎ ((status ≡ 5) ⊎ (status ≡ 9))))

-- A call puts two tables of the signatures that a handle holds, as of a keyring (`PutsTables`).
pub record PutsSigned {A : Type 0} (rows_of : List (List ℕ) → List A)
    (bytes_of : List (List ℕ) → List ℕ) (document document' : Document) (rows rows' : List A)
    (bytes bytes' : List ℕ) (sizes : Sizes) (status : ℕ) : Type 0 where
  pub done : status ≡ 0 → IsFilled (rows_of (bodies_in document.slot.held)) rows rows'
      × IsFilled (bytes_of (bodies_in document.slot.held)) bytes bytes'
  pub room : status ≡ 2 → IsShort (rows_of (bodies_in document.slot.held))
      (bytes_of (bodies_in document.slot.held)) rows bytes
  pub kept : status ≢ 0 → (rows' ≡ rows) × (bytes' ≡ bytes)
  pub sized : (status ≡ 0) ⊎ (status ≡ 2) → AreSized (rows_of (bodies_in document.slot.held))
      (bytes_of (bodies_in document.slot.held)) sizes
  pub closed : (status ≡ 5) ↔ (document.is_open ≡ false)
  pub holds : KeepsItsOwn document document'
  pub one_of : (status ≡ 0) ⊎ ((status ≡ 2) ⊎ ((status ≡ 3) ⊎ (status ≡ 5)))

-- ---- for who hashes elsewhere (5.2.4)
-- what a signature hashes in front of the document, its salt, or behind it
abbrev pub side_of : ℕ → SignedValue → List ℕ
side_of behind s = if behind == 0 then s.salt else closing s

-- the fields that the signature of a row hashes, if there is one that hashes some
abbrev pub signed_by : Option (Option SignedValue) → Option SignedValue
signed_by (Some s) = s
signed_by None = None
