-- What is made of detached signatures (RFC 9580, 10.4), and of the document that they are over.
use Rattle.std.specs.Prelude.{◌≡◌, ℕ, ◌+◌, ◌<◌, ◌≤◌, ◌⊎◌, List, [], ◌∷◌, ◌++◌, length, map, codes}
use Rattle.std.specs.Prelude.{Option, Some, None, Result, Ok, Err}
use Rattle.std.specs.Fmt.{decimal}
use Rattle.std.specs.List.{AllZip, slice_get}
use Rattle.opgp_octets.specs.Limits.{input_limit}
use Rattle.opgp_octets.specs.declared.fault.BodyFault.{BodyFault}
use Rattle.opgp_octets.specs.declared.limits.Limits.{Limits}
use Rattle.opgp_frame.specs.Packet.{PacketValue}
use Rattle.opgp_packet.specs.SignatureBody.{SignatureValue, signature_at}
use Rattle.opgp_packet.specs.SigView.{sig_view_value}
use Rattle.opgp_packet.specs.declared.sig_view.SigView.{SigView}
use Rattle.opgp_hash.specs.Digest.{digest_octets}
use Rattle.opgp_hash.specs.SignedValue.{SignedValue, signed_of}
use Rattle.opgp_hash.specs.declared.digests.Digest.{Digest}
use Rattle.opgp_document.specs.Answer.{IsAnswer}
use Rattle.opgp_document.specs.DocumentWhy.{why_text}
use Rattle.opgp_document.specs.OwnOctets.{closing}
use Rattle.opgp_document.specs.SignedDocument.{AreAnswers}
use Rattle.opgp_document.specs.declared.document_why.DocumentWhy.{DocumentWhy}
use Rattle.opgp_document.specs.declared.signed_document.DocumentAnswers.{DocumentAnswers}
use Rattle.opgp_report.specs.Left.{left_in, left_verdict}
use Rattle.opgp_report.specs.RowValue.{asked_with}
use Rattle.opgp_report.specs.Signer.{NameValue, by_print, by_id, unnamed, issuer_of}
use Rattle.opgp_keyring.specs.Signed.{signature_bodies}
use Rattle.opgp_codec.specs.Reading.{AnswerOf, Outcome, too_long}
use Rattle.opgp_codec.specs.Signatures.{AreDetachedSignatures, signature_label}
use Rattle.opgp_codec.specs.declared.mode.Mode.{Mode}
use Rattle.opgp_state.specs.Report.{finding_words, joined}
use Rattle.opgp_stack.specs.Running.{Made, Text, Refused, NoSuchRow, on_value}
use Rattle.opgp_stack.specs.declared.around.Around.{Around}
use Rattle.opgp_stack.specs.declared.around.Around.TheVariants.{Front, Behind}

-- what is made of the packets of detached signatures
abbrev pub OfSignatures : (List PacketValue → Made) → Mode → Limits → List ℕ → Made → Type 0
OfSignatures make mode limits octets made = (answer : Outcome (List PacketValue))
    × AnswerOf signature_label (AreDetachedSignatures limits) mode limits octets answer
    × (made ≡ on_value make answer)

-- ---- what a signature hashes of itself (5.2.4)
-- the fields that it hashes, in versions 4 and 6; a malformed one has none
abbrev pub signed_read : Result SignatureValue BodyFault → Option SignedValue
signed_read (Ok v) = signed_of v
signed_read (Err fault) = None

abbrev pub signed_in : List ℕ → Option SignedValue
signed_in body = signed_read (signature_at body)

-- in front of the document its salt, and behind it its fields and the trailer
abbrev pub around_octets : Around → SignedValue → List ℕ
around_octets Front s = s.salt
around_octets Behind s = closing s

abbrev pub around_made : Around → Option (Option SignedValue) → Made
around_made part (Some (Some s)) = Text (around_octets part s)
around_made part (Some None) = NoSuchRow
around_made part None = NoSuchRow

-- those of the signature of this number
abbrev pub around_of : Around → ℕ → List PacketValue → Made
around_of part row ps = around_made part (slice_get (map signed_in (signature_bodies ps)) row)

-- ---- its digest of a document
-- a signature as it is read, or the fault of a malformed one
abbrev pub read_shown : Result SigView BodyFault → Result SignatureValue BodyFault
read_shown (Ok view) = Ok (sig_view_value view)
read_shown (Err fault) = Err fault

abbrev pub Answer : Type 0
Answer = Result Digest DocumentWhy

-- the fingerprint or the key ID by which it names its issuer
abbrev pub named_octets : NameValue → Option (List ℕ)
named_octets (by_print version octets) = Some octets
named_octets (by_id id) = Some id
named_octets unnamed = None

-- as in a report, but that the signer is the one that it names
abbrev pub hashed_words : SignatureValue → Option SignedValue → Digest → List (List ℕ)
hashed_words v (Some s) digest = finding_words (asked_with s.kind s.hash
    (named_octets (issuer_of v)) digest (left_verdict (left_in v) (digest_octets digest)))
hashed_words v None digest = []

abbrev pub answer_words : Result SignatureValue BodyFault → Answer → List (List ℕ)
answer_words read (Err why) = codes " : none " ∷ why_text why ∷ []
answer_words (Ok v) (Ok digest) = hashed_words v (signed_of v) digest
answer_words (Err fault) (Ok digest) = []

-- the line of the signature of this number, with these words behind it
abbrev pub words_text : ℕ → List (List ℕ) → List ℕ
words_text n words = joined (codes "signature " ∷ decimal n ∷ words)

abbrev pub words_line : ℕ → List (List ℕ) → List ℕ
words_line n words = words_text n words ++ codes "\n"

-- `signature <n> : none <why>`, or `signature <n> : asked type <T> hash <n> signer <fingerprint,
-- key ID or -> digest <its first two octets> verdict <bad or undecided>`
abbrev pub digest_line : ℕ → Result SignatureValue BodyFault → Answer → List ℕ
digest_line n read answer = words_line n (answer_words read answer)

-- of signatures, numbered from here
abbrev pub digest_lines : ℕ → List (Result SignatureValue BodyFault) → List Answer → List ℕ
digest_lines n [] answers = []
digest_lines n (read ∷ reads) [] = []
digest_lines n (read ∷ reads) (answer ∷ answers) =
    digest_line n read answer ++ digest_lines (n + 1) reads answers

-- what is answered for each signature, by its body, over this document
abbrev pub AreAnswered : List (List ℕ) → List ℕ → List Answer → Type 0
AreAnswered bodies document answers =
    AllZip (λ answer signature. IsAnswer signature document answer) answers (map signed_in bodies)

-- the answers for these signatures over this document; or it is too long
abbrev pub AnswersTo : Limits → List (Option SignedValue) → List ℕ → Outcome DocumentAnswers
    → Type 0
AnswersTo limits signatures document (Ok answers) =
    (length document ≤ input_limit limits) × AreAnswers answers signatures document
AnswersTo limits signatures document (Err fault) =
    (input_limit limits < length document) × (fault ≡ too_long limits)

-- the lines of a document's digests, unless it is too long
abbrev pub OfDocument : Limits → List (List ℕ) → List ℕ → Made → Type 0
OfDocument limits bodies document made =
    ((length document ≤ input_limit limits) × (answers : List Answer)
    × AreAnswered bodies document answers
    × (made ≡ Text (digest_lines 0 (map signature_at bodies) answers)))
    ⊎ ((input_limit limits < length document) × (made ≡ Refused (too_long limits)))
