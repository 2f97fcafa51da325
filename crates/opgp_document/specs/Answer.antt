-- What is answered for a signature over a document: a digest, or why there is none.
use Rattle.std.specs.Prelude.{◌≡◌, ℕ, List, true, false}
use Rattle.std.specs.List.{slice_get}
use Rattle.std.specs.declared.option.Option.{Option}
use Rattle.std.specs.declared.option.Option.TheVariants.{None, Some}
use Rattle.std.specs.declared.result.Result.{Result}
use Rattle.std.specs.declared.result.Result.TheVariants.{Ok, Err}
use Rattle.opgp_hash.specs.Digest.{digest_under}
use Rattle.opgp_hash.specs.declared.digests.Digest.{Digest}
use Rattle.opgp_hash.specs.QuestionValue.{is_hash}
use Rattle.opgp_hash.specs.SignedValue.{SignedValue, signed_of}
use Rattle.opgp_octets.specs.declared.fault.BodyFault.{BodyFault}
use Rattle.opgp_packet.specs.SigView.{sig_view_value}
use Rattle.opgp_packet.specs.declared.sig_view.SigView.{SigView}
use Rattle.opgp_document.specs.HashedDocument.{HashesDocument, IsDocumentKind}
use Rattle.opgp_document.specs.Text.{HasText}
use Rattle.opgp_document.specs.declared.document_why.DocumentWhy.{DocumentWhy}
use Rattle.opgp_document.specs.declared.document_why.DocumentWhy.TheVariants.{Opaque, Kind}
use Rattle.opgp_document.specs.declared.document_why.DocumentWhy.TheVariants.{Hash, LineEnds}

-- the fields that a signature hashes, in versions 4 and 6 (RFC 9580, 5.2.4); a malformed one has
-- none
abbrev pub asked_of : Result SigView BodyFault → Option SignedValue
asked_of (Ok signature) = signed_of (sig_view_value signature)
asked_of (Err fault) = None

-- The digest of what the signature hashes over the document, by its hash algorithm, which is
-- supported in its version.
pub record HasDigest (s : SignedValue) (document : List ℕ) (digest : Digest) : Type 0 where
  pub supported : is_hash s.version s.hash ≡ true
  pub octets : List ℕ
  pub hashes : HashesDocument s document octets
  pub made : digest ≡ digest_under s.hash octets

-- A signature over canonical text (5.2.1.2), of a document that has none.
pub record HasNoText (s : SignedValue) (document : List ℕ) : Type 0 where
  pub kind : s.kind ≡ 1
  pub supported : is_hash s.version s.hash ≡ true
  pub none : (text : List ℕ) → HasText document text → ⊥

-- the first reason, whatever the document is, why a signature has no digest of it
abbrev pub IsWhyNot : Option SignedValue → DocumentWhy → Type 0
IsWhyNot None Opaque = Unit {0}
IsWhyNot None Kind = ⊥
IsWhyNot None Hash = ⊥
IsWhyNot None LineEnds = ⊥
IsWhyNot (Some s) Opaque = ⊥
IsWhyNot (Some s) Kind = IsDocumentKind s.kind → ⊥
IsWhyNot (Some s) Hash = IsDocumentKind s.kind × (is_hash s.version s.hash ≡ false)
IsWhyNot (Some s) LineEnds = ⊥

-- the digest, or the first reason why there is none
abbrev pub IsAnswer : Option SignedValue → List ℕ → Result Digest DocumentWhy → Type 0
IsAnswer None document (Ok digest) = ⊥
IsAnswer (Some s) document (Ok digest) = HasDigest s document digest
IsAnswer signature document (Err Opaque) = IsWhyNot signature Opaque
IsAnswer signature document (Err Kind) = IsWhyNot signature Kind
IsAnswer signature document (Err Hash) = IsWhyNot signature Hash
IsAnswer None document (Err LineEnds) = ⊥
IsAnswer (Some s) document (Err LineEnds) = HasNoText s document

-- there is a signature of this index, and this is the answer for it
pub record IsAnswerAt (signatures : List (Option SignedValue)) (index : ℕ) (document : List ℕ)
    (answer : Result Digest DocumentWhy) : Type 0 where
  pub signature : Option SignedValue
  pub stands : slice_get signatures index ≡ Some signature
  pub answers : IsAnswer signature document answer
