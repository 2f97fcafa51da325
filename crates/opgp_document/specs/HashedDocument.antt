-- What a signature over a document hashes (RFC 9580, 5.2.4).
use Rattle.std.specs.Prelude.{◌≡◌, ◌≤◌, ℕ, ◌==◌, ◌⊎◌, Bool, true, false, List, ◌++◌, length}
use Rattle.opgp_document.specs.OwnOctets.{closing}
use Rattle.opgp_document.specs.Text.{HasText}
use Rattle.opgp_hash.specs.QuestionValue.{QuestionValue, area_most, is_version, salt_amount}
use Rattle.opgp_hash.specs.SignedValue.{SignedValue}
use Rattle.opgp_hash.specs.SubjectValue.{binary}

-- 00 is a document as it is, 01 canonical text (5.2.1.1, 5.2.1.2)
abbrev pub IsDocumentKind : ℕ → Type 0
IsDocumentKind kind = (kind ≡ 0) ⊎ (kind ≡ 1)

-- what is hashed of a document: its canonical text, or its octets as they are
abbrev pub IsHashedAs : Bool → List ℕ → List ℕ → Type 0
IsHashedAs true document shown = HasText document shown
IsHashedAs false document shown = shown ≡ document

-- The octets that a signature over a document hashes (5.2.4): in version 6 the salt; the document,
-- or its canonical text; the signature's own fields and the trailer.
pub record HashesDocument (s : SignedValue) (document octets : List ℕ) : Type 0 where
  pub kind : IsDocumentKind s.kind
  pub shown : List ℕ
  pub is_shown : IsHashedAs (s.kind == 1) document shown
  pub whole : octets ≡ s.salt ++ shown ++ closing s

-- the fields of a signature are within their bounds (5.2.3): its version, its salt's size, and its
-- hashed area's
pub record IsWithin (s : SignedValue) : Type 0 where
  pub version : is_version s.version ≡ true
  pub salt : length s.salt ≡ salt_amount s.version s.hash
  pub area : length s.area ≤ area_most s.version

-- the question that a signature of type 00 asks of a document in memory
abbrev pub question_of : SignedValue → List ℕ → QuestionValue
question_of s document = record {
  version = s.version;
  salt = s.salt;
  subject = binary document;
  kind = s.kind;
  algorithm = s.algorithm;
  hash = s.hash;
  area = s.area;
}
