-- What the hasher of a signature over a document was given.
use Rattle.std.specs.Prelude.{◌≡◌, ℕ, ◌==◌, Bool, true, false, List, []}
use Rattle.std.specs.declared.option.Option.{Option}
use Rattle.std.specs.declared.option.Option.TheVariants.{None, Some}
use Rattle.sha2.specs.Hashers.{Holds224, Holds256, Holds384, Holds512}
use Rattle.opgp_document.specs.DocumentHasher.{IsGiven}
use Rattle.opgp_document.specs.HashedDocument.{IsDocumentKind}
use Rattle.opgp_document.specs.OwnOctets.{closing}
use Rattle.opgp_hash.specs.Hasher.{HoldsSha1}
use Rattle.opgp_hash.specs.QuestionValue.{is_hash}
use Rattle.opgp_hash.specs.SignedValue.{SignedValue}
use Rattle.opgp_document.specs.declared.signature_hasher.AlgorithmHasher.{AlgorithmHasher}
use Rattle.opgp_document.specs.declared.signature_hasher.AlgorithmHasher.TheVariants as running
use Rattle.opgp_document.specs.declared.signature_hasher.SignatureHasher.{SignatureHasher}

-- a hasher runs by the algorithm of this number (RFC 9580, 9.5)
abbrev pub RunsAs : AlgorithmHasher → ℕ → Bool → List ℕ → List ℕ → Type 0
RunsAs (running.Sha1 h) hash is_text front document =
    (hash ≡ 2) × IsGiven HoldsSha1 h is_text front document
RunsAs (running.Sha224 h) hash is_text front document =
    (hash ≡ 11) × IsGiven Holds224 h is_text front document
RunsAs (running.Sha256 h) hash is_text front document =
    (hash ≡ 8) × IsGiven Holds256 h is_text front document
RunsAs (running.Sha384 h) hash is_text front document =
    (hash ≡ 9) × IsGiven Holds384 h is_text front document
RunsAs (running.Sha512 h) hash is_text front document =
    (hash ≡ 10) × IsGiven Holds512 h is_text front document

-- The hasher of this signature was given these octets of a document.
pub record IsOver (h : SignatureHasher) (s : SignedValue) (document : List ℕ) : Type 0 where
  pub algorithm : h.hash ≡ s.hash
  pub of_kind : h.kind ≡ s.kind
  pub unsalted : h.is_salted ≡ false → s.salt ≡ []
  pub own : h.behind.items ≡ closing s
  pub kind : IsDocumentKind s.kind
  pub supported : is_hash s.version s.hash ≡ true
  pub runs : RunsAs h.running s.hash (s.kind == 1) s.salt document

-- it is one of a signature, and was given nothing
abbrev pub Opens : Option SignedValue → SignatureHasher → Type 0
Opens None h = ⊥
Opens (Some s) h = IsOver h s []
