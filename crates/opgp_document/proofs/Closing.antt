-- The digest of a document, by its algorithm.
use Rattle.std.proofs.Common.{◌≡◌, ◌==◌, ℕ, true, List, ◌++◌, refl, sym, ap, subst, ◌∙◌, eqb-true}
use Rattle.opgp_hash.specs.Digest.{digest_under}
use Rattle.opgp_hash.specs.SignedValue.{SignedValue}
use Rattle.opgp_hash.specs.declared.digests.Digest.{Digest}
use Rattle.opgp_document.specs.HashedDocument.{HashesDocument, IsDocumentKind, IsHashedAs}
use Rattle.opgp_document.specs.OwnOctets.{closing}
use Rattle.opgp_document.specs.SignatureHasher.{IsOver, RunsAs}
use Rattle.opgp_document.specs.Text.{HasText}
use Rattle.opgp_document.specs.declared.signature_hasher.AlgorithmHasher.{AlgorithmHasher}
use Rattle.opgp_document.specs.declared.signature_hasher.SignatureHasher.{SignatureHasher}

-- the digest under the algorithm of number n, which make and hash are
pub found : (make : List ℕ → Digest) (hash : List ℕ → List ℕ) (n : ℕ) → ((m : List ℕ) → digest_under n m ≡ make (hash m))
    → (s : SignedValue) (behind document shown digest : List ℕ) → s.hash ≡ n → behind ≡ closing s → IsDocumentKind s.kind
    → IsHashedAs (s.kind == 1) document shown → digest ≡ hash ((s.salt ++ shown) ++ behind)
    → (octets : List ℕ) × HashesDocument s document octets × (make digest ≡ digest_under s.hash octets)
found make hash n under s behind document shown digest number is kind shows made = (
  (s.salt ++ shown) ++ closing s,
  record { kind = kind; shown = shown; is_shown = shows; whole = refl },
  ap make (made ∙ ap (λ (o : List ℕ). hash ((s.salt ++ shown) ++ o)) is)
      ∙ sym (under ((s.salt ++ shown) ++ closing s)) ∙ ap (λ (k : ℕ). digest_under k ((s.salt ++ shown) ++ closing s)) (sym number),
)

-- the hasher that runs
pub runs_so : (h : SignatureHasher) (r : AlgorithmHasher) (s : SignedValue) (document : List ℕ) → h.running ≡ r → IsOver h s document
    → RunsAs r s.hash (s.kind == 1) s.salt document
runs_so h r s document e o = subst (λ (x : AlgorithmHasher). RunsAs x s.hash (s.kind == 1) s.salt document) e o.runs

pub text_wanted : (kind : ℕ) (document : List ℕ) → ((kind == 1) ≡ true) × ((text : List ℕ) → HasText document text → ⊥)
    → (kind ≡ 1) × ((text : List ℕ) → HasText document text → ⊥)
text_wanted kind document h = (eqb-true kind 1 h.0, h.1)
