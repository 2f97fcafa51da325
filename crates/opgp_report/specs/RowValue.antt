-- The rows of a report, and the jobs of a verifier, by the contents of what they borrow.
use Rattle.std.specs.Prelude.{ℕ, List, Option}
use Rattle.opgp_packet.specs.SignatureBody.{SignatureValue}
use Rattle.opgp_hash.specs.declared.digests.Digest.{Digest}
use Rattle.opgp_hash.specs.declared.why.Why.{Why}
use Rattle.opgp_report.specs.declared.place.Place.{Place}
use Rattle.opgp_report.specs.declared.verifier.Verdict.{Verdict}

-- a signature, the digest of its question, and the body of the key that it names
pub record JobValue : Type 0 where
  pub signature : SignatureValue
  pub digest : Digest
  pub signer : Option (List ℕ)

-- what is found of a signature: why it isn't hashed; or its type, its hash algorithm, the key ID of
-- the key that it names, the digest, and the verdict
pub data FindingValue : Type 0 where
  not_asked : Why → FindingValue
  asked_with : ℕ → ℕ → Option (List ℕ) → Digest → Verdict → FindingValue

pub record RowValue : Type 0 where
  pub place : Place
  pub finding : FindingValue
