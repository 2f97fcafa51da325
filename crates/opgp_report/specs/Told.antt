-- The part of a row that doesn't depend on the verifier.
use Rattle.std.specs.Prelude.{ℕ, Result, Ok, Err}
use Rattle.opgp_hash.specs.declared.digests.Digest.{Digest}
use Rattle.opgp_hash.specs.declared.why.Why.{Why}
use Rattle.opgp_hash.specs.Digest.{digest_of}
use Rattle.opgp_report.specs.Asked.{Asked}
use Rattle.opgp_report.specs.RowValue.{FindingValue, RowValue, not_asked, asked_with}

-- the signature's type, its hash algorithm and the digest; or why it isn't hashed
abbrev pub Told : Type 0
Told = Result (ℕ × ℕ × Digest) Why

abbrev pub finding_told : FindingValue → Told
finding_told (not_asked why) = Err why
finding_told (asked_with kind hash signer digest verdict) = Ok (kind, hash, digest)

abbrev pub row_told : RowValue → Told
row_told row = finding_told row.finding

abbrev pub asked_told : Asked → Told
asked_told (Err why) = Err why
asked_told (Ok q) = Ok (q.kind, q.hash, digest_of q)
