-- The digest of a question under its hash algorithm (RFC 9580, 9.5).
use Rattle.std.specs.Prelude.{ℕ, List, ◌==◌, if◌then◌else◌}
use Rattle.sha1.specs.Sha1.{sha1}
use Rattle.sha2.specs.Sha256.{sha224, sha256}
use Rattle.sha2.specs.Sha512.{sha384, sha512}
use Rattle.opgp_hash.specs.Hashed.{hashed}
use Rattle.opgp_hash.specs.QuestionValue.{QuestionValue}
use Rattle.opgp_hash.specs.declared.digests.Digest.{Digest}
use Rattle.opgp_hash.specs.declared.digests.Digest.TheVariants as digest

-- 2 is SHA-1, 8 SHA2-256, 9 SHA2-384, 10 SHA2-512, 11 SHA2-224; questions have no others
abbrev pub digest_under : ℕ → List ℕ → Digest
digest_under hash m =
    if hash == 2 then digest.Sha1 (sha1 m)
    else (if hash == 8 then digest.Sha256 (sha256 m)
    else (if hash == 9 then digest.Sha384 (sha384 m)
    else (if hash == 10 then digest.Sha512 (sha512 m)
    else digest.Sha224 (sha224 m))))

-- the digest of a question: its hash algorithm over its hashed octets
abbrev pub digest_of : QuestionValue → Digest
digest_of q = digest_under q.hash (hashed q)

-- the octets of a digest, and how many they are
abbrev pub digest_octets : Digest → List ℕ
digest_octets (digest.Sha1 octets) = octets
digest_octets (digest.Sha256 octets) = octets
digest_octets (digest.Sha384 octets) = octets
digest_octets (digest.Sha512 octets) = octets
digest_octets (digest.Sha224 octets) = octets

abbrev pub digest_size : Digest → ℕ
digest_size (digest.Sha1 octets) = 20
digest_size (digest.Sha256 octets) = 32
digest_size (digest.Sha384 octets) = 48
digest_size (digest.Sha512 octets) = 64
digest_size (digest.Sha224 octets) = 28
