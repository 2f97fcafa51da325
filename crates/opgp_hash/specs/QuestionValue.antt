-- The data that a signature hashes, and which data is allowed (RFC 9580, 5.2.3, 5.2.4, 9.5).
use Rattle.std.specs.Prelude.{◌≡◌, ℕ, ◌^◌, ◌<◌, ◌≤◌, Bool, true, ◌&&◌, ◌||◌, List, length, ◌==◌}
use Rattle.std.specs.Prelude.{if◌then◌else◌, unwrap_or}
use Rattle.opgp_octets.specs.HashAlgorithm.{hash_algorithm_of, salt_size}
use Rattle.opgp_octets.specs.Octets.{IsOctets}
use Rattle.opgp_hash.specs.SubjectValue.{SubjectValue, is_about, IsSubject}

-- a question: the version, the salt, the subject that the signature is made over, its type, its
-- algorithms for the key and for the hash, and the octets of its hashed area
pub record QuestionValue : Type 0 where
  pub version : ℕ
  pub salt : List ℕ
  pub subject : SubjectValue
  pub kind : ℕ
  pub algorithm : ℕ
  pub hash : ℕ
  pub area : List ℕ

abbrev pub is_version : ℕ → Bool
is_version version = (version == 4) || (version == 6)

-- the hash algorithms: SHA2-256, SHA2-384, SHA2-512, SHA2-224, and in version 4 SHA-1
abbrev pub is_hash : ℕ → ℕ → Bool
is_hash version hash =
    (hash == 8)
    || ((hash == 9) || ((hash == 10) || ((hash == 11) || ((hash == 2) && (version == 4)))))

-- how many octets the salt has: none in version 4, and in version 6 the hash algorithm's salt size
abbrev pub salt_amount : ℕ → ℕ → ℕ
salt_amount version hash =
    if version == 4 then 0 else unwrap_or (salt_size (hash_algorithm_of hash)) 0

-- how many octets a hashed area may have, so that its length, and that of the signature's hashed
-- part, fit their fields
abbrev pub area_most : ℕ → ℕ
area_most version = if version == 4 then 65535 else 4294967287

-- a question is allowed: its parts fit together, each is octets, and each length fits its field
pub record IsQuestion (q : QuestionValue) : Type 0 where
  pub version : is_version q.version ≡ true
  pub hash : is_hash q.version q.hash ≡ true
  pub salt : length q.salt ≡ salt_amount q.version q.hash
  pub salt_octets : IsOctets q.salt
  pub subject : IsSubject q.version q.subject
  pub kind : is_about q.kind q.subject ≡ true
  pub algorithm : q.algorithm < 2 ^ 8
  pub area : length q.area ≤ area_most q.version
  pub area_octets : IsOctets q.area
