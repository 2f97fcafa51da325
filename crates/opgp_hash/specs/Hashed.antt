-- The octets that a signature hashes (RFC 9580, 5.2.4; each part has the standard's rule beside
-- it).
use Rattle.std.specs.Prelude.{ℕ, List, [], ◌∷◌, ◌++◌, length, ◌==◌, if◌then◌else◌}
use Rattle.std.specs.Int.{w16, w32, to_be_bytes}
use Rattle.opgp_hash.specs.Fingerprint.{four_hashed, six_hashed}
use Rattle.opgp_hash.specs.QuestionValue.{QuestionValue}
use Rattle.opgp_hash.specs.SubjectValue.{SubjectValue, binary, one, two, on_user_id, on_attribute}

-- A key hashes the body of its packet: in version 4 after the octet 99 and two octets of length, in
-- version 6 after 9B and four octets of length.
abbrev pub key_hashed : ℕ → List ℕ → List ℕ
key_hashed version body = if version == 4 then four_hashed body else six_hashed body

-- A user ID hashes the octet B4 and a user attribute the octet D1, then four octets of length, then
-- the body.
abbrev pub id_hashed : List ℕ → List ℕ
id_hashed id = (0xB4 ∷ to_be_bytes w32 (length id)) ++ id

abbrev pub attribute_hashed : List ℕ → List ℕ
attribute_hashed body = (0xD1 ∷ to_be_bytes w32 (length body)) ++ body

-- The signed data, with keys of this version: a document hashes its octets as they are; a direct
-- key signature and a key revocation hash the key; a subkey binding, a primary key binding and a
-- subkey revocation hash the primary key and then the subkey; a certification and its revocation
-- hash the primary key and then the user ID or user attribute.
abbrev pub subject_hashed : ℕ → SubjectValue → List ℕ
subject_hashed version (binary content) = content
subject_hashed version (one key) = key_hashed version key
subject_hashed version (two primary subkey) =
    key_hashed version primary ++ key_hashed version subkey
subject_hashed version (on_user_id primary id) = key_hashed version primary ++ id_hashed id
subject_hashed version (on_attribute primary body) =
    key_hashed version primary ++ attribute_hashed body

-- The hashed area follows its length, of two octets in version 4 and of four in version 6 (5.2.3).
abbrev pub area_hashed : ℕ → List ℕ → List ℕ
area_hashed version area =
    if version == 4 then to_be_bytes w16 (length area) ++ area
    else to_be_bytes w32 (length area) ++ area

-- Then the signature's own body is hashed, from its version number to the end of the hashed area.
abbrev pub front_hashed : QuestionValue → List ℕ
front_hashed q =
    (q.version ∷ q.kind ∷ q.algorithm ∷ q.hash ∷ []) ++ area_hashed q.version q.area

-- Then a trailer of six octets: the version again, FF, and the length of that part of the body in
-- four octets.
abbrev pub trailer_hashed : ℕ → ℕ → List ℕ
trailer_hashed version n = version ∷ 0xFF ∷ to_be_bytes w32 n

-- In version 6 the salt is hashed before everything else.
abbrev pub hashed : QuestionValue → List ℕ
hashed q =
    q.salt ++ subject_hashed q.version q.subject ++ front_hashed q
    ++ trailer_hashed q.version (length (front_hashed q))
