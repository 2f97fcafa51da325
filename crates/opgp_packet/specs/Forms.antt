-- The forms of the data of a signature's subpackets.
use Rattle.std.specs.Prelude.{◌≡◌, ℕ, ◌+◌, ◌^◌, ◌<◌, ◌⊎◌, List, [], ◌∷◌, ◌++◌, length}
use Rattle.std.specs.Int.{w16, w32, to_be_bytes}
use Rattle.opgp_packet.specs.SignatureBody.{SignatureValue, Spells}

-- the forms
pub data Form : Type 0 where
  number octet two_octets ended_text octets revoker key_id notation code_and_text : Form
  target signature fingerprint pairs : Form

-- the fields of data of a form
abbrev pub Fields : Form → Type 0
Fields number = ℕ
Fields octet = ℕ
Fields two_octets = ℕ × ℕ
Fields ended_text = List ℕ
Fields octets = List ℕ
Fields revoker = ℕ × ℕ × List ℕ
Fields key_id = List ℕ
Fields notation = ℕ × List ℕ × List ℕ
Fields code_and_text = ℕ × List ℕ
Fields target = ℕ × ℕ × List ℕ
Fields signature = List ℕ
Fields fingerprint = ℕ × List ℕ
Fields pairs = List ℕ

-- a number of four octets
abbrev pub IsNumber : List ℕ → ℕ → Type 0
IsNumber o n = (n < 2 ^ 32) × (o ≡ to_be_bytes w32 n)

-- flags, the lengths of name and value, name and value (5.2.3.24)
abbrev pub IsNotation : List ℕ → ℕ → List ℕ → List ℕ → Type 0
IsNotation o flags name value =
    (flags < 2 ^ 32) × (length name < 2 ^ 16) × (length value < 2 ^ 16)
    × (o ≡ to_be_bytes w32 flags
    ++ (to_be_bytes w16 (length name) ++ (to_be_bytes w16 (length value) ++ (name ++ value))))

-- a version, and a fingerprint of its size (5.2.3.35)
abbrev pub IsNamed : List ℕ → ℕ → List ℕ → Type 0
IsNamed o version print =
    (o ≡ version ∷ print)
    × (((version ≡ 4) × (length print ≡ 20)) ⊎ ((version ≡ 6) × (length print ≡ 32)))

-- The data encodes these fields.
abbrev pub IsOf : (form : Form) → List ℕ → Fields form → Type 0
IsOf number o n = IsNumber o n
IsOf octet o n = o ≡ n ∷ []
IsOf two_octets o x = o ≡ x.0 ∷ x.1 ∷ []
IsOf ended_text o text = o ≡ text ++ 0 ∷ []
IsOf octets o x = o ≡ x
-- class, algorithm, fingerprint
IsOf revoker o x = (o ≡ x.0 ∷ x.1 ∷ x.2) × (length x.2 ≡ 20)
IsOf key_id o id = (o ≡ id) × (length id ≡ 8)
IsOf notation o x = IsNotation o x.0 x.1 x.2
IsOf code_and_text o x = o ≡ x.0 ∷ x.1
-- algorithm, hash algorithm, digest
IsOf target o x = o ≡ x.0 ∷ x.1 ∷ x.2
IsOf signature o body = (o ≡ body) × ((value : SignatureValue) × Spells value o)
IsOf fingerprint o x = IsNamed o x.0 x.1
IsOf pairs o x = (o ≡ x) × ((n : ℕ) × (length o ≡ n + n))
