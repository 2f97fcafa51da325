-- One certificate of a keyring, or one row of its report, looked for among its parts.
use Rattle.std.specs.Prelude.{◌≡◌, ℕ, ◌+◌, ◌<◌, List, [], ◌∷◌, length, Option, Some, None}
use Rattle.std.specs.List.{slice_get}
use Rattle.opgp_hash.specs.QuestionValue.{QuestionValue}
use Rattle.opgp_report.specs.Asked.{Asked, asked_of, question_in}
use Rattle.opgp_keyring.specs.Composed.{PartValue, of_lead, of_certificate}
use Rattle.opgp_keyring.specs.Keyring.{CertificateValue, KeyringValue}

-- the certificates among parts
abbrev pub certificates_in : List PartValue → List CertificateValue
certificates_in [] = []
certificates_in (of_lead ps ∷ parts) = certificates_in parts
certificates_in (of_certificate c ∷ parts) = c ∷ certificates_in parts

-- The certificate of this number is found among those that came; or so many are left to pass before
-- it.
abbrev pub IsNth : ℕ → ℕ → Option CertificateValue → List CertificateValue → Type 0
IsNth number left None cs = left + length cs ≡ number
IsNth number left (Some c) cs = slice_get cs number ≡ Some c

-- what the signatures of certificates hash
abbrev pub asked_among : List CertificateValue → List Asked
asked_among cs = asked_of (record { lead = []; certificates = cs })

-- The row of this number is found among those of the certificates that came: it is that of this
-- number in the report of a keyring that was kept. Or so many rows are left to pass before it.
abbrev pub IsRow : ℕ → ℕ → Option KeyringValue → List CertificateValue → Type 0
IsRow number left None cs = left + length (asked_among cs) ≡ number
IsRow number left (Some ring) cs = (number < length (asked_among cs))
    × (slice_get (asked_among cs) number ≡ slice_get (asked_of ring) left)

-- the question of a row in the report of what is found, if there is one
abbrev pub found_question : Option KeyringValue → ℕ → Option QuestionValue
found_question None left = None
found_question (Some ring) left = question_in (slice_get (asked_of ring) left)
