-- All revocations of primary keys in a keyring's report, and the digests of what they hash.
use Rattle.std.specs.Prelude.{◌≡◌, ⊤, ℕ, List, [], ◌∷◌, ◌++◌, Option, Some, None, Result, Ok, Err}
use Rattle.opgp_hash.specs.Digest.{digest_of}
use Rattle.opgp_hash.specs.QuestionValue.{QuestionValue}
use Rattle.opgp_keyring.specs.Keyring.{KeyringValue}
use Rattle.opgp_report.specs.Standing.{Standing, by_number, standing_in}
use Rattle.opgp_valid.specs.Revocation.{revocation_of}
use Rattle.opgp_valid.specs.declared.listing.Lister.{Lister}
use Rattle.opgp_valid.specs.declared.listing.Revoked.{Revoked}

abbrev pub revoked_by : ℕ → Option QuestionValue → List Revoked
revoked_by row None = []
revoked_by row (Some q) = record { row = row; digest = digest_of q } ∷ []

-- the row of this number, if it is one
abbrev pub revoked_in : ℕ → Standing → List Revoked
revoked_in row s = revoked_by row (revocation_of s)

abbrev pub revocations_in : KeyringValue → List Revoked
revocations_in r = by_number revoked_in 0 (standing_in r)

-- ---- listing them
-- those of a list are added, by their numbers, unless memory runs out
abbrev pub ListsRevocations : {E : Type 0} → Lister → List Standing → Result Lister E → Type 0
ListsRevocations a list (Ok b) = b.found.items
    ≡ a.found.items ++ by_number revoked_in a.row list
ListsRevocations a list (Err refusal) = ⊤
