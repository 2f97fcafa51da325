-- The issuer's key, as a signature's subpackets name it (RFC 9580, 5.2.3.12, 5.2.3.35).
use Rattle.std.specs.Prelude.{◌≡◌, ◌⊎◌, ℕ, List, [], ◌∷◌, length, Option, Some, None, slice_get}
use Rattle.std.specs.Option.{option_map, option_and_then}
use Rattle.opgp_packet.specs.Subpackets.{Sub}
use Rattle.opgp_packet.specs.Areas.{hashed_subs, unhashed_subs}
use Rattle.opgp_packet.specs.SignatureBody.{SignatureValue}
use Rattle.opgp_packet.specs.SubView.{issuer_in, issuer_fingerprint_in}
use Rattle.opgp_hash.specs.KeyId.{id_of}
use Rattle.opgp_hash.specs.declared.fingerprints.Fingerprint.{Fingerprint}
use Rattle.opgp_report.specs.First.{first_by_id, first_by_print}

abbrev pub some_or : {B : Type 0} → Option B → Option B → Option B
some_or (Some y) other = Some y
some_or None other = other

abbrev pub first_some : {A B : Type 0} → (A → Option B) → List A → Option B
first_some f [] = None
first_some f (x ∷ xs) = some_or (f x) (first_some f xs)

-- ---- a name of the issuer's key, apart from any list of keys
-- the key of this version with this fingerprint, or else the key with this key ID; or nothing
pub data NameValue : Type 0 where
  by_print : ℕ → List ℕ → NameValue
  by_id : List ℕ → NameValue
  unnamed : NameValue

abbrev pub name_by : Option (ℕ × List ℕ) → Option (List ℕ) → NameValue
name_by (Some x) id = by_print x.0 x.1
name_by None (Some id) = by_id id
name_by None None = unnamed

-- a fingerprint counts only in the hashed area, and then key IDs are ignored; a key ID counts in
-- both, in the hashed area first
abbrev pub issuer_by : List Sub → List Sub → NameValue
issuer_by hashed unhashed = name_by (first_some issuer_fingerprint_in hashed)
    (some_or (first_some issuer_in hashed) (first_some issuer_in unhashed))

-- the name that a signature gives
abbrev pub issuer_of : SignatureValue → NameValue
issuer_of signature = issuer_by (hashed_subs signature) (unhashed_subs signature)

-- the size that a fingerprint has in its version
abbrev pub IsPrint : ℕ → List ℕ → Type 0
IsPrint version octets =
    ((version ≡ 4) × (length octets ≡ 20)) ⊎ ((version ≡ 6) × (length octets ≡ 32))

-- ---- the key in a list of keys
-- the place of the first key that has this name
abbrev pub named_in : List Fingerprint → NameValue → Option ℕ
named_in prints (by_print version octets) = first_by_print version octets prints
named_in prints (by_id id) = first_by_id id prints
named_in prints unnamed = None

-- its fingerprint, and its key ID
abbrev pub print_named : List Fingerprint → NameValue → Option Fingerprint
print_named prints name = option_and_then (λ i. slice_get prints i) (named_in prints name)

abbrev pub id_named : List Fingerprint → NameValue → Option (List ℕ)
id_named prints name = option_map id_of (print_named prints name)

-- the place of the issuer's key
abbrev pub signer_of : List Fingerprint → SignatureValue → Option ℕ
signer_of prints signature = named_in prints (issuer_of signature)
