-- Keys by their names (RFC 9580, 5.5.4), and the certificates that have them.
use Rattle.std.specs.Prelude.{ℕ, ◌+◌, Bool, ◌||◌, not, if◌then◌else◌, List, [], ◌∷◌, filter}
use Rattle.std.specs.Prelude.{Option, Some, None}
use Rattle.std.specs.List.{list_any}
use Rattle.std.specs.Str.{bytes_eq}
use Rattle.opgp_hash.specs.declared.fingerprints.Fingerprint.{Fingerprint}
use Rattle.opgp_hash.specs.Fingerprint.{print_octets}
use Rattle.opgp_hash.specs.KeyId.{id_of}
use Rattle.opgp_report.specs.First.{print_of}
use Rattle.opgp_report.specs.Report.{certificate_keys}
use Rattle.opgp_keyring.specs.Keyring.{CertificateValue}
use Rattle.opgp_stack.specs.declared.key_name.KeyName.{KeyName}
use Rattle.opgp_stack.specs.declared.key_name.KeyName.TheVariants.{Id, Four, Six}

-- its octets
abbrev pub name_octets : KeyName → List ℕ
name_octets (Id octets) = octets
name_octets (Four octets) = octets
name_octets (Six octets) = octets

-- these octets are the fingerprint of the key, or its key ID
abbrev pub is_named : List ℕ → Fingerprint → Bool
is_named name print = bytes_eq (print_octets print) name || bytes_eq (id_of print) name

-- one of the keys with these bodies has this name
abbrev pub is_any_named : List ℕ → List (List ℕ) → Bool
is_any_named name bodies = list_any (λ body. is_named name (print_of body)) bodies

-- the primary key or a subkey has this name
abbrev pub has_key : List ℕ → CertificateValue → Bool
has_key name c = is_any_named name (certificate_keys c)

-- ---- keys of several names
-- a key has one of these names
abbrev pub has_one_of : List (List ℕ) → Fingerprint → Bool
has_one_of names print = list_any (λ name. is_named name print) names

-- the primary key or a subkey has one of these names
abbrev pub has_any : List (List ℕ) → CertificateValue → Bool
has_any names c = list_any (λ body. has_one_of names (print_of body)) (certificate_keys c)

-- a certificate is picked that has a key of one of these names, or, but for those, one that has
-- none
abbrev pub is_picked : List (List ℕ) → Bool → CertificateValue → Bool
is_picked names except c = if except then not (has_any names c) else has_any names c

-- those that are picked, in order
abbrev pub picked : List (List ℕ) → Bool → List CertificateValue → List CertificateValue
picked names except cs = filter (is_picked names except) cs

-- the number, counted from here, of the first of these names that isn't that of some key, if one
-- isn't
abbrev pub missing_from : (List ℕ → Bool) → ℕ → List (List ℕ) → Option ℕ
missing_from is_there n [] = None
missing_from is_there n (name ∷ names) =
    if is_there name then missing_from is_there (n + 1) names else Some n

-- .. that of a key of one of the certificates
abbrev pub missing_in : List (List ℕ) → List CertificateValue → Option ℕ
missing_in names cs = missing_from (λ name. list_any (has_key name) cs) 0 names
