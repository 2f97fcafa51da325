-- Certificates that are picked of a keyring.
use Rattle.std.specs.Prelude.{ℕ, Bool, not, ◌==◌, List, [], map, slice_get, unwrap_or}
use Rattle.std.specs.List.{enumerate_from, filter}
use Rattle.opgp_keyring.specs.Keyring.{CertificateValue, KeyringValue}

-- the certificate of this number is picked: in its place is a number other than 0
abbrev pub is_picked : List ℕ → ℕ → Bool
is_picked picked number = not (unwrap_or (slice_get picked number) 0 == 0)

-- those that are picked, in order
abbrev pub picked_of : List ℕ → List CertificateValue → List CertificateValue
picked_of picked cs = map (λ p. p.1) (filter (λ p. is_picked picked p.0) (enumerate_from 0 cs))

-- the keyring of these certificates alone
abbrev pub picked_keyring : List ℕ → KeyringValue → KeyringValue
picked_keyring picked r = record { lead = []; certificates = picked_of picked r.certificates }
