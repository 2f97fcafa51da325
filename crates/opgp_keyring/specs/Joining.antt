-- One certificate of a keyring.
use Rattle.std.specs.Prelude.{ℕ, [], ◌∷◌, Option, slice_get, option_map}
use Rattle.opgp_keyring.specs.Keyring.{KeyringValue}

-- the certificate of this number alone
abbrev pub nth_of : KeyringValue → ℕ → Option KeyringValue
nth_of r n =
    option_map (λ c. record { lead = []; certificates = c ∷ [] }) (slice_get r.certificates n)
