-- Fingerprints (RFC 9580, 5.5.4).
use Rattle.std.specs.Prelude.{ℕ, List, ◌∷◌, ◌++◌, length, ◌==◌, if◌then◌else◌}
use Rattle.std.specs.Int.{w16, w32, to_be_bytes}
use Rattle.sha1.specs.Sha1.{sha1}
use Rattle.sha2.specs.Sha256.{sha256}
use Rattle.opgp_hash.specs.declared.fingerprints.Fingerprint.{Fingerprint}
use Rattle.opgp_hash.specs.declared.fingerprints.Fingerprint.TheVariants.{Four, Six}

-- what is hashed of a key's body: an octet of the version, the length in two or four octets, the
-- body
abbrev pub four_hashed : List ℕ → List ℕ
four_hashed body = (0x99 ∷ to_be_bytes w16 (length body)) ++ body

abbrev pub six_hashed : List ℕ → List ℕ
six_hashed body = (0x9B ∷ to_be_bytes w32 (length body)) ++ body

-- the fingerprint of a key of this version and body: SHA-1 in version 4, SHA2-256 in version 6
abbrev pub fingerprint_of : ℕ → List ℕ → Fingerprint
fingerprint_of version body =
    if version == 4 then Four (sha1 (four_hashed body)) else Six (sha256 (six_hashed body))

-- its octets, how many they are, and the version of the key
abbrev pub print_octets : Fingerprint → List ℕ
print_octets (Four octets) = octets
print_octets (Six octets) = octets

abbrev pub print_size : Fingerprint → ℕ
print_size (Four octets) = 20
print_size (Six octets) = 32

abbrev pub print_version : Fingerprint → ℕ
print_version (Four octets) = 4
print_version (Six octets) = 6
