-- Key IDs (RFC 9580, 5.5.4).
use Rattle.std.specs.Prelude.{ℕ, List, take, drop}
use Rattle.opgp_hash.specs.declared.fingerprints.Fingerprint.{Fingerprint}
use Rattle.opgp_hash.specs.declared.fingerprints.Fingerprint.TheVariants.{Four, Six}
use Rattle.opgp_hash.specs.Fingerprint.{fingerprint_of}

-- the last 8 of the 20 octets in version 4, the first 8 in version 6
abbrev pub id_of : Fingerprint → List ℕ
id_of (Four octets) = take 8 (drop 12 octets)
id_of (Six octets) = take 8 octets

-- the key ID of a key of this version and body
abbrev pub key_id_of : ℕ → List ℕ → List ℕ
key_id_of version body = id_of (fingerprint_of version body)
