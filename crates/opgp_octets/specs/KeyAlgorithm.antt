-- Public-key algorithms (RFC 9580, 9.1).
use Rattle.std.specs.Prelude.{ℕ, List, [], ◌∷◌, codes}
use Rattle.opgp_octets.specs.declared.key_algorithm.KeyAlgorithm.{KeyAlgorithm}
use Rattle.opgp_octets.specs.declared.key_algorithm.KeyAlgorithm.TheVariants as key
use Rattle.opgp_octets.specs.Rows.{numbered}

-- the number and the name of each
abbrev pub key_algorithm_row : KeyAlgorithm → ℕ × List ℕ
key_algorithm_row key.Rsa = (1, codes "RSA (Encrypt or Sign)")
key_algorithm_row key.RsaEncrypt = (2, codes "RSA Encrypt-Only")
key_algorithm_row key.RsaSign = (3, codes "RSA Sign-Only")
key_algorithm_row key.Elgamal = (16, codes "Elgamal (Encrypt-Only)")
key_algorithm_row key.Dsa = (17, codes "DSA (Digital Signature Algorithm)")
key_algorithm_row key.Ecdh = (18, codes "ECDH public key algorithm")
key_algorithm_row key.Ecdsa = (19, codes "ECDSA public key algorithm")
key_algorithm_row key.EddsaLegacy = (22, codes "EdDSALegacy")
key_algorithm_row key.X25519 = (25, codes "X25519")
key_algorithm_row key.X448 = (26, codes "X448")
key_algorithm_row key.Ed25519 = (27, codes "Ed25519")
key_algorithm_row key.Ed448 = (28, codes "Ed448")
key_algorithm_row (key.Other n) = (n, codes "unknown")

abbrev pub key_algorithm_number : KeyAlgorithm → ℕ
key_algorithm_number x = (key_algorithm_row x).0

unfoldable pub key_algorithm_name : KeyAlgorithm → List ℕ
key_algorithm_name x = (key_algorithm_row x).1

-- what a number stands for
unfoldable pub key_algorithm_of : ℕ → KeyAlgorithm
key_algorithm_of n =
    numbered key_algorithm_number n (key.Other n)
    (key.Rsa ∷ key.RsaEncrypt ∷ key.RsaSign ∷ key.Elgamal ∷ key.Dsa ∷ key.Ecdh ∷ key.Ecdsa
    ∷ key.EddsaLegacy ∷ key.X25519 ∷ key.X448 ∷ key.Ed25519 ∷ key.Ed448 ∷ [])
