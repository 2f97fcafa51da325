-- Hash algorithms (RFC 9580, 9.5).
use Rattle.std.specs.Prelude.{ℕ, List, [], ◌∷◌, codes, Option, Some, None}
use Rattle.opgp_octets.specs.declared.hash_algorithm.HashAlgorithm.{HashAlgorithm}
use Rattle.opgp_octets.specs.declared.hash_algorithm.HashAlgorithm.TheVariants as hash
use Rattle.opgp_octets.specs.Rows.{numbered}

-- the number and the name of each
abbrev pub hash_algorithm_row : HashAlgorithm → ℕ × List ℕ
hash_algorithm_row hash.Md5 = (1, codes "MD5")
hash_algorithm_row hash.Sha1 = (2, codes "SHA-1")
hash_algorithm_row hash.Ripemd160 = (3, codes "RIPEMD-160")
hash_algorithm_row hash.Sha256 = (8, codes "SHA2-256")
hash_algorithm_row hash.Sha384 = (9, codes "SHA2-384")
hash_algorithm_row hash.Sha512 = (10, codes "SHA2-512")
hash_algorithm_row hash.Sha224 = (11, codes "SHA2-224")
hash_algorithm_row hash.Sha3_256 = (12, codes "SHA3-256")
hash_algorithm_row hash.Sha3_512 = (14, codes "SHA3-512")
hash_algorithm_row (hash.Other n) = (n, codes "unknown")

abbrev pub hash_algorithm_number : HashAlgorithm → ℕ
hash_algorithm_number x = (hash_algorithm_row x).0

unfoldable pub hash_algorithm_name : HashAlgorithm → List ℕ
hash_algorithm_name x = (hash_algorithm_row x).1

-- what a number stands for
unfoldable pub hash_algorithm_of : ℕ → HashAlgorithm
hash_algorithm_of n =
    numbered hash_algorithm_number n (hash.Other n)
    (hash.Md5 ∷ hash.Sha1 ∷ hash.Ripemd160 ∷ hash.Sha256 ∷ hash.Sha384 ∷ hash.Sha512 ∷ hash.Sha224
    ∷ hash.Sha3_256 ∷ hash.Sha3_512 ∷ [])

-- how many octets the salt of a version 6 signature has, where that is known (9.5)
abbrev pub salt_size : HashAlgorithm → Option ℕ
salt_size hash.Sha256 = Some 16
salt_size hash.Sha384 = Some 24
salt_size hash.Sha512 = Some 32
salt_size hash.Sha224 = Some 16
salt_size hash.Sha3_256 = Some 16
salt_size hash.Sha3_512 = Some 32
salt_size other = None
