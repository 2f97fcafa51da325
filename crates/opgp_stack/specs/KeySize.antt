-- How large keys are: the bits of a modulus or a prime, or a curve (RFC 9580, 5.5.5, 9.1, 9.2).
use Rattle.std.specs.Prelude.{ℕ, ◌+◌, ◌-◌, ◌*◌, if◌then◌else◌, List, [], ◌∷◌, ◌++◌, length, codes}
use Rattle.std.specs.Prelude.{Option, Some, None}
use Rattle.std.specs.Fmt.{decimal}
use Rattle.std.specs.Int.{w8, leading_zeros}
use Rattle.std.specs.Str.{bytes_eq}
use Rattle.hex.specs.Hex.{encode_upper}
use Rattle.opgp_packet.specs.Fields.{Field, integer, named}
use Rattle.opgp_packet.specs.KeyShape.{Shape, rsa, elgamal, dsa, ecdh, ecdsa, eddsa}
use Rattle.opgp_packet.specs.KeyShape.{x25519, x448, ed25519, ed448}
use Rattle.opgp_valid.specs.Policy.{material_of, shape_in, without_zeros}
use Rattle.opgp_stack.specs.declared.key_size.KeySize.{KeySize}
use Rattle.opgp_stack.specs.declared.key_size.KeySize.TheVariants as size

pub data SizeValue : Type 0 where
  -- the bits of a number
  bits : ℕ → SizeValue
  -- the name of a curve
  curve : List ℕ → SizeValue
  -- the object identifier of a curve without a name here
  identifier : List ℕ → SizeValue
  -- that of an algorithm that isn't known
  unknown : SizeValue

-- ---- curves
-- the name of a curve by its object identifier, as gpg has it: those of 9.2, and secp256k1
abbrev pub curve_name : List ℕ → Option (List ℕ)
curve_name oid =
    if bytes_eq oid (0x2A ∷ 0x86 ∷ 0x48 ∷ 0xCE ∷ 0x3D ∷ 0x03 ∷ 0x01 ∷ 0x07 ∷ [])
    then Some (codes "nistp256")
    else (if bytes_eq oid (0x2B ∷ 0x81 ∷ 0x04 ∷ 0x00 ∷ 0x22 ∷ []) then Some (codes "nistp384")
    else (if bytes_eq oid (0x2B ∷ 0x81 ∷ 0x04 ∷ 0x00 ∷ 0x23 ∷ []) then Some (codes "nistp521")
    else (if bytes_eq oid (0x2B ∷ 0x24 ∷ 0x03 ∷ 0x03 ∷ 0x02 ∷ 0x08 ∷ 0x01 ∷ 0x01 ∷ 0x07 ∷ [])
    then Some (codes "brainpoolP256r1")
    else (if bytes_eq oid (0x2B ∷ 0x24 ∷ 0x03 ∷ 0x03 ∷ 0x02 ∷ 0x08 ∷ 0x01 ∷ 0x01 ∷ 0x0B ∷ [])
    then Some (codes "brainpoolP384r1")
    else (if bytes_eq oid (0x2B ∷ 0x24 ∷ 0x03 ∷ 0x03 ∷ 0x02 ∷ 0x08 ∷ 0x01 ∷ 0x01 ∷ 0x0D ∷ [])
    then Some (codes "brainpoolP512r1")
    else (if bytes_eq oid (0x2B ∷ 0x06 ∷ 0x01 ∷ 0x04 ∷ 0x01 ∷ 0xDA ∷ 0x47 ∷ 0x0F ∷ 0x01 ∷ [])
    then Some (codes "ed25519")
    else (if bytes_eq oid (0x2B ∷ 0x06 ∷ 0x01 ∷ 0x04 ∷ 0x01 ∷ 0x97 ∷ 0x55 ∷ 0x01 ∷ 0x05 ∷ 0x01 ∷ [])
    then Some (codes "cv25519")
    else (if bytes_eq oid (0x2B ∷ 0x81 ∷ 0x04 ∷ 0x00 ∷ 0x0A ∷ []) then Some (codes "secp256k1")
    else None))))))))

abbrev pub named_curve : List ℕ → Option (List ℕ) → SizeValue
named_curve oid (Some name) = curve name
named_curve oid None = identifier oid

abbrev pub curve_of : List ℕ → SizeValue
curve_of oid = named_curve oid (curve_name oid)

-- ---- numbers
-- how many bits there are from the highest one that is set, of octets whose first isn't 0
abbrev pub bits_from : List ℕ → ℕ
bits_from [] = 0
bits_from (n ∷ o) = 8 * length o + (8 - leading_zeros w8 n)

abbrev pub bits_of : List ℕ → ℕ
bits_of o = bits_from (without_zeros o)

-- ---- keys
-- by the form of the material (5.5.5): the modulus of RSA, the prime of Elgamal and DSA, a curve
abbrev pub material_size : Shape → List Field → SizeValue
material_size rsa (integer n ∷ fields) = bits (bits_of n.octets)
material_size elgamal (integer p ∷ fields) = bits (bits_of p.octets)
material_size dsa (integer p ∷ fields) = bits (bits_of p.octets)
material_size ecdh (named oid ∷ fields) = curve_of oid
material_size ecdsa (named oid ∷ fields) = curve_of oid
material_size eddsa (named oid ∷ fields) = curve_of oid
material_size x25519 fields = curve (codes "x25519")
material_size x448 fields = curve (codes "x448")
material_size ed25519 fields = curve (codes "ed25519")
material_size ed448 fields = curve (codes "ed448")
material_size shape fields = unknown

abbrev pub key_size : List ℕ → SizeValue
key_size body = material_size (shape_in body) (material_of body)

-- ---- the last field of a key's line with values
-- `4096`, `nistp256`, `oid:2B81040021`; `-` where it isn't known
abbrev pub size_text : SizeValue → List ℕ
size_text (bits n) = decimal n
size_text (curve name) = name
size_text (identifier oid) = codes "oid:" ++ encode_upper oid
size_text unknown = codes "-"

-- ` size <size>`
abbrev pub size_words : SizeValue → List ℕ
size_words size = codes " size " ++ (size_text size ++ codes "\n")

-- ---- what the code's values stand for
abbrev pub size_value : KeySize → SizeValue
size_value (size.Bits n) = bits n
size_value (size.Curve name) = curve name.now
size_value (size.Identifier oid) = identifier oid.now
size_value size.Unknown = unknown
