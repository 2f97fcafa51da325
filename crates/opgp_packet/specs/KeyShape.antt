-- The forms that a key's public material has, by its algorithm (RFC 9580, 5.5.5, 9.1).
use Rattle.opgp_octets.specs.declared.key_algorithm.KeyAlgorithm.{KeyAlgorithm}
use Rattle.opgp_octets.specs.declared.key_algorithm.KeyAlgorithm.TheVariants as algorithm

pub data Shape : Type 0 where
  rsa elgamal dsa ecdh ecdsa eddsa x25519 x448 ed25519 ed448 opaque : Shape
  deriving IsSet as Shape-set

abbrev pub shape_of : KeyAlgorithm → Shape
shape_of algorithm.Rsa = rsa
shape_of algorithm.RsaEncrypt = rsa
shape_of algorithm.RsaSign = rsa
shape_of algorithm.Elgamal = elgamal
shape_of algorithm.Dsa = dsa
shape_of algorithm.Ecdh = ecdh
shape_of algorithm.Ecdsa = ecdsa
shape_of algorithm.EddsaLegacy = eddsa
shape_of algorithm.X25519 = x25519
shape_of algorithm.X448 = x448
shape_of algorithm.Ed25519 = ed25519
shape_of algorithm.Ed448 = ed448
shape_of (algorithm.Other n) = opaque
