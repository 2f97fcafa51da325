-- The forms that a signature's material has, by its algorithm (RFC 9580, 5.2.3.1 to 5.2.3.5, 9.1).
use Rattle.opgp_octets.specs.declared.key_algorithm.KeyAlgorithm.{KeyAlgorithm}
use Rattle.opgp_octets.specs.declared.key_algorithm.KeyAlgorithm.TheVariants as algorithm

pub data Shape : Type 0 where
  rsa dsa ecdsa eddsa ed25519 ed448 opaque : Shape
  deriving IsSet as Shape-set

abbrev pub shape_of : KeyAlgorithm → Shape
shape_of algorithm.Rsa = rsa
shape_of algorithm.RsaEncrypt = opaque
shape_of algorithm.RsaSign = rsa
shape_of algorithm.Elgamal = opaque
shape_of algorithm.Dsa = dsa
shape_of algorithm.Ecdh = opaque
shape_of algorithm.Ecdsa = ecdsa
shape_of algorithm.EddsaLegacy = eddsa
shape_of algorithm.X25519 = opaque
shape_of algorithm.X448 = opaque
shape_of algorithm.Ed25519 = ed25519
shape_of algorithm.Ed448 = ed448
shape_of (algorithm.Other n) = opaque
