-- The values of the fields that a signature hashes.
use Rattle.opgp_hash.specs.declared.signed.Signed.{Signed}
use Rattle.opgp_hash.specs.SignedValue.{SignedValue}

abbrev pub signed_value : Signed → SignedValue
signed_value s = record {
  version = s.version;
  salt = s.salt.now;
  kind = s.kind;
  algorithm = s.algorithm;
  hash = s.hash;
  area = s.area.now;
}
