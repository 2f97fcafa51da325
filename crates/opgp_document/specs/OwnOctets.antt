-- What a signature hashes of itself (RFC 9580, 5.2.4).
use Rattle.std.specs.Prelude.{ℕ, List, ◌++◌, length}
use Rattle.opgp_hash.specs.Hashed.{trailer_hashed}
use Rattle.opgp_hash.specs.SignedValue.{SignedValue, signed_front}
use Rattle.opgp_document.specs.declared.own_octets.Head.{Head}
use Rattle.opgp_document.specs.declared.own_octets.Head.TheVariants.{Six, Eight}
use Rattle.opgp_document.specs.declared.own_octets.OwnOctets.{OwnOctets}

-- the fields that it hashes
abbrev pub own_value : OwnOctets → SignedValue
own_value o = record {
  version = o.version;
  salt = o.salt.now;
  kind = o.kind;
  algorithm = o.algorithm;
  hash = o.hash;
  area = o.area.now;
}

-- behind what it is made over: its fields up to the end of the hashed area, and the trailer
abbrev pub closing : SignedValue → List ℕ
closing s = signed_front s ++ trailer_hashed s.version (length (signed_front s))

-- its fields before the hashed area, and the area's length
abbrev pub head_octets : Head → List ℕ
head_octets (Six octets) = octets
head_octets (Eight octets) = octets
