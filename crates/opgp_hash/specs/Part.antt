-- The parts that the hashed octets of a question consist of.
use Rattle.std.specs.Prelude.{ℕ, List, [], ◌++◌}
use Rattle.opgp_hash.specs.declared.part.Head.{Head}
use Rattle.opgp_hash.specs.declared.part.Head.TheVariants.{Bare, Three, Five, Six, Eight}
use Rattle.opgp_hash.specs.declared.part.Part.{Part}

-- the octets before a slice
abbrev pub head_octets : Head → List ℕ
head_octets Bare = []
head_octets (Three octets) = octets
head_octets (Five octets) = octets
head_octets (Six octets) = octets
head_octets (Eight octets) = octets

abbrev pub part_octets : Part → List ℕ
part_octets p = head_octets p.head ++ p.body.now
