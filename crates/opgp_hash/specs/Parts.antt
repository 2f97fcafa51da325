-- The parts of a question, in the order in which they are hashed.
use Rattle.std.specs.Prelude.{ℕ, List, ◌++◌}
use Rattle.opgp_hash.specs.declared.parts.Parts.{Parts}
use Rattle.opgp_hash.specs.Part.{part_octets}

abbrev pub parts_octets : Parts → List ℕ
parts_octets p =
    part_octets p.salt ++ part_octets p.first ++ part_octets p.second ++ part_octets p.front
    ++ part_octets p.trailer

-- those of the subject
abbrev pub subject_octets : Parts → List ℕ
subject_octets p = part_octets p.first ++ part_octets p.second
