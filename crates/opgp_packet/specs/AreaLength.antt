-- How an area of a signature is delimited, by the width of its length.
use Rattle.std.specs.Prelude.{ℕ}
use Rattle.opgp_packet.specs.declared.cursor.AreaLength.{AreaLength}
use Rattle.opgp_packet.specs.declared.cursor.AreaLength.TheVariants.{Two, Four}
use Rattle.opgp_packet.specs.Fields.{Extent, behind_two, behind_four}

abbrev pub extent_of : AreaLength → Extent
extent_of Two = behind_two
extent_of Four = behind_four

-- how many octets the length has
abbrev pub width_of : AreaLength → ℕ
width_of Two = 2
width_of Four = 4
