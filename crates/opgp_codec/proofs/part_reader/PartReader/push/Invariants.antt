use Rattle.std.proofs.Common.{◌≡◌, ◌+◌, ◌-◌, ◌≤◌, length, take}
use Rattle.opgp_codec.specs.Parts.{left_of}
use Rattle.opgp_codec.specs.Parts.{IsUsed as AreUsed}
use Rattle.opgp_codec.specs.PartReader.{IsUsed, Use, given, octets_given, taken_count, taking, waits}
use Rattle.opgp_codec.proofs.part_reader.PartReader.push.Given as goal

-- the octets before `at` were given, and the parts that they complete wait
abbrev pub invariant-parts : goal.invariant-parts
invariant-parts l = record {
  within : l.at ≤ length l.piece;
  used : (u : Use) → IsUsed u l.fn.self → AreUsed (taking (given u (take l.at l.piece)) (waits l.self)) l.self.parts;
  counted : taken_count l.self ≡ taken_count l.fn.self;
  count : octets_given l.self ≡ octets_given l.fn.self + l.at;
}

abbrev pub decreases-parts : goal.decreases-parts
decreases-parts l = left_of l.self.parts (length l.piece - l.at)
