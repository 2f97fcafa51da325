use Rattle.std.proofs.Common.{◌≡◌, ◌≤◌, ◌+◌, ◌-◌}
use Rattle.opgp.specs.Octets.Limits.{input_limit}
use Rattle.opgp.specs.Codec.PacketReader.{IsReading, octets_given}
use Rattle.opgp_examples.proofs.packets.read_packets.Given as goal

abbrev pub invariant-pieces : goal.invariant-pieces
invariant-pieces g l =
    (octets_given l.reader ≡ l.given) × (l.given ≤ input_limit l.limits + 65536)
    × IsReading l.limits l.reader

abbrev pub decreases-pieces : goal.decreases-pieces
decreases-pieces g l = input_limit l.limits + 65537 - l.given
