use Rattle.std.proofs.Common.{◌≡◌, length}
use Rattle.opgp.specs.Octets.declared.limits.Limits.{Limits}
use Rattle.opgp.specs.Codec.PacketReader.{IsReading, octets_given, waits}
use Rattle.opgp_examples.proofs.packets.show_waiting.Given as goal

abbrev pub invariant-packets : goal.invariant-packets
invariant-packets g l =
    ((limits : Limits) → IsReading limits l.fn.reader → IsReading limits l.reader)
    × (octets_given l.reader ≡ octets_given l.fn.reader)

abbrev pub decreases-packets : goal.decreases-packets
decreases-packets g l = length (waits l.reader)
