use Rattle.std.proofs.Common.{◌≡◌, length}
use Rattle.opgp.specs.Octets.declared.limits.Limits.{Limits}
use Rattle.opgp.specs.Codec.PartReader.{IsReading, octets_given, waits}
use Rattle.opgp_examples.proofs.certificates.show_waiting.Given as goal

abbrev pub invariant-parts : goal.invariant-parts
invariant-parts g l =
    ((limits : Limits) → IsReading limits l.fn.reader → IsReading limits l.reader)
    × (octets_given l.reader ≡ octets_given l.fn.reader)

abbrev pub decreases-parts : goal.decreases-parts
decreases-parts g l = length (waits l.reader)
