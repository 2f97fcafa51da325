use Rattle.std.proofs.Common.{length}
use Rattle.opgp_frame.specs.Spelling.{octets_left}
use Rattle.opgp_codec.proofs.Ways.{ViaAllBut}
use Rattle.opgp_codec.proofs.via.add_packet.Given as goal

-- all of the packet is added but what is left of it
abbrev pub invariant-parts : goal.invariant-parts
invariant-parts g l = ViaAllBut g.W.Sink.held g.W.Sink.has_failed l.fn.output l.fn.armoring l.output l.armoring (octets_left l.spelling) (octets_left l.initial.spelling)

abbrev pub decreases-parts : goal.decreases-parts
decreases-parts g l = length (octets_left l.spelling)
