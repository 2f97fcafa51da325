use Rattle.std.proofs.Common.{length}
use Rattle.opgp_io.specs.Held.{pieces_octets}
use Rattle.opgp_codec.proofs.Ways.{ViaAllBut}
use Rattle.opgp_codec.proofs.via.add_pieces.Given as goal

-- all pieces are added but those that are left
abbrev pub invariant-pieces : goal.invariant-pieces
invariant-pieces g l = ViaAllBut g.W.Sink.held g.W.Sink.has_failed l.fn.output l.fn.armoring l.output l.armoring (pieces_octets l.rest) (pieces_octets l.fn.pieces)

abbrev pub decreases-pieces : goal.decreases-pieces
decreases-pieces g l = length l.rest
