use Rattle.std.proofs.Common.{sym}
use Rattle.opgp_io.proofs.Rows.{broken_at}
use Rattle.opgp_codec.proofs.Ways.{via_broken, via_nothing}
use Rattle.opgp_codec.proofs.via.RefHeldPayload.add_via.Goals as goal

pub returns-in_err-add_pieces : goal.returns-in_err-add_pieces
returns-in_err-add_pieces g c = broken_at _ c.from_residual.result c.from_residual.ensures.0 (via_broken c.pieces.result.1.now (sym c.pieces.ensures) (via_nothing c.requires) c.in_err-add_pieces.ensures)
