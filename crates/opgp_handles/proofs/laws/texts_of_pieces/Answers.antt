use Rattle.std.proofs.Common.{false}
use Rattle.opgp_document.proofs.Text.{text_append}
use Rattle.opgp_handles.proofs.laws.texts_of_pieces.Goals as goal

pub returns : goal.returns
returns c = λ so_far piece. text_append false so_far piece
