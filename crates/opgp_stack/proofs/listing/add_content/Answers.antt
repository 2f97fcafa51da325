use Rattle.opgp_io.proofs.Extended.{extends_same}
use Rattle.opgp_stack.proofs.SoundLines.{view_line}
use Rattle.opgp_stack.proofs.listing.add_content.Goals as goal

pub returns-in-Signature : goal.returns-in-Signature
returns-in-Signature g c = rw c.in-Signature.is (λ p k b. extends_same (view_line p c.in-Signature.signature k b) c.add_signature.ensures)
