use Rattle.opgp_codec.proofs.Ways.{bare}
use Rattle.opgp_codec.proofs.via.add.Goals as goal

pub returns-in-None : goal.returns-in-None
returns-in-None g c = rw c.in-None.is (bare c.add-in-None.result c.add-in-None.ensures)
