use Rattle.opgp_codec.proofs.Ways.{bare_back}
use Rattle.opgp_codec.proofs.writing.add_bare.Goals as goal

pub returns : goal.returns
returns g c = bare_back c.add_via.new.armoring c.add_via.result c.requires c.add_via.ensures
