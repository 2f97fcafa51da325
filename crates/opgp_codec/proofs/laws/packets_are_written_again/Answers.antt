use Rattle.opgp_codec.proofs.Again.{again, again_in_binary}
use Rattle.opgp_codec.proofs.laws.packets_are_written_again.Goals as goal

pub returns-clause-blocks : goal.returns-clause-blocks
returns-clause-blocks c = again

pub returns-clause-binary : goal.returns-clause-binary
returns-clause-binary c = again_in_binary
