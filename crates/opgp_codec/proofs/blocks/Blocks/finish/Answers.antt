use Rattle.opgp_codec.proofs.Blocking.{end_faulty}
use Rattle.opgp_codec.proofs.blocks.Blocks.finish.Goals as goal

pub returns-in-Some : goal.returns-in-Some
returns-in-Some c accepts limits done label octets items f = end_faulty accepts limits c.args.self done label octets items c.in-Some.fault c.in-Some.is f
