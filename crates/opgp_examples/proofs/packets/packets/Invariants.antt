use Rattle.std.proofs.Common.{length}
use Rattle.opgp.specs.Codec.PacketReader.{packets_in}
use Rattle.opgp_examples.proofs.packets.packets.Given as goal

abbrev pub decreases-rest : goal.decreases-rest
decreases-rest g l = length (packets_in l.waiting)
