use Rattle.opgp_codec.specs.Packets.{ArePackets, any_label}
use Rattle.opgp_codec.proofs.SomeAnswer.{some_answer, some_packets}
use Rattle.opgp_codec.proofs.laws.some_list_of_packets.Goals as goal

pub returns : goal.returns
returns c mode limits = some_answer limits any_label (ArePackets limits) (some_packets c.some_signed_answer.ensures limits) c.layers_answer.ensures mode
