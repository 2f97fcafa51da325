use Rattle.opgp_codec.specs.Packets.{ArePackets, any_label}
use Rattle.opgp_codec.proofs.OneAnswer.{one_answer}
use Rattle.opgp_codec.proofs.OneTop.{one_packets}
use Rattle.opgp_codec.proofs.laws.one_list_of_packets.Goals as goal

pub returns : goal.returns
returns c mode limits = one_answer any_label (ArePackets limits) (one_packets (record { ring = c.one_keyring.ensures; fault = c.one_fault.ensures; no_fault = c.no_fault.ensures }) limits) c.layers_are_one.ensures mode limits
