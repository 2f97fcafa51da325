use Rattle.opgp_frame.proofs.PacketFaults.{fault_is, is_fault}
use Rattle.opgp_frame.proofs.laws.the_fault_of_a_packet.Goals as goal

pub returns : goal.returns
returns c = λ limits octets reason inner fits. (fault_is limits octets reason inner fits, is_fault limits octets reason inner fits)
