use Rattle.opgp_packet.proofs.AreaLaws.{area_fails, area_refused}
use Rattle.opgp_packet.proofs.field_laws.the_area_fault_is_answered.Goals as goal

pub returns : goal.returns
returns c = λ end o f fits. (area_fails end o f fits, area_refused end o f fits)
