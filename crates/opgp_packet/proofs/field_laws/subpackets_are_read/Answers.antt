use Rattle.opgp_packet.proofs.AreaLaws.{area_found, area_only}
use Rattle.opgp_packet.proofs.field_laws.subpackets_are_read.Goals as goal

pub returns : goal.returns
returns c = λ end subs o fits. (area_found end o subs fits, area_only end o subs)
