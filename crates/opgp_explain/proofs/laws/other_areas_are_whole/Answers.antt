use Rattle.opgp_explain.proofs.Areas.{one_field}
use Rattle.opgp_packet.specs.AreaReading.{area_at}
use Rattle.std.proofs.Common.{length}
use Rattle.opgp_explain.proofs.laws.other_areas_are_whole.Goals as goal

pub returns : goal.returns
returns c = λ area fits none. one_field area (area_at (length area) area) (λ subs e. none subs ((c.subpackets_are_read.ensures (length area) subs area fits).0 e))
