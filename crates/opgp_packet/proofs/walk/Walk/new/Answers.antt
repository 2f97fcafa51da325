use Rattle.opgp_packet.proofs.AreaLaws.{area_few}
use Rattle.opgp_packet.proofs.walk.Walk.new.Goals as goal

pub returns-clause-few : goal.returns-clause-few
returns-clause-few c = area_few c.args.area.now c.requires
