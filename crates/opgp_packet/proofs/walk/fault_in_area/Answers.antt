use Rattle.std.proofs.lemmas.Grind.{common_steps}
use Rattle.std.proofs.Common.{arith}
use Rattle.opgp_packet.specs.AreaReading.{fault_in}
use Rattle.opgp_packet.specs.Subpacket.{sub_seen}
use Rattle.opgp_packet.proofs.AreaLaws.{goes_on, stops, ends}
use Rattle.opgp_packet.proofs.walk.fault_in_area.Goals as goal

pub loop-rest-preserved : goal.loop-rest-preserved
loop-rest-preserved c = (omega (arith, c.in-Ok.ensures.shorter), goes_on c.args.end c.loop-rest.rest.now (sub_seen c.in-Ok.field-0-0) c.in-Ok.after.now (fault_in c.args.end c.args.area.now) (grind (arith, common_steps)) c.in-Ok.ensures.reads c.loop-rest.invariant.1)

pub returns-in-Err : goal.returns-in-Err
returns-in-Err c = stops c.args.end c.loop-rest.rest.now c.in-Err.reason (fault_in c.args.end c.args.area.now) (grind (arith, common_steps)) c.in-Err.ensures.reads c.loop-rest.invariant.1

pub returns : goal.returns
returns c = ends c.args.end c.loop-rest.rest.now (fault_in c.args.end c.args.area.now) (grind (arith, common_steps)) c.loop-rest.invariant.1
