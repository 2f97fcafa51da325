use Rattle.std.proofs.Common.{sym}
use Rattle.opgp_packet.proofs.AttributeLaws.{attribute_ok, attribute_err}
use Rattle.opgp_packet.proofs.attribute.AttributePlacesBody.read.Goals as goal

pub returns-in-None-clause-exact : goal.returns-in-None-clause-exact
returns-in-None-clause-exact c = attribute_ok c.args.o.now (sym c.in-None.ensures)

pub returns-in-Some-clause-exact : goal.returns-in-Some-clause-exact
returns-in-Some-clause-exact c = attribute_err c.args.o.now c.in-Some.fault (sym c.in-Some.ensures)
