-- The subpackets that a walk over an area has left.
use Rattle.std.specs.Prelude.{List}
use Rattle.opgp_packet.specs.declared.walk.Walk.{Walk}
use Rattle.opgp_packet.specs.Subpackets.{Sub}
use Rattle.opgp_packet.specs.AreaReading.{subs_in}

abbrev pub subs_left : Walk → List Sub
subs_left w = subs_in w.rest.now
