-- The subpackets of a signature's area that are still to come.
use Rattle.std.specs.Prelude.{List}
use Rattle.opgp_packet.specs.Subpackets.{Sub}
use Rattle.opgp_packet.specs.Walk.{subs_left}
use Rattle.opgp_packet.specs.declared.subs.Subs.{Subs}

abbrev pub subs_to_come : Subs → List Sub
subs_to_come s = subs_left s.walk
