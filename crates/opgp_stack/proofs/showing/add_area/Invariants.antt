use Rattle.std.proofs.Common.{length}
use Rattle.opgp_packet.specs.Subs.{subs_to_come}
use Rattle.opgp_io.proofs.Extended.{ExtendsAllBut}
use Rattle.opgp_stack.specs.Showing.{area_lines}
use Rattle.opgp_stack.proofs.showing.add_area.Given as goal

-- all lines are added but those of the subpackets that are to come
abbrev pub invariant-subpackets : goal.invariant-subpackets
invariant-subpackets g l = ExtendsAllBut g.W.Sink.held g.W.Sink.has_failed l.fn.output l.output (area_lines l.area (subs_to_come l.subpackets)) (area_lines l.area (subs_to_come l.initial.subpackets))

abbrev pub decreases-subpackets : goal.decreases-subpackets
decreases-subpackets g l = length (subs_to_come l.subpackets)
