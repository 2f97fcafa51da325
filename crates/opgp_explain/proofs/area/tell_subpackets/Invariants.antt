use Rattle.opgp_packet.specs.Walk.{subs_left}
use Rattle.opgp_explain.proofs.Areas.{Left}
use Rattle.opgp_explain.proofs.area.tell_subpackets.Given as goal

-- what is to be told of those that are left makes the whole
abbrev pub invariant-subpackets : goal.invariant-subpackets
invariant-subpackets l = Left l.fn.telling (subs_left l.fn.subpackets) l.told (subs_left l.subpackets)
