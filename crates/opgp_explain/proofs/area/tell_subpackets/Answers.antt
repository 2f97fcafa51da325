use Rattle.std.proofs.Common.{arith}
use Rattle.opgp_packet.specs.Subpacket.{sub_seen}
use Rattle.opgp_packet.specs.Walk.{subs_left}
use Rattle.opgp_explain.proofs.Areas.{all_told, one_told}
use Rattle.opgp_explain.proofs.area.tell_subpackets.Goals as goal

pub subpackets-preserved : goal.subpackets-preserved
subpackets-preserved c = one_told c.args.telling c.subpackets.told c.in_ok-told.told (subs_left c.args.subpackets) (subs_left c.subpackets.subpackets) (subs_left c.next.new.self) (sub_seen c.in-Some.subpacket) c.subpackets.invariant c.in-Some.ensures.steps c.in_ok-told.ensures

pub tell_subpacket-requires : goal.tell_subpacket-requires
tell_subpacket-requires c = let r = c.subpackets.invariant.room in let n = c.requires.room in let s = c.requires.sized in omega arith

pub returns : goal.returns
returns c = all_told c.args.telling c.subpackets.told (subs_left c.args.subpackets) (subs_left c.subpackets.subpackets) c.subpackets.invariant c.in_default.ensures.steps.0
