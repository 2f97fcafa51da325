use Rattle.std.proofs.Common.{rules, arith}
use Rattle.opgp_packet.specs.Subs.{subs_to_come}
use Rattle.opgp_packet.specs.SubView.{sub_shown}
use Rattle.opgp_tables.proofs.Filling.{pieces}
use Rattle.opgp_tables.proofs.FilledSubpackets.{area_end, area_step}
use Rattle.opgp_tables.proofs.subpacket_table.put_area.Goals as goal

pub subpackets-preserved : goal.subpackets-preserved
subpackets-preserved c = record {
  all = λ there rows bytes f. c.subpackets.invariant.all there rows bytes
      (area_step c.args.place c.args.is_hashed (sub_shown c.in-Some.subpacket) (subs_to_come c.subpackets.subpackets) (subs_to_come c.next.new.self) c.subpackets.reached c.put_subpacket-reached.result there
      c.subpackets.rows c.put_subpacket-reached.new.rows rows c.subpackets.bytes c.put_subpacket-reached.new.bytes bytes (search rules) c.put_subpacket-reached.ensures f);
  rows_room = search rules;
  bytes_room = omega (arith, pieces (λ s. s.octets) (sub_shown c.in-Some.subpacket) (subs_to_come c.subpackets.subpackets) (subs_to_come c.next.new.self) (search rules), c.put_subpacket-reached.ensures.bytes_there, c.subpackets.invariant.bytes_room, c.put_subpacket-reached.auto.bytes);
}

pub returns : goal.returns
returns c = c.subpackets.invariant.all c.subpackets.reached c.subpackets.rows c.subpackets.bytes
    (area_end c.args.place c.args.is_hashed (subs_to_come c.subpackets.subpackets) c.subpackets.reached c.subpackets.rows c.subpackets.bytes (search rules) (search rules) (search rules))
