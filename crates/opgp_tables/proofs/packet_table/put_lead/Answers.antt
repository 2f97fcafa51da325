use Rattle.std.proofs.Common.{rules, arith, ap, length}
use Rattle.opgp_keyring.specs.Member.{member_packet, members_left}
use Rattle.opgp_tables.specs.Room.{none}
use Rattle.opgp_tables.proofs.Filling.{hangs_end, hangs_step, pieces}
use Rattle.opgp_tables.proofs.packet_table.put_lead.Goals as goal

pub put_member-reached-requires-clause-rows : goal.put_member-reached-requires-clause-rows
put_member-reached-requires-clause-rows c = omega (arith, c.lead.invariant.rows_room, ap (λ l. length l) c.in-Some.ensures)

pub put_member-reached-requires-clause-bytes : goal.put_member-reached-requires-clause-bytes
put_member-reached-requires-clause-bytes c = omega (arith, c.lead.invariant.bytes_room, pieces (λ p. p.body) (member_packet c.in-Some.member) (members_left c.lead.lead) (members_left c.next.new.self) c.in-Some.ensures)

pub lead-preserved : goal.lead-preserved
lead-preserved c = record {
  all = λ there rows bytes f. c.lead.invariant.all there rows bytes
      (hangs_step none none c.lead.number (member_packet c.in-Some.member) (members_left c.lead.lead) (members_left c.next.new.self) c.lead.reached c.put_member-reached.result there
      c.lead.rows c.put_member-reached.new.rows rows c.lead.bytes c.put_member-reached.new.bytes bytes c.in-Some.ensures c.put_member-reached.ensures f);
  count = search rules;
  rows_room = search rules;
  bytes_room = omega (arith, pieces (λ p. p.body) (member_packet c.in-Some.member) (members_left c.lead.lead) (members_left c.next.new.self) c.in-Some.ensures, c.put_member-reached.ensures.bytes_there, c.lead.invariant.bytes_room, c.put_member-reached.auto.bytes);
}

pub returns : goal.returns
returns c = c.lead.invariant.all c.lead.reached c.lead.rows c.lead.bytes
    (hangs_end none none c.lead.number (members_left c.lead.lead) c.lead.reached c.lead.rows c.lead.bytes (search rules) (search rules) (search rules))
