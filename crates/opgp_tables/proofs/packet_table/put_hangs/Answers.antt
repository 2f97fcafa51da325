use Rattle.std.proofs.Common.{rules, arith, ap, length}
use Rattle.opgp_keyring.specs.Grouped.{hangs_left}
use Rattle.opgp_keyring.specs.Member.{member_packet}
use Rattle.opgp_tables.proofs.Filling.{hangs_end, hangs_step, pieces}
use Rattle.opgp_tables.proofs.packet_table.put_hangs.Goals as goal

pub put_member-reached-requires-clause-rows : goal.put_member-reached-requires-clause-rows
put_member-reached-requires-clause-rows c = omega (arith, c.hangs.invariant.rows_room, ap (λ l. length l) c.in-Some.ensures)

pub put_member-reached-requires-clause-bytes : goal.put_member-reached-requires-clause-bytes
put_member-reached-requires-clause-bytes c = omega (arith, c.hangs.invariant.bytes_room, pieces (λ p. p.body) (member_packet c.in-Some.member) (hangs_left c.hangs.hangs) (hangs_left c.next.new.self) c.in-Some.ensures)

pub hangs-preserved : goal.hangs-preserved
hangs-preserved c = record {
  all = λ there rows bytes f. c.hangs.invariant.all there rows bytes
      (hangs_step c.args.certificate c.args.component c.hangs.number (member_packet c.in-Some.member) (hangs_left c.hangs.hangs) (hangs_left c.next.new.self) c.hangs.reached c.put_member-reached.result there
      c.hangs.rows c.put_member-reached.new.rows rows c.hangs.bytes c.put_member-reached.new.bytes bytes c.in-Some.ensures c.put_member-reached.ensures f);
  count = search rules;
  rows_room = search rules;
  bytes_room = omega (arith, pieces (λ p. p.body) (member_packet c.in-Some.member) (hangs_left c.hangs.hangs) (hangs_left c.next.new.self) c.in-Some.ensures, c.put_member-reached.ensures.bytes_there, c.hangs.invariant.bytes_room, c.put_member-reached.auto.bytes);
}

pub returns : goal.returns
returns c = c.hangs.invariant.all c.hangs.reached c.hangs.rows c.hangs.bytes
    (hangs_end c.args.certificate c.args.component c.hangs.number (hangs_left c.hangs.hangs) c.hangs.reached c.hangs.rows c.hangs.bytes (search rules) (search rules) (search rules))
