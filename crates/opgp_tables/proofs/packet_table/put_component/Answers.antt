use Rattle.std.proofs.Common.{rules, arith, ap, length, length-append}
use Rattle.opgp_keyring.specs.Grouped.{component_of}
use Rattle.opgp_tables.specs.Packets.{bodies}
use Rattle.opgp_tables.proofs.Filling.{component_both}
use Rattle.opgp_tables.proofs.packet_table.put_component.Goals as goal

pub put_member-behind-requires-clause-rows : goal.put_member-behind-requires-clause-rows
put_member-behind-requires-clause-rows c = omega (arith, c.requires.rows)

pub put_member-behind-requires-clause-bytes : goal.put_member-behind-requires-clause-bytes
put_member-behind-requires-clause-bytes c =
    omega (arith, c.requires.bytes, length-append (component_of c.args.component).head.body (bodies (component_of c.args.component).hangs), ap (λ p. length p.body) c.head.ensures.value)

pub put_hangs-requires-clause-few : goal.put_hangs-requires-clause-few
put_hangs-requires-clause-few c = omega (arith, c.requires.few, ap (λ l. length l) c.hangs.ensures)

pub put_hangs-requires-clause-rows : goal.put_hangs-requires-clause-rows
put_hangs-requires-clause-rows c = omega (arith, c.requires.rows, c.put_member-behind.ensures.rows_there, c.put_member-behind.auto.rows, ap (λ l. length l) c.hangs.ensures)

pub put_hangs-requires-clause-bytes : goal.put_hangs-requires-clause-bytes
put_hangs-requires-clause-bytes c = omega (
  arith,
  c.requires.bytes,
  length-append (component_of c.args.component).head.body (bodies (component_of c.args.component).hangs),
  c.put_member-behind.ensures.bytes_there,
  c.put_member-behind.auto.bytes,
  ap (λ p. length p.body) c.head.ensures.value,
  ap (λ l. length (bodies l)) c.hangs.ensures,
)

pub returns : goal.returns
returns c = component_both c.args.certificate c.args.number (component_of c.args.component) c.args.here c.put_member-behind.result c.put_hangs.result
    c.args.rows.now c.put_member-behind.new.rows c.put_hangs.new.rows c.args.bytes.now c.put_member-behind.new.bytes c.put_hangs.new.bytes
    (search rules) (search rules)
