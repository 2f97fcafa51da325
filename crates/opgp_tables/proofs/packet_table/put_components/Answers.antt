use Rattle.std.proofs.Common.{rules, arith}
use Rattle.opgp_keyring.specs.Grouped.{component_of, components_left}
use Rattle.opgp_keyring.specs.Keyring.{component_packets}
use Rattle.opgp_tables.proofs.Filling.{component_many, components_end, components_step, piece_bodies, pieces}
use Rattle.opgp_tables.proofs.packet_table.put_components.Goals as goal

pub put_component-reached-requires-clause-few : goal.put_component-reached-requires-clause-few
put_component-reached-requires-clause-few c = omega (
  arith,
  c.requires.few,
  c.components.invariant.count,
  pieces component_packets (component_of c.in-Some.component) (components_left c.components.components) (components_left c.next.new.self) c.in-Some.ensures,
)

pub put_component-reached-requires-clause-rows : goal.put_component-reached-requires-clause-rows
put_component-reached-requires-clause-rows c = omega (
  arith,
  c.components.invariant.rows_room,
  pieces component_packets (component_of c.in-Some.component) (components_left c.components.components) (components_left c.next.new.self) c.in-Some.ensures,
)

pub put_component-reached-requires-clause-bytes : goal.put_component-reached-requires-clause-bytes
put_component-reached-requires-clause-bytes c = omega (
  arith,
  c.components.invariant.bytes_room,
  piece_bodies component_packets (component_of c.in-Some.component) (components_left c.components.components) (components_left c.next.new.self) c.in-Some.ensures,
)

pub components-preserved : goal.components-preserved
components-preserved c = record {
  all = λ there rows bytes f. c.components.invariant.all there rows bytes
      (components_step c.args.certificate c.components.number (component_of c.in-Some.component) (components_left c.components.components) (components_left c.next.new.self) c.components.reached c.put_component-reached.result there
      c.components.rows c.put_component-reached.new.rows rows c.components.bytes c.put_component-reached.new.bytes bytes c.in-Some.ensures c.put_component-reached.ensures f);
  count = omega (arith, pieces component_packets (component_of c.in-Some.component) (components_left c.components.components) (components_left c.next.new.self) c.in-Some.ensures, c.components.invariant.count);
  rows_room = omega (arith, pieces component_packets (component_of c.in-Some.component) (components_left c.components.components) (components_left c.next.new.self) c.in-Some.ensures, c.put_component-reached.ensures.rows_there, component_many c.args.certificate c.components.number c.components.reached.bytes (component_of c.in-Some.component), c.components.invariant.rows_room, c.put_component-reached.auto.rows);
  bytes_room = omega (arith, piece_bodies component_packets (component_of c.in-Some.component) (components_left c.components.components) (components_left c.next.new.self) c.in-Some.ensures, c.put_component-reached.ensures.bytes_there, c.components.invariant.bytes_room, c.put_component-reached.auto.bytes);
}

pub returns : goal.returns
returns c = c.components.invariant.all c.components.reached c.components.rows c.components.bytes
    (components_end c.args.certificate c.components.number (components_left c.components.components) c.components.reached c.components.rows c.components.bytes (search rules) (search rules) (search rules))
