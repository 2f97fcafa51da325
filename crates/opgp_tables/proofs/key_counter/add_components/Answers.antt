use Rattle.std.proofs.Common.{ap, length, arith}
use Rattle.std.specs.List.{flat_map}
use Rattle.opgp_keyring.specs.Grouped.{component_of, components_left}
use Rattle.opgp_report.specs.Report.{subkey_bodies}
use Rattle.opgp_tables.specs.Keys.{component_material}
use Rattle.opgp_tables.proofs.Filling.{pieces}
use Rattle.opgp_tables.proofs.key_counter.add_components.Goals as goal

-- what a component adds is no longer to come
pub components-preserved : goal.components-preserved
components-preserved c = record {
  rows = omega (arith, pieces subkey_bodies (component_of c.in-Some.component) (components_left c.components.components) (components_left c.next.new.self) c.in-Some.ensures, c.add_component.ensures.rows, c.components.invariant.rows);
  bytes = omega (arith, pieces component_material (component_of c.in-Some.component) (components_left c.components.components) (components_left c.next.new.self) c.in-Some.ensures, c.add_component.ensures.bytes, c.components.invariant.bytes);
  most_rows = omega (arith, c.add_component.ensures.rows);
  most_bytes = omega (arith, c.add_component.ensures.bytes);
}

pub returns-clause-rows : goal.returns-clause-rows
returns-clause-rows c = omega (arith, ap (λ l. length (flat_map subkey_bodies l)) c.in_default.ensures.0, c.components.invariant.rows, c.components.invariant.most_rows)

pub returns-clause-bytes : goal.returns-clause-bytes
returns-clause-bytes c = omega (arith, ap (λ l. length (flat_map component_material l)) c.in_default.ensures.0, c.components.invariant.bytes, c.components.invariant.most_bytes)
