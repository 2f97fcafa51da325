use Rattle.std.proofs.Common.{◌≡◌, ◌+◌, ◌≤◌, ◌++◌, All, drop, length}
use Rattle.std.specs.List.{flat_map}
use Rattle.opgp_packet.specs.Parsed.{body_octets}
use Rattle.opgp_keyring.specs.Grouped.{components_left}
use Rattle.opgp_keyring.specs.Keyring.{IsComponent, certificate_packets, component_packets}
use Rattle.opgp_valid.specs.KnownKeys.{knowns}
use Rattle.opgp_bound.specs.Judged.{components_rows}
use Rattle.opgp_bound.specs.Newest.{newest_components, newest_components_rows}
use Rattle.opgp_bound.specs.Replacing.{AreAhead}
use Rattle.opgp_bound.proofs.role.Context.add_newest_components.Given as goal

abbrev pub invariant-components : goal.invariant-components
invariant-components l = record {
  sound : All IsComponent (components_left l.components);
  packets : certificate_packets l.chosen ++ flat_map component_packets (newest_components l.fn.at (knowns l.fn.self.known.now) l.fn.statements (body_octets l.fn.primary) l.number (components_left l.components) l.rest)
      ≡ certificate_packets l.fn.chosen ++ flat_map component_packets (newest_components l.fn.at (knowns l.fn.self.known.now) l.fn.statements (body_octets l.fn.primary) 0 (components_left l.fn.components) l.fn.verdicts);
  founds : l.founds.items ++ newest_components_rows l.fn.at (knowns l.fn.self.known.now) l.fn.statements (body_octets l.fn.primary) l.number (components_left l.components) l.rest
      ≡ l.fn.founds.items ++ newest_components_rows l.fn.at (knowns l.fn.self.known.now) l.fn.statements (body_octets l.fn.primary) 0 (components_left l.fn.components) l.fn.verdicts;
  rows : drop (components_rows (body_octets l.fn.primary) (components_left l.components)) l.rest ≡ drop (components_rows (body_octets l.fn.primary) (components_left l.fn.components)) l.fn.verdicts;
  ahead : AreAhead l.fn.statements l.number l.ahead;
  count : l.number + length (flat_map component_packets (components_left l.components)) ≤ length (flat_map component_packets (components_left l.fn.components));
}

abbrev pub decreases-components : goal.decreases-components
decreases-components l = length (components_left l.components)
