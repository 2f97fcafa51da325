use Rattle.std.proofs.Common.{◌≡◌, ◌+◌, ◌≤◌, length, Some}
use Rattle.std.specs.List.{flat_map}
use Rattle.opgp_hash.specs.CertificateHasher.{hasher_subject}
use Rattle.opgp_hash.specs.SubjectValue.{first_key}
use Rattle.opgp_packet.specs.Parsed.{body_octets}
use Rattle.opgp_keyring.specs.Grouped.{components_left}
use Rattle.opgp_keyring.specs.Keyring.{component_packets}
use Rattle.opgp_report.specs.Standing.{by_number, component_standing}
use Rattle.opgp_report.specs.Visitor.{Leaves}
use Rattle.opgp_report.proofs.walk.visit_components.Given as goal

abbrev pub invariant-components : goal.invariant-components
invariant-components g l = record {
  shown : Leaves g.V.Visitor.becomes
      l.fn.visitor (by_number (component_standing (body_octets l.primary) l.certificate) 0 (components_left l.initial.components))
      l.visitor (by_number (component_standing (body_octets l.primary) l.certificate) l.number (components_left l.components));
  first : first_key (hasher_subject l.hasher) ≡ Some (body_octets l.primary);
  count : l.number + length (flat_map component_packets (components_left l.components))
      ≤ length (flat_map component_packets (components_left l.initial.components));
}

abbrev pub decreases-components : goal.decreases-components
decreases-components g l = length (components_left l.components)
