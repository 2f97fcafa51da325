use Rattle.std.proofs.Common.{◌∙◌, ap}
use Rattle.opgp_frame.specs.Packet.{PacketValue}
use Rattle.opgp_packet.specs.Parsed.{body_octets}
use Rattle.opgp_keyring.specs.Grouped.{component_of}
use Rattle.opgp_valid.specs.Facts.{facts_value}
use Rattle.opgp_valid.proofs.PartCauses.{subkey_there}
use Rattle.opgp_valid.proofs.key_causes.part_cause.Goals as goal

pub returns-in-Subkey : goal.returns-in-Subkey
returns-in-Subkey c =
    subkey_there (facts_value c.args.facts) c.args.at c.args.part.number c.created_of.result c.head.result.header.kind (component_of c.args.component).head (body_octets c.in-Subkey.key) c.subkey_cause.result
    c.in-Subkey.ensures.kind (ap (λ (p : PacketValue). p.kind) c.head.ensures.value) (c.in-Subkey.ensures.octets ∙ ap (λ (p : PacketValue). p.body) c.head.ensures.value) c.created_of.ensures c.subkey_cause.ensures
