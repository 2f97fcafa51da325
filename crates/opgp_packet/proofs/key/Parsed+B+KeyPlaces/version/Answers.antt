use Rattle.opgp_packet.specs.Key.{key_value}
use Rattle.opgp_packet.specs.KeyBody.{key, key_fields}
use Rattle.opgp_packet.specs.Parsed.{body_octets}
use Rattle.opgp_packet.proofs.GrammarLaws.{body_found}
use Rattle.opgp_packet.proofs.KeyLaws.{version_known}
use Rattle.opgp_packet.proofs.key.Parsed+B+KeyPlaces.version.Goals as goal

pub returns-clause-known : goal.returns-clause-known
returns-clause-known g c =
    let v = c.args.self.now in
    version_known (key_value v) (body_octets v) (body_found key (body_octets v) (key_fields (key_value v)) v.octets v.parses)
