use Rattle.std.proofs.Common.{◌∙◌, ◌++◌, ℕ, List, Option, ap}
use Rattle.opgp_octets.specs.declared.signature_type.SignatureType.{SignatureType}
use Rattle.opgp_frame.specs.Packet.{PacketValue}
use Rattle.opgp_packet.specs.Parsed.{body_octets}
use Rattle.opgp_keyring.specs.Grouped.{component_of, components_left}
use Rattle.opgp_keyring.specs.Keyring.{ComponentValue, IsComponent, certificate_packets, component_packets}
use Rattle.opgp_report.specs.declared.verifier.Verdict.{Verdict}
use Rattle.opgp_valid.proofs.Parts.{counted}
use Rattle.opgp_valid.specs.KnownKeys.{knowns}
use Rattle.opgp_valid.specs.declared.statement.Statement.{Statement}
use Rattle.opgp_hash.specs.declared.fingerprints.Fingerprint.{Fingerprint}
use Rattle.opgp_bound.specs.Newest.{newest_component, newest_component_rows}
use Rattle.opgp_bound.specs.Replacing.{time_of}
use Rattle.opgp_bound.proofs.Found.{component_rows_more}
use Rattle.opgp_bound.proofs.Kept.{first_is, rest_are}
use Rattle.opgp_bound.proofs.NewestKept.{components_added, components_rows_added}
use Rattle.opgp_bound.proofs.role.Context.add_newest_components.Goals as goal

pub add_newest_component-requires : goal.add_newest_component-requires
add_newest_component-requires c = first_is IsComponent (components_left c.components.components) (components_left c.next.new.self) (component_of c.in-Some.component) c.in-Some.ensures c.components.invariant.sound

pub components-preserved : goal.components-preserved
components-preserved c =
    let l = c.components in
    let at = c.args.at in
    let known = knowns c.args.self.now.known.now in
    let ss : List Statement = c.args.statements.now in
    let body : List ℕ = body_octets c.args.primary in
    let cs : List ComponentValue = components_left l.components in
    let more : List ComponentValue = components_left c.next.new.self in
    let d : ComponentValue = component_of c.in-Some.component in
    let founds : List Verdict = l.rest.now in
    let behind : List Verdict = c.in_ok-rest.rest.now in
    let newest : SignatureType → Option ℕ = time_of c.next-in-Some.result.0 in
    let times = c.next-in-Some.ensures.times ss l.invariant.ahead in
    let packets : List PacketValue = certificate_packets l.chosen in
    record {
      sound = rest_are IsComponent cs more d c.in-Some.ensures l.invariant.sound;
      packets = components_added at known ss body l.number cs more d founds behind newest packets (certificate_packets c.add_newest_component.new.chosen) c.in-Some.ensures c.in_ok-rest.ensures.rest times
          (c.in_ok-rest.ensures.packets ∙ ap (λ (print : Fingerprint). packets ++ component_packets (newest_component newest known print body d founds)) c.requires.primary) ∙ l.invariant.packets;
      founds = components_rows_added at known ss body l.number cs more d founds behind newest l.founds.items c.add_newest_component.new.founds.items c.in-Some.ensures c.in_ok-rest.ensures.rest times
          (c.in_ok-rest.ensures.founds ∙ ap (λ (print : Fingerprint). l.founds.items ++ newest_component_rows newest known print body d founds) c.requires.primary) ∙ l.invariant.founds;
      rows = component_rows_more body cs more d founds behind c.in-Some.ensures c.in_ok-rest.ensures.rest ∙ l.invariant.rows;
      ahead = c.next-in-Some.ensures.ahead ss l.invariant.ahead;
      count = counted l.number d cs more _ c.in-Some.ensures l.invariant.count;
    }
