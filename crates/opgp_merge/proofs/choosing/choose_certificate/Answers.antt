use Rattle.std.proofs.Common.{ap}
use Rattle.opgp_keyring.specs.Grouped.{components_left, hangs_left}
use Rattle.opgp_keyring.specs.Keyring.{CertificateValue, certificate_packets}
use Rattle.opgp_keyring.specs.Member.{member_packet}
use Rattle.opgp_merge.specs.Chosen.{chosen_certificate}
use Rattle.opgp_merge.proofs.Components.{all_chosen, few}
use Rattle.opgp_merge.proofs.Staying.{certificate_is}
use Rattle.opgp_merge.proofs.choosing.choose_certificate.Goals as goal

pub add_components-requires-clause-few : goal.add_components-requires-clause-few
add_components-requires-clause-few c =
    few c.args.certificate (components_left c.components.result) c.components.ensures.few c.components.ensures.value

pub returns-clause-value : goal.returns-clause-value
returns-clause-value c =
    let whole : CertificateValue = c.args.certificate in
    let all = all_chosen c.args.choice whole c.owner-own.result (member_packet c.primary.result) (hangs_left c.hangs.result) (components_left c.components.result)
    (certificate_packets c.in_ok-chosen.chosen) (certificate_packets c.add_own.new.chosen) (certificate_packets c.add_components.new.chosen)
    c.owner-own.ensures c.primary.ensures.value c.hangs.ensures.value c.components.ensures.value
    (ap certificate_packets c.in_ok-chosen.ensures) c.in_ok-add_own.ensures c.in_ok-add_components.ensures in
    c.one_certificate.ensures c.add_components.new.chosen (chosen_certificate c.args.choice whole) c.packets-packets.ensures.certificate (certificate_is c.args.choice whole c.components.ensures.certificate) all
