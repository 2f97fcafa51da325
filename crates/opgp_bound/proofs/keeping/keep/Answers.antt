use Rattle.std.proofs.Common.{ap}
use Rattle.opgp_keyring.specs.Keyring.{certificate_packets}
use Rattle.opgp_keyring.specs.Member.{member_packet}
use Rattle.opgp_bound.specs.Bound.{kept_certificate}
use Rattle.opgp_bound.proofs.Kept.{all_kept, certificate_is}
use Rattle.opgp_bound.proofs.keeping.keep.Goals as goal

pub returns-clause-value : goal.returns-clause-value
returns-clause-value c =
    let p = member_packet c.args.primary in
    let all = all_kept p c.args.hangs.now c.args.components.now (certificate_packets c.in_ok-chosen.chosen) (certificate_packets c.add_kept.new.chosen) (certificate_packets c.add_left.new.chosen) (certificate_packets c.add_components.new.chosen)
    (ap certificate_packets c.in_ok-chosen.ensures) c.in_ok-add_kept.ensures c.in_ok-add_left.ensures c.in_ok-add_components.ensures in
    c.one_certificate.ensures c.add_components.new.chosen (kept_certificate p c.args.hangs.now c.args.components.now) c.packets-packets.ensures.certificate
    (certificate_is p c.args.hangs.now c.args.components.now c.requires.primary c.requires.hangs c.requires.components) all
