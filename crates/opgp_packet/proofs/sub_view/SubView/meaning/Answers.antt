use Rattle.std.proofs.Common.{sym, subst}
use Rattle.opgp_octets.specs.SubpacketKind.{subpacket_kind_of}
use Rattle.opgp_packet.specs.Meaning.{Meaning, Means}
use Rattle.opgp_packet.specs.SubView.{sub_shown, kind_shown}
use Rattle.opgp_packet.proofs.MeaningLaws.{meanings_are_read}
use Rattle.opgp_packet.proofs.sub_view.SubView.meaning.Goals as goal

pub returns-clause-means : goal.returns-clause-means
returns-clause-means c =
    let sub = sub_shown c.args.self.now in
    let kind = subpacket_kind_of (kind_shown sub.kind) in
    subst (λ (m : Meaning). Means kind sub.octets m) (sym c.read_meaning.ensures.exact) (meanings_are_read kind sub.octets c.read_meaning.ensures.octets)
