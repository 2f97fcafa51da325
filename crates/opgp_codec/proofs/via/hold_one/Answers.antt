use Rattle.std.proofs.Common.{◌∙◌, sym}
use Rattle.opgp_frame.specs.Packet.{spelling}
use Rattle.opgp_keyring.specs.Member.{member_packet}
use Rattle.opgp_codec.proofs.Ways.{held_bare}
use Rattle.opgp_codec.proofs.via.hold_one.Goals as goal

pub returns : goal.returns
returns g c =
    let p = c.hold_packet.ensures in
    held_bare g.W.Sink.held g.W.Sink.has_failed c.args.output.now c.hold_packet.new.output c.args.armoring.now c.hold_packet.result (spelling (member_packet c.args.packet)) (sym c.is_some.ensures ∙ c.if-is_some.false) c.requires p.same
    p.held p.left
