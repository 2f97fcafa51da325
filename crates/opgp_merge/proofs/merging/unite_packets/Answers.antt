use Rattle.std.proofs.Common.{◌≡◌, List, subst}
use Rattle.std.specs.Prelude.{IfOk}
use Rattle.opgp_frame.specs.Packet.{PacketValue}
use Rattle.opgp_merge.proofs.Uniting.{packets_joined}
use Rattle.opgp_merge.proofs.merging.unite_packets.Goals as goal

pub returns : goal.returns
returns c =
    let P : List PacketValue → Type 0 = λ l. IfOk c.join.result (λ v. v.items ≡ l) in
    subst P (packets_joined c.args.packets.items) c.join.ensures
