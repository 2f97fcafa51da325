use Rattle.std.proofs.Common.{◌≡◌, List, get_or, ap, sym, ◌∙◌}
use Rattle.opgp_frame.specs.Packet.{PacketValue}
use Rattle.opgp_keyring.proofs.ReadBodies.{read_one, read_none}
use Rattle.opgp_keyring.proofs.detached_signatures.DetachedSignatures.views.Goals as goal
use Rattle.opgp_keyring.proofs.detached_signatures.DetachedSignatures.views.Goals.{then-kind-number+in_ok-push, else-kind-number}

pub loop-packet-preserved : goal.loop-packet-preserved
loop-packet-preserved c =
    let i = c.loop-packet.packet-index in
    let ps : List PacketValue = c.args.self.now.flat.items in
    let p = c.packet-item.result in
    let at : p ≡ get_or ps i p = c.packet-item.is ∙ ap (λ (l : List PacketValue). get_or l i p) c.deref-packet-items.ensures.value in
    let within = rw c.deref-packet-items.ensures.value at c.loop-packet-test.true in
    elim c.if-kind-number.branch [
      | then-kind-number+in_ok-push w ↦ rw w.views-is (read_one i ps p c.loop-packet.views.items w.push.new.self.items w.read_signature.result within at (sym c.kind.ensures.value ∙ w.if-kind-number.true ∙ c.number.ensures) w.read_signature.ensures w.in_ok-push.ensures.items c.loop-packet.invariant)
      | else-kind-number w ↦ rw w.views-is (read_none i ps p c.loop-packet.views.items within at (λ e. w.if-kind-number.false (c.kind.ensures.value ∙ e ∙ sym c.number.ensures)) c.loop-packet.invariant)
    ]
