use Rattle.std.proofs.Common.{◌∷◌, [], ◌++◌, List, ap, ◌∙◌}
use Rattle.opgp_frame.specs.Packet.{PacketValue}
use Rattle.opgp_keyring.specs.Member.{member_packet}
use Rattle.opgp_keyring.proofs.Packing.{pushed, pushed_is}
use Rattle.opgp_keyring.proofs.packed.Packed.push.Goals as goal

pub invariant_of-self-2 : goal.invariant_of-self-2
invariant_of-self-2 c =
    let v = c.self.inside in
    let m = c.args.member in
    rw (c.in_ok-extend_from_slice.ensures.items, c.in_ok-push.ensures.items, c.in_ok-reserve.ensures.items, c.body.ensures, c.header-header.ensures)
    (pushed v.bodies.items v.headers.items m.header m.body.now c.self.invariant m.whole m.part)

pub returns-clause-ok : goal.returns-clause-ok
returns-clause-ok c =
    let v = c.self.inside in
    let m = c.args.member in
    rw (c.in_ok-extend_from_slice.ensures.items, c.in_ok-push.ensures.items, c.in_ok-reserve.ensures.items, c.body.ensures, c.header-header.ensures)
    (pushed_is v.bodies.items v.headers.items m.header m.body.now c.self.invariant m.whole ∙ ap (λ (l : List PacketValue). l ++ member_packet m ∷ []) c.self.view_is)
