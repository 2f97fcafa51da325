use Rattle.std.proofs.Common.{◌++◌, List, ap₂, ◌∙◌}
use Rattle.opgp_frame.specs.Packet.{PacketValue}
use Rattle.opgp_keyring.proofs.Packing.{packed_more, packets_more}
use Rattle.opgp_keyring.proofs.packed.Packed.append.Goals as goal

pub invariant_of-self-2 : goal.invariant_of-self-2
invariant_of-self-2 c =
    let v = c.self.inside in
    let o = c.other.inside in
    rw (c.in_ok-extend_from_slice.ensures.items, c.in_ok-extend_from_slice-2.ensures.items, c.in_ok-reserve.ensures.items, c.deref.ensures.value, c.deref-2.ensures.value)
    (packed_more v.bodies.items o.bodies.items v.headers.items o.headers.items c.self.invariant c.other.invariant)

pub returns-clause-ok : goal.returns-clause-ok
returns-clause-ok c =
    let v = c.self.inside in
    let o = c.other.inside in
    rw (c.in_ok-extend_from_slice.ensures.items, c.in_ok-extend_from_slice-2.ensures.items, c.in_ok-reserve.ensures.items, c.deref.ensures.value, c.deref-2.ensures.value)
    (packets_more v.bodies.items o.bodies.items v.headers.items o.headers.items c.self.invariant.whole ∙ ap₂ (λ (a b : List PacketValue). a ++ b) c.self.view_is c.other.view_is)
