use Rattle.std.proofs.Common.{List, ◌<◌, ◌^◌, length, subst, arith}
use Rattle.opgp_frame.specs.Packet.{PacketValue}
use Rattle.opgp_keyring.specs.declared.header.Header.{Header}
use Rattle.opgp_keyring.proofs.Packing.{count}
use Rattle.opgp_keyring.proofs.packed.Packed.members.Goals as goal

pub returns-clause-few : goal.returns-clause-few
returns-clause-few c =
    let v = c.self.inside in
    let few : length v.headers.items < 2 ^ 64 = subst (λ (l : List Header). length l < 2 ^ 64) c.deref-2.ensures.value c.deref-2.type_inv.0 in
    subst (λ (ps : List PacketValue). length ps < 2 ^ 64) c.self.view_is (omega (arith, few, count v.bodies.items v.headers.items))
