use Rattle.std.proofs.Common.{List, map, ap, ◌∙◌}
use Rattle.opgp_frame.specs.Packet.{PacketValue}
use Rattle.opgp_frame.specs.Reframed.{reframed}
use Rattle.opgp_keyring.proofs.Packing.{packed_normal, headers_normal}
use Rattle.opgp_keyring.proofs.packed.PackedReframe.reframe.Goals as goal

pub invariant_of-self : goal.invariant_of-self
invariant_of-self c = rw c.reframe_all.ensures (packed_normal c.self.inside.bodies.items c.self.inside.headers.items c.self.invariant)

pub returns : goal.returns
returns c = rw c.reframe_all.ensures (headers_normal c.self.inside.bodies.items c.self.inside.headers.items c.self.invariant.whole c.self.invariant.parts ∙ ap (λ (l : List PacketValue). map reframed l) c.self.view_is)
