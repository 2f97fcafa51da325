use Rattle.std.proofs.Common.{take}
use Rattle.opgp_keyring.specs.Signed.{signature_bodies}
use Rattle.opgp_keyring.proofs.ReadBodies.{AreRead}
use Rattle.opgp_keyring.proofs.detached_signatures.DetachedSignatures.views.Given as goal

-- the signatures of the packets so far were read
abbrev pub invariant-loop-packet : goal.invariant-loop-packet
invariant-loop-packet l = AreRead l.views.items (signature_bodies (take l.packet-index l.self.flat.items))
