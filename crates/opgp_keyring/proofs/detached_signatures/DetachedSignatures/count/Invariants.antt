use Rattle.std.proofs.Common.{◌≡◌, ◌≤◌, length, take}
use Rattle.opgp_keyring.specs.Signed.{signature_bodies}
use Rattle.opgp_keyring.proofs.detached_signatures.DetachedSignatures.count.Given as goal

-- the signatures of the packets so far
abbrev pub invariant-loop-packet : goal.invariant-loop-packet
invariant-loop-packet l = record { counted : l.count ≡ length (signature_bodies (take l.packet-index l.self.flat.items)); few : l.count ≤ l.packet-index }
