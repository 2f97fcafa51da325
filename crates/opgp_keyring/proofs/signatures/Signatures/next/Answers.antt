use Rattle.opgp_keyring.proofs.signatures.Signatures.next.Goals as goal

pub returns-in-Some : goal.returns-in-Some
returns-in-Some c = (c.in-Some.packet.now.body, rw c.number.ensures at c.in-Some.ensures.bodies, c.read_signature.ensures)
