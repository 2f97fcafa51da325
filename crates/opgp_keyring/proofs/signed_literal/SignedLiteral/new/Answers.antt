use Rattle.opgp_keyring.proofs.SignedBodies.{one_literal}
use Rattle.opgp_keyring.proofs.signed_literal.SignedLiteral.new.Goals as goal

pub invariant_of-result : goal.invariant_of-result
invariant_of-result c = record { sound = c.requires.sound; one = one_literal c.args.flat.items c.requires.signed }
