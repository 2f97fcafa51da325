use Rattle.std.proofs.Common.{◌≡◌, [], take}
use Rattle.opgp_keyring.specs.Signed.{bodies_of}
use Rattle.opgp_keyring.proofs.signatures.first_of.Given as goal

-- none of the packets so far has the type
abbrev pub invariant-loop-i : goal.invariant-loop-i
invariant-loop-i l = bodies_of l.kind (take l.i l.packets) ≡ []
