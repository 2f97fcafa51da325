use Rattle.std.proofs.Common.{◌≡◌, length, map, slice_get}
use Rattle.opgp_keyring.specs.DetachedSignatures.{detached_packets}
use Rattle.opgp_keyring.specs.Signed.{signature_bodies}
use Rattle.opgp_keyring.specs.SignedLiteral.{signatures_left}
use Rattle.opgp_stack.specs.Documents.{signed_in}
use Rattle.opgp_stack.proofs.around.read_at.Given as goal

-- the signature of all is so far on among those that are left
abbrev pub invariant-signatures : goal.invariant-signatures
invariant-signatures l = slice_get (map signed_in (signature_bodies (detached_packets l.signatures))) l.row
    ≡ slice_get (map signed_in (signatures_left l.left)) l.before

abbrev pub decreases-signatures : goal.decreases-signatures
decreases-signatures l = length (signatures_left l.left)
