use Rattle.std.proofs.Common.{◌≡◌, length, map, slice_get}
use Rattle.opgp_keyring.specs.SignedLiteral.{signatures_left, signed_packets}
use Rattle.opgp_packet.specs.SignatureBody.{signature_at}
use Rattle.opgp_stack.specs.Hashing.{asked_about, content_in, message_asked}
use Rattle.opgp_stack.proofs.hashing.question_of.Given as goal

-- what is wanted of all signatures is so far on among those that are left
abbrev pub invariant-signatures : goal.invariant-signatures
invariant-signatures l = slice_get (message_asked (signed_packets l.message)) l.row
    ≡ slice_get (map (λ body. asked_about (content_in (signed_packets l.message)) (signature_at body)) (signatures_left l.signatures)) l.left

abbrev pub decreases-signatures : goal.decreases-signatures
decreases-signatures l = length (signatures_left l.signatures)
