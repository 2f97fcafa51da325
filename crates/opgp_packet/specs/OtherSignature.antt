-- The value of a signature that isn't parsed, and owns its body.
use Rattle.std.specs.Prelude.{ℕ, List}
use Rattle.opgp_packet.specs.declared.other_signature.OtherSignature.{OtherSignature}

-- the octets of its body
abbrev pub other_signature_octets : OtherSignature → List ℕ
other_signature_octets s = s.body.items
