-- The value of a signature that owns its body.
use Rattle.std.specs.Prelude.{ℕ, List}
use Rattle.opgp_packet.specs.declared.signature.Signature.{Signature}
use Rattle.opgp_packet.specs.declared.signature.Signature.TheVariants.{Three, Four, Six, Other}
use Rattle.opgp_packet.specs.AreasValue.{areas_fields, areas_value}
use Rattle.opgp_packet.specs.OtherSignature.{other_signature_octets}
use Rattle.opgp_packet.specs.Parsed.{body_octets}
use Rattle.opgp_packet.specs.SignatureBody.{SignatureValue, of_three, of_four, of_six, of_other}
use Rattle.opgp_packet.specs.Three.{three_fields, three_value}

-- the signature
abbrev pub signature_value : Signature → SignatureValue
signature_value (Three s) = of_three (three_fields (three_value s))
signature_value (Four s) = of_four (areas_fields (areas_value s))
signature_value (Six s) = of_six (areas_fields (areas_value s))
signature_value (Other s) = of_other (other_signature_octets s)

-- the octets of its body
abbrev pub signature_octets : Signature → List ℕ
signature_octets (Three s) = body_octets s
signature_octets (Four s) = body_octets s
signature_octets (Six s) = body_octets s
signature_octets (Other s) = other_signature_octets s
