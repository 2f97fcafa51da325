-- What a signature writes is read again as that signature.
use Rattle.std.proofs.Common.{◌≡◌, Ok}
use Rattle.opgp_packet.proofs.GrammarLaws.{body_found}
use Rattle.opgp_packet.specs.declared.signature.Signature.{Signature}
use Rattle.opgp_packet.specs.declared.signature.Signature.TheVariants.{Three, Four, Six, Other}
use Rattle.opgp_packet.specs.AreasValue.{areas_fields, areas_value}
use Rattle.opgp_packet.specs.Signature.{signature_octets, signature_value}
use Rattle.opgp_packet.specs.SignatureBody.{version_three, version_four, version_six, of_three, of_four, of_six, signature_at}
use Rattle.opgp_packet.specs.Three.{three_fields, three_value}
use Rattle.opgp_packet.proofs.SignatureLaws.{sig_only}

pub written : (s : Signature) → signature_at (signature_octets s) ≡ Ok (signature_value s)
written (Three s) = let f = three_fields (three_value s) in sig_only s.body.items (of_three f) s.octets (body_found version_three s.body.items f s.octets s.parses)
written (Four s) = let f = areas_fields (areas_value s) in sig_only s.body.items (of_four f) s.octets (body_found version_four s.body.items f s.octets s.parses)
written (Six s) = let f = areas_fields (areas_value s) in sig_only s.body.items (of_six f) s.octets (body_found version_six s.body.items f s.octets s.parses)
written (Other s) = s.parses
