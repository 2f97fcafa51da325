-- The value of a view of a signature.
use Rattle.std.specs.Prelude.{ℕ, List, Option, Some, None}
use Rattle.opgp_packet.specs.declared.sig_view.SigView.{SigView}
use Rattle.opgp_packet.specs.declared.sig_view.SigView.TheVariants.{Three, Four, Six, Other}
use Rattle.opgp_packet.specs.AreasValue.{areas_fields, areas_value}
use Rattle.opgp_packet.specs.OtherView.{other_view_octets}
use Rattle.opgp_packet.specs.Parsed.{body_octets}
use Rattle.opgp_packet.specs.SignatureBody.{SignatureValue, of_three, of_four, of_six, of_other}
use Rattle.opgp_packet.specs.Three.{three_fields, three_value}

-- the signature
abbrev pub sig_view_value : SigView → SignatureValue
sig_view_value (Three s) = of_three (three_fields (three_value s))
sig_view_value (Four s) = of_four (areas_fields (areas_value s))
sig_view_value (Six s) = of_six (areas_fields (areas_value s))
sig_view_value (Other s) = of_other (other_view_octets s)

-- the octets of its body
abbrev pub sig_view_octets : SigView → List ℕ
sig_view_octets (Three s) = body_octets s
sig_view_octets (Four s) = body_octets s
sig_view_octets (Six s) = body_octets s
sig_view_octets (Other s) = other_view_octets s

-- its type, where it is typed
abbrev pub kind_of : SigView → Option ℕ
kind_of (Three s) = Some (three_value s).kind
kind_of (Four s) = Some (areas_value s).kind
kind_of (Six s) = Some (areas_value s).kind
kind_of (Other s) = None

-- the number of its key algorithm
abbrev pub algorithm_of : SigView → Option ℕ
algorithm_of (Three s) = Some (three_value s).algorithm
algorithm_of (Four s) = Some (areas_value s).algorithm
algorithm_of (Six s) = Some (areas_value s).algorithm
algorithm_of (Other s) = None

-- the number of its hash algorithm
abbrev pub hash_of : SigView → Option ℕ
hash_of (Three s) = Some (three_value s).hash
hash_of (Four s) = Some (areas_value s).hash
hash_of (Six s) = Some (areas_value s).hash
hash_of (Other s) = None

-- the left 16 bits of the signed hash value, as it states them
abbrev pub left_of : SigView → Option (List ℕ)
left_of (Three s) = Some (three_value s).left
left_of (Four s) = Some (areas_value s).left
left_of (Six s) = Some (areas_value s).left
left_of (Other s) = None
