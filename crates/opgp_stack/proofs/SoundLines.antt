-- The lines of a body that has no fault.
use Rattle.std.proofs.Common.{◌≡◌, ◌∙◌, ℕ, List, ◌++◌, codes, ap, length, append-nil, refl, rules, Result, Ok, Err}
use Rattle.opgp_octets.specs.declared.fault.BodyFault.{BodyFault}
use Rattle.opgp_octets.specs.PacketType.{packet_type_number}
use Rattle.opgp_octets.specs.declared.packet_type.PacketType.TheVariants as packet
use Rattle.opgp_frame.specs.Packet.{PacketValue}
use Rattle.opgp_packet.specs.AreasValue.{areas_fields, areas_value}
use Rattle.opgp_packet.specs.SignatureBody.{SignatureValue, of_three, of_four, of_six, signature_at, version_three, version_four, version_six}
use Rattle.opgp_packet.specs.SigView.{sig_view_octets, sig_view_value}
use Rattle.opgp_packet.specs.Three.{three_fields, three_value}
use Rattle.opgp_packet.specs.declared.sig_view.SigView.{SigView}
use Rattle.opgp_packet.specs.declared.sig_view.SigView.TheVariants.{Three, Four, Six, Other}
use Rattle.opgp_keyring.specs.Content.{IsKept, content_kind, content_octets}
use Rattle.opgp_keyring.specs.declared.content.Content.{Content}
use Rattle.opgp_keyring.specs.declared.content.Content.TheVariants as content
use Rattle.opgp_packet.proofs.GrammarLaws.{body_found}
use Rattle.opgp_packet.proofs.SignatureLaws.{sig_only}
use Rattle.opgp_stack.specs.Listing.{opaque_text, packet_line, read_text, signature_line, signature_text}
use Rattle.opgp_stack.specs.ValuedListing.{valued_packet_line, with_values}
use Rattle.opgp_stack.specs.Values.{valued_areas, where_sound}

pub sound_line : {A : Type 0} (r : Result A BodyFault) (value : A) (line : List ℕ) → r ≡ Ok value → where_sound r line ≡ codes "  " ++ line
sound_line {A} r value line e = ap (λ (s : Result A BodyFault). where_sound s line) e

pub signature_parts : (body : List ℕ) (v : SignatureValue) → signature_at body ≡ Ok v
    → (codes "  " ++ signature_line body) ++ valued_areas (signature_at body) ≡ codes "  " ++ (signature_text v ++ valued_areas (Ok v))
signature_parts body v e = ap (λ (s : Result SignatureValue BodyFault). (codes "  " ++ read_text (length body) s) ++ valued_areas s) e

-- of a body that is no signature's
pub opaque_parts : (body : List ℕ) (f : BodyFault) → signature_at body ≡ Err f
    → (codes "  " ++ signature_line body) ++ valued_areas (signature_at body) ≡ codes "  " ++ opaque_text (length body)
opaque_parts body f e =
    ap (λ (s : Result SignatureValue BodyFault). (codes "  " ++ read_text (length body) s) ++ valued_areas s) e ∙ append-nil (codes "  " ++ opaque_text (length body))

-- ---- of a signature that is kept as it is read
read_view : (s : SigView) → signature_at (sig_view_octets s) ≡ Ok (sig_view_value s)
read_view (Three s) = let f = three_fields (three_value s) in sig_only s.body.now (of_three f) s.octets (body_found version_three s.body.now f s.octets s.parses)
read_view (Four s) = let f = areas_fields (areas_value s) in sig_only s.body.now (of_four f) s.octets (body_found version_four s.body.now f s.octets s.parses)
read_view (Six s) = let f = areas_fields (areas_value s) in sig_only s.body.now (of_six f) s.octets (body_found version_six s.body.now f s.octets s.parses)
read_view (Other s) = s.parses

read_body : (s : SigView) (body : List ℕ) → body ≡ sig_view_octets s → signature_at body ≡ Ok (sig_view_value s)
read_body s body b = ap signature_at b ∙ read_view s

pub view_line : (p : PacketValue) (s : SigView) → p.kind ≡ packet_type_number packet.Signature → p.body ≡ sig_view_octets s → packet_line p ≡ signature_text (sig_view_value s)
view_line p s k b = rw k (ap (read_text (length p.body)) (read_body s p.body b))

pub valued_view_line : (p : PacketValue) (s : SigView) → p.kind ≡ packet_type_number packet.Signature → p.body ≡ sig_view_octets s
    → valued_packet_line p ≡ with_values (Ok (sig_view_value s)) (signature_text (sig_view_value s))
valued_view_line p s k b = rw k (ap (λ (r : Result SignatureValue BodyFault). with_values r (read_text (length p.body) r)) (read_body s p.body b))

-- neither a key nor a signature that is read
abbrev pub IsOther : Content → Type 0
IsOther (content.Primary key) = ⊥
IsOther (content.Subkey key) = ⊥
IsOther (content.Signature s) = ⊥
IsOther c = Unit {0}

pub other_line : (p : PacketValue) (c : Content) → p.kind ≡ content_kind c → p.body ≡ content_octets c → IsKept c → IsOther c → valued_packet_line p ≡ packet_line p
other_line p (content.Primary key) k b kept other = absurd other
other_line p (content.Subkey key) k b kept other = absurd other
other_line p (content.UserId id) k b kept other = rw k refl
other_line p (content.Attribute attribute) k b kept other = rw k refl
other_line p (content.Signature s) k b kept other = absurd other
other_line p (content.Malformed body) k b kept other =
    rw k (ap (λ (r : Result SignatureValue BodyFault). with_values r (read_text (length p.body) (signature_at p.body))) (ap signature_at b ∙ kept.1))
other_line p (content.Filler kind body) k b kept other = search rules
