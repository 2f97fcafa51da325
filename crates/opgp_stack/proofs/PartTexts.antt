-- What is made of the parts of a keyring is what is made of it.
use Rattle.std.proofs.Common.{◌≡◌, ℕ, List, [], ◌∷◌, ◌++◌, map, refl, sym, ap, ◌∙◌, append-nil}
use Rattle.std.specs.List.{flat_map}
use Rattle.std.proofs.lemmas.List.Concat.{flat_map-append}
use Rattle.opgp_frame.specs.Packet.{PacketValue, packets_octets, spelling}
use Rattle.opgp_frame.specs.Reframed.{reframed}
use Rattle.opgp_merge.specs.Chosen.{chosen_certificate, chosen_keyring, chosen_part}
use Rattle.opgp_merge.specs.declared.choice.Choice.{Choice}
use Rattle.opgp_keyring.specs.Composed.{PartValue, of_lead, of_certificate, lead_parts, parts_of}
use Rattle.opgp_keyring.specs.Keyring.{CertificateValue, KeyringValue, certificate_packets, flat}
use Rattle.opgp_keyring.specs.Normal.{normal_certificate, normal_of}
use Rattle.opgp_keyring.specs.Parts.{normal_part, part_packets}
use Rattle.opgp_codec.specs.declared.out.Out.{Out}
use Rattle.opgp_codec.specs.Writing.{certificates_text, packets_text}
use Rattle.opgp_stack.specs.Listing.{listing, packet_line}
use Rattle.opgp_stack.specs.Parts.{certificate_text, chosen_octets, normal_octets, part_lines, part_octets, part_valued_lines}
use Rattle.opgp_stack.specs.ValuedListing.{valued_listing, valued_packet_line}

-- a part more
pub text_push : (text : PartValue → List ℕ) (parts : List PartValue) (part : PartValue) → flat_map text parts ++ text part ≡ flat_map text (parts ++ part ∷ [])
text_push text parts part = ap (λ (o : List ℕ). flat_map text parts ++ o) (sym (append-nil (text part))) ∙ sym (flat_map-append text parts (part ∷ []))

-- what is made of each packet
lead_text : (f : PacketValue → List ℕ) (ps : List PacketValue) → flat_map (λ part. flat_map f (part_packets part)) (lead_parts ps) ≡ flat_map f ps
lead_text f [] = refl
lead_text f (p ∷ ps) = append-nil (flat_map f (p ∷ ps))

certificates_packets_text : (f : PacketValue → List ℕ) (cs : List CertificateValue) → flat_map (λ part. flat_map f (part_packets part)) (map of_certificate cs) ≡ flat_map f (flat_map certificate_packets cs)
certificates_packets_text f [] = refl
certificates_packets_text f (c ∷ cs) =
    ap (λ (o : List ℕ). flat_map f (certificate_packets c) ++ o) (certificates_packets_text f cs) ∙ sym (flat_map-append f (certificate_packets c) (flat_map certificate_packets cs))

flat_text : (f : PacketValue → List ℕ) (r : KeyringValue) → flat_map (λ part. flat_map f (part_packets part)) (parts_of r) ≡ flat_map f (flat r)
flat_text f r =
    flat_map-append (λ part. flat_map f (part_packets part)) (lead_parts r.lead) (map of_certificate r.certificates)
    ∙ ap (λ (o : List ℕ). o ++ flat_map (λ part. flat_map f (part_packets part)) (map of_certificate r.certificates)) (lead_text f r.lead)
    ∙ ap (λ (o : List ℕ). flat_map f r.lead ++ o) (certificates_packets_text f r.certificates)
    ∙ sym (flat_map-append f r.lead (flat_map certificate_packets r.certificates))

pub lines_text : (r : KeyringValue) → flat_map part_lines (parts_of r) ≡ listing (flat r)
lines_text r = flat_text packet_line r

pub valued_lines_text : (r : KeyringValue) → flat_map part_valued_lines (parts_of r) ≡ valued_listing (flat r)
valued_lines_text r = flat_text valued_packet_line r

pub packets_text_of : (r : KeyringValue) → flat_map part_octets (parts_of r) ≡ packets_octets (flat r)
packets_text_of r = flat_text spelling r

-- in the current format
normal_certificates : (f : PartValue → List ℕ) (cs : List CertificateValue) → flat_map (λ part. f (normal_part part)) (map of_certificate cs) ≡ flat_map f (map of_certificate (map normal_certificate cs))
normal_certificates f [] = refl
normal_certificates f (c ∷ cs) = ap (λ (o : List ℕ). f (of_certificate (normal_certificate c)) ++ o) (normal_certificates f cs)

normal_in : (f : PartValue → List ℕ) (lead : List PacketValue) (cs : List CertificateValue)
    → flat_map (λ part. f (normal_part part)) (lead_parts lead ++ map of_certificate cs) ≡ flat_map f (lead_parts (map reframed lead) ++ map of_certificate (map normal_certificate cs))
normal_in f [] cs = normal_certificates f cs
normal_in f (p ∷ lead) cs = ap (λ (o : List ℕ). f (of_lead (map reframed (p ∷ lead))) ++ o) (normal_certificates f cs)

normal_parts : (f : PartValue → List ℕ) (r : KeyringValue) → flat_map (λ part. f (normal_part part)) (parts_of r) ≡ flat_map f (parts_of (normal_of r))
normal_parts f r = normal_in f r.lead r.certificates

pub normal_text : (r : KeyringValue) → flat_map normal_octets (parts_of r) ≡ packets_octets (flat (normal_of r))
normal_text r = normal_parts part_octets r ∙ packets_text_of (normal_of r)

-- of what is chosen
chosen_certificates : (f : PartValue → List ℕ) (choice : Choice) (cs : List CertificateValue) → flat_map (λ part. f (chosen_part choice part)) (map of_certificate cs) ≡ flat_map f (map of_certificate (map (chosen_certificate choice) cs))
chosen_certificates f choice [] = refl
chosen_certificates f choice (c ∷ cs) = ap (λ (o : List ℕ). f (of_certificate (chosen_certificate choice c)) ++ o) (chosen_certificates f choice cs)

chosen_in : (f : PartValue → List ℕ) (choice : Choice) (lead : List PacketValue) (cs : List CertificateValue)
    → flat_map (λ part. f (chosen_part choice part)) (lead_parts lead ++ map of_certificate cs) ≡ flat_map f (lead_parts lead ++ map of_certificate (map (chosen_certificate choice) cs))
chosen_in f choice [] cs = chosen_certificates f choice cs
chosen_in f choice (p ∷ lead) cs = ap (λ (o : List ℕ). f (of_lead (p ∷ lead)) ++ o) (chosen_certificates f choice cs)

pub chosen_text : (choice : Choice) (r : KeyringValue) → flat_map (chosen_octets choice) (parts_of r) ≡ packets_octets (flat (chosen_keyring choice r))
chosen_text choice r = chosen_in part_octets choice r.lead r.certificates ∙ packets_text_of (chosen_keyring choice r)

-- certificates alone
alone_certificates : (out : Out) (cs : List CertificateValue) → flat_map (certificate_text out) (map of_certificate cs) ≡ certificates_text out cs
alone_certificates out [] = refl
alone_certificates out (c ∷ cs) = ap (λ (o : List ℕ). packets_text out (certificate_packets c) ++ o) (alone_certificates out cs)

alone_lead : (out : Out) (ps : List PacketValue) (cs : List CertificateValue) → flat_map (certificate_text out) (lead_parts ps ++ map of_certificate cs) ≡ flat_map (certificate_text out) (map of_certificate cs)
alone_lead out [] cs = refl
alone_lead out (p ∷ ps) cs = refl

pub alone_text : (out : Out) (r : KeyringValue) → flat_map (certificate_text out) (parts_of r) ≡ certificates_text out r.certificates
alone_text out r = alone_lead out r.lead r.certificates ∙ alone_certificates out r.certificates
