-- What is asked hangs on no number of a place.
use Rattle.std.proofs.Common.{◌≡◌, ◌∙◌, ℕ, ◌+◌, Bool, true, false, List, [], ◌∷◌, ◌++◌, map, Option, Some, None, refl, ap}
use Rattle.std.specs.Prelude.{◌==◌, if◌then◌else◌}
use Rattle.std.specs.List.{flat_map}
use Rattle.std.proofs.lemmas.List.{map-append}
use Rattle.opgp_frame.specs.Packet.{PacketValue}
use Rattle.opgp_packet.specs.SignatureBody.{signature_at}
use Rattle.opgp_hash.specs.declared.site.Site.TheVariants.{Hung, Embedded}
use Rattle.opgp_hash.specs.SubjectValue.{SubjectValue, one}
use Rattle.opgp_keyring.specs.Keyring.{CertificateValue, ComponentValue, KeyringValue}
use Rattle.opgp_report.specs.declared.place.Place.{Place}
use Rattle.opgp_report.specs.Asked.{Asked, asked_by, asked_of, posed_in, question_of}
use Rattle.opgp_report.specs.Standing.{Standing, bodies_within, by_number, certificate_standing, component_standing, hang_standing, hangs_standing, hung_at, nested_standing, on_head, signature_standing}
use Rattle.opgp_report.proofs.Numbered.{unnumbered}

-- what is asked, wherever it stands
abbrev pub hang_asked : SubjectValue → PacketValue → List Asked
hang_asked subject p = map asked_by (hang_standing 0 None subject 0 p)

abbrev pub hangs_asked : SubjectValue → List PacketValue → List Asked
hangs_asked subject ps = flat_map (hang_asked subject) ps

abbrev pub component_asked : List ℕ → ComponentValue → List Asked
component_asked primary c = hangs_asked (on_head primary c.head) c.hangs

abbrev pub components_asked : List ℕ → List ComponentValue → List Asked
components_asked primary cs = flat_map (component_asked primary) cs

abbrev pub certificate_asked : CertificateValue → List Asked
certificate_asked c = hangs_asked (one c.primary.body) c.hangs ++ components_asked c.primary.body c.components

nested : (p q : Place) (subject : SubjectValue) (n m : ℕ) (bodies : List (List ℕ)) → map asked_by (by_number (nested_standing p subject) n bodies) ≡ map asked_by (by_number (nested_standing q subject) m bodies)
nested p q subject n m [] = refl
nested p q subject n m (b ∷ bs) = ap (λ (l : List Asked). question_of (posed_in Embedded subject (signature_at b)) ∷ l) (nested p q subject (n + 1) (m + 1) bs)

chosen : (test : Bool) (xs ys : List Standing) → map asked_by xs ≡ map asked_by ys → map asked_by (if test then xs else []) ≡ map asked_by (if test then ys else [])
chosen true xs ys e = e
chosen false xs ys e = refl

hang : (certificate : ℕ) (component : Option ℕ) (subject : SubjectValue) (n : ℕ) (p : PacketValue) → map asked_by (hang_standing certificate component subject n p) ≡ hang_asked subject p
hang certificate component subject n p =
    chosen (p.kind == 2) (signature_standing (hung_at certificate component n) subject p.body) (signature_standing (hung_at 0 None 0) subject p.body)
    (ap (λ (l : List Asked). question_of (posed_in Hung subject (signature_at p.body)) ∷ l) (nested (hung_at certificate component n) (hung_at 0 None 0) subject 0 0 (bodies_within subject (signature_at p.body))))

hangs : (certificate : ℕ) (component : Option ℕ) (subject : SubjectValue) (ps : List PacketValue) → map asked_by (hangs_standing certificate component subject ps) ≡ hangs_asked subject ps
hangs certificate component subject ps = unnumbered (hang_standing certificate component subject) asked_by (hang_asked subject) (hang certificate component subject) 0 ps

pub certificate_asks : (n : ℕ) (c : CertificateValue) → map asked_by (certificate_standing n c) ≡ certificate_asked c
certificate_asks n c =
    map-append asked_by (hangs_standing n None (one c.primary.body) c.hangs) (by_number (component_standing c.primary.body n) 0 c.components)
    ∙ ap (λ (l : List Asked). l ++ map asked_by (by_number (component_standing c.primary.body n) 0 c.components)) (hangs n None (one c.primary.body) c.hangs)
    ∙ ap (λ (l : List Asked). hangs_asked (one c.primary.body) c.hangs ++ l)
    (unnumbered (component_standing c.primary.body n) asked_by (component_asked c.primary.body) (λ m k. hangs n (Some m) (on_head c.primary.body k.head) k.hangs) 0 c.components)

pub ring_asks : (r : KeyringValue) → asked_of r ≡ flat_map certificate_asked r.certificates
ring_asks r = unnumbered certificate_standing asked_by certificate_asked certificate_asks 0 r.certificates
