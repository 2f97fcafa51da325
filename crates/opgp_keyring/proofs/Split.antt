-- A list of packets is the flat list of one keyring at most: the keyring is found again from its packets, from the last
-- to the first.
use Rattle.std.proofs.Common.{◌≡◌, Bool, true, false, List, [], ◌∷◌, ◌++◌, refl, sym, ap, ◌∙◌, append_assoc, append-nil}
use Rattle.std.specs.List.{flat_map, AllByRecursion}
use Rattle.std.proofs.lemmas.List.Elements.{All-cons, All-nil, recursion_from_All}
use Rattle.opgp_frame.specs.Packet.{PacketValue}
use Rattle.opgp_keyring.specs.Keyring.{KeyringValue, CertificateValue, ComponentValue, IsKeyring, IsCertificate, IsComponent, component_packets, certificate_packets, flat, is_primary, is_head, is_hung, IsHung, IsFiller}
use Rattle.opgp_keyring.proofs.KindTests.{hung_no_primary, hung_no_head, head_no_primary, filler_hung}

-- what follows: packets that hang on what comes before, then components of it, then certificates
record Rest : Type 0 where
  pub hangs : List PacketValue
  pub components : List ComponentValue
  pub certificates : List CertificateValue

rest : List PacketValue → List ComponentValue → List CertificateValue → Rest
rest hangs components certificates = record { hangs = hangs; components = components; certificates = certificates }

abbrev put_as : Bool → Bool → PacketValue → Rest → Rest
put_as true head p r = record { hangs = []; components = []; certificates = (record { primary = p; hangs = r.hangs; components = r.components }) ∷ r.certificates }
put_as false true p r = record { hangs = []; components = (record { head = p; hangs = r.hangs }) ∷ r.components; certificates = r.certificates }
put_as false false p r = record { hangs = p ∷ r.hangs; components = r.components; certificates = r.certificates }

abbrev split : List PacketValue → Rest
split [] = record { hangs = []; components = []; certificates = [] }
split (p ∷ ps) = put_as (is_primary p.kind) (is_head p.kind) p (split ps)

put-primary : (p : PacketValue) (r : Rest) → is_primary p.kind ≡ true → put_as (is_primary p.kind) (is_head p.kind) p r ≡ put_as true false p r
put-primary p r e = ap (λ (b : Bool). put_as b (is_head p.kind) p r) e

put-head : (p : PacketValue) (r : Rest) → is_head p.kind ≡ true → put_as (is_primary p.kind) (is_head p.kind) p r ≡ put_as false true p r
put-head p r e = ap (λ (b : Bool). put_as b (is_head p.kind) p r) (head_no_primary p.kind e) ∙ ap (λ (b : Bool). put_as false b p r) e

put-hung : (p : PacketValue) (r : Rest) → is_hung p.kind ≡ true → put_as (is_primary p.kind) (is_head p.kind) p r ≡ put_as false false p r
put-hung p r e = ap (λ (b : Bool). put_as b (is_head p.kind) p r) (hung_no_primary p.kind e) ∙ ap (λ (b : Bool). put_as false b p r) (hung_no_head p.kind e)

split-hangs : (hs ps : List PacketValue) → AllByRecursion IsHung hs
    → split (hs ++ ps) ≡ record { hangs = hs ++ (split ps).hangs; components = (split ps).components; certificates = (split ps).certificates }
split-hangs [] ps h = refl
split-hangs (x ∷ hs) ps h = ap (λ (r : Rest). put_as (is_primary x.kind) (is_head x.kind) x r) (split-hangs hs ps h.1) ∙ put-hung x _ h.0

split-components : (cs : List ComponentValue) (ps : List PacketValue) → AllByRecursion IsComponent cs → (split ps).hangs ≡ []
    → split (flat_map component_packets cs ++ ps) ≡ record { hangs = []; components = cs ++ (split ps).components; certificates = (split ps).certificates }
split-components [] ps a none = ap (λ (hs : List PacketValue). record { hangs = hs; components = (split ps).components; certificates = (split ps).certificates }) none
split-components (c ∷ cs) ps a none =
    let more : List PacketValue = flat_map component_packets cs ++ ps in
    let again = split-components cs ps a.1 none in
    let joined : (component_packets c ++ flat_map component_packets cs) ++ ps ≡ c.head ∷ (c.hangs ++ more) = append_assoc (component_packets c) (flat_map component_packets cs) ps in
    let hung : split (c.hangs ++ more) ≡ record { hangs = c.hangs ++ []; components = cs ++ (split ps).components; certificates = (split ps).certificates } =
    split-hangs c.hangs more (recursion_from_All IsHung c.hangs a.0.hangs) ∙ ap (λ (r : Rest). record { hangs = c.hangs ++ r.hangs; components = r.components; certificates = r.certificates }) again in
    let whole : List PacketValue → Rest = λ hs. record { hangs = []; components = (record { head = c.head; hangs = hs }) ∷ (cs ++ (split ps).components); certificates = (split ps).certificates } in
    ap split joined ∙ ap (λ (r : Rest). put_as (is_primary c.head.kind) (is_head c.head.kind) c.head r) hung ∙ put-head c.head _ a.0.head ∙ ap whole (append-nil c.hangs)

split-certificates : (cs : List CertificateValue) → AllByRecursion IsCertificate cs → split (flat_map certificate_packets cs) ≡ record { hangs = []; components = []; certificates = cs }
split-certificates [] a = refl
split-certificates (c ∷ cs) a =
    let more : List PacketValue = flat_map certificate_packets cs in
    let own : List PacketValue = flat_map component_packets c.components in
    let again = split-certificates cs a.1 in
    let joined : certificate_packets c ++ more ≡ c.primary ∷ (c.hangs ++ (own ++ more)) = ap (λ (l : List PacketValue). c.primary ∷ l) (append_assoc c.hangs own more) in
    let behind : split (own ++ more) ≡ record { hangs = []; components = c.components ++ []; certificates = cs } =
    split-components c.components more (recursion_from_All IsComponent c.components a.0.components) (ap (λ (r : Rest). r.hangs) again) ∙ ap (λ (r : Rest). record { hangs = []; components = c.components ++ r.components; certificates = r.certificates }) again in
    let hung : split (c.hangs ++ (own ++ more)) ≡ record { hangs = c.hangs ++ []; components = c.components ++ []; certificates = cs } =
    split-hangs c.hangs (own ++ more) (recursion_from_All IsHung c.hangs a.0.hangs) ∙ ap (λ (r : Rest). record { hangs = c.hangs ++ r.hangs; components = r.components; certificates = r.certificates }) behind in
    let by_hangs : List PacketValue → Rest = λ hs. record { hangs = []; components = []; certificates = (record { primary = c.primary; hangs = hs; components = c.components ++ [] }) ∷ cs } in
    let by_components : List ComponentValue → Rest = λ ks. record { hangs = []; components = []; certificates = (record { primary = c.primary; hangs = c.hangs; components = ks }) ∷ cs } in
    ap split joined ∙ ap (λ (r : Rest). put_as (is_primary c.primary.kind) (is_head c.primary.kind) c.primary r) hung ∙ put-primary c.primary _ a.0.primary ∙ ap by_hangs (append-nil c.hangs) ∙ ap by_components (append-nil c.components)

hung_fillers : (ps : List PacketValue) → AllByRecursion IsFiller ps → AllByRecursion IsHung ps
hung_fillers [] a = tt
hung_fillers (p ∷ ps) a = (filler_hung p.kind a.0, hung_fillers ps a.1)

split-flat : (r : KeyringValue) → IsKeyring r → split (flat r) ≡ record { hangs = r.lead; components = []; certificates = r.certificates }
split-flat r k =
    let more : List PacketValue = flat_map certificate_packets r.certificates in
    let behind = split-certificates r.certificates (recursion_from_All IsCertificate r.certificates k.certificates) in
    split-hangs r.lead more (hung_fillers r.lead (recursion_from_All IsFiller r.lead k.lead))
    ∙ ap (λ (s : Rest). record { hangs = r.lead ++ s.hangs; components = s.components; certificates = s.certificates }) behind
    ∙ ap (λ (l : List PacketValue). record { hangs = l; components = []; certificates = r.certificates }) (append-nil r.lead)

abbrev keyring_in : Rest → KeyringValue
keyring_in r = record { lead = r.hangs; certificates = r.certificates }

-- one list of packets is the flat list of one keyring at most
pub one_keyring : (r s : KeyringValue) → IsKeyring r → IsKeyring s → flat r ≡ flat s → r ≡ s
one_keyring r s p q e = sym (ap keyring_in (split-flat r p)) ∙ ap (λ (ps : List PacketValue). keyring_in (split ps)) e ∙ ap keyring_in (split-flat s q)

abbrev first_or : CertificateValue → List CertificateValue → CertificateValue
first_or c [] = c
first_or c (d ∷ ds) = d

-- and that of one certificate at most
pub one_certificate : (c d : CertificateValue) → IsCertificate c → IsCertificate d → certificate_packets c ≡ certificate_packets d → c ≡ d
one_certificate c d p q e =
    let alone : CertificateValue → KeyringValue = λ x. record { lead = []; certificates = x ∷ [] } in
    let is : (x : CertificateValue) → IsCertificate x → IsKeyring (alone x) = λ x k. record { lead = All-nil IsFiller; certificates = All-cons IsCertificate x [] k (All-nil IsCertificate) } in
    ap (λ (r : KeyringValue). first_or c r.certificates) (one_keyring (alone c) (alone d) (is c p) (is d q) (ap (λ (ps : List PacketValue). ps ++ []) e))
