-- A keyring with one more packet.
use Rattle.std.proofs.Common.{◌≡◌, ℕ, ◌+◌, ◌≤◌, Bool, true, false, ◌||◌, List, [], ◌∷◌, ◌++◌, length, All, refl, sym, ap, subst, ◌∙◌, append_assoc, append-nil, length-append, inl, inr, ◌==◌}
use Rattle.std.specs.List.{flat_map, AllByRecursion}
use Rattle.std.proofs.lemmas.List.Elements.{All-push, All-nil, All-append, All-head, All-tail, All-cons, All-from_recursion}
use Rattle.std.proofs.lemmas.List.Concat.{flat_map-append}
use Rattle.std.proofs.lemmas.List.Folds.{list_any-append}
use Rattle.opgp_octets.specs.declared.limits.Limits.{Limits}
use Rattle.opgp_octets.specs.Limits.{cert_limit}
use Rattle.opgp_frame.specs.Packet.{PacketValue, spelling}
use Rattle.opgp_keyring.specs.Keyring.{KeyringValue, CertificateValue, ComponentValue, IsKeyring, IsCertificate, IsComponent, component_packets, certificate_packets, flat, octets_of, is_filler, is_primary, is_head, is_hung, IsHung, IsFiller, IsHead}
use Rattle.opgp_keyring.specs.Composition.{FitsLimits, AreKeyring, stands_in_keyring, needs_primary, has_primary}
use Rattle.opgp_keyring.proofs.KindTests.{or_cases, or_left, or_right, filler_hung, hung_no_head, hung_no_primary, head_no_primary, filler_no_signature}
use Rattle.opgp_keyring.proofs.Split.{one_keyring}

-- a certificate within the limit
abbrev pub IsShort : Limits → CertificateValue → Type 0
IsShort limits c = octets_of (certificate_packets c) ≤ cert_limit limits

abbrev pub keyring : List PacketValue → List CertificateValue → KeyringValue
keyring lead certificates = record { lead = lead; certificates = certificates }

-- one more packet takes its own octets
pub octets_of-push : (ps : List PacketValue) (p : PacketValue) → octets_of (ps ++ p ∷ []) ≡ octets_of ps + length (spelling p)
unfolding octets_of
octets_of-push ps p =
    ap (length {A = ℕ}) (flat_map-append spelling ps (p ∷ []) ∙ ap (λ (l : List ℕ). flat_map spelling ps ++ l) (append-nil (spelling p)))
    ∙ length-append (flat_map spelling ps) (spelling p)

-- ---- the three ways in which a packet is added

pub lead_whole : (lead : List PacketValue) (p : PacketValue) → flat (keyring (lead ++ p ∷ []) []) ≡ flat (keyring lead []) ++ p ∷ []
lead_whole lead p = append-nil (lead ++ p ∷ []) ∙ ap (λ (l : List PacketValue). l ++ p ∷ []) (sym (append-nil lead))

pub lead_is : (lead : List PacketValue) (p : PacketValue) → IsKeyring (keyring lead []) → IsFiller p → IsKeyring (keyring (lead ++ p ∷ []) [])
lead_is lead p k f = record { lead = All-push IsFiller lead p k.lead f; certificates = k.certificates }

pub grown_whole : (lead : List PacketValue) (done : List CertificateValue) (c d : CertificateValue) (p : PacketValue) → certificate_packets d ≡ certificate_packets c ++ p ∷ []
    → flat (keyring lead (done ++ d ∷ [])) ≡ flat (keyring lead (done ++ c ∷ [])) ++ p ∷ []
grown_whole lead done c d p e =
    let before : List PacketValue = flat_map certificate_packets done in
    let last : (x : CertificateValue) → flat_map certificate_packets (done ++ x ∷ []) ≡ before ++ certificate_packets x =
    λ x. flat_map-append certificate_packets done (x ∷ []) ∙ ap (λ (l : List PacketValue). before ++ l) (append-nil (certificate_packets x)) in
    ap (λ (l : List PacketValue). lead ++ l) (last d ∙ ap (λ (l : List PacketValue). before ++ l) e ∙ sym (append_assoc before (certificate_packets c) (p ∷ [])) ∙ ap (λ (l : List PacketValue). l ++ p ∷ []) (sym (last c)))
    ∙ sym (append_assoc lead (flat_map certificate_packets (done ++ c ∷ [])) (p ∷ []))

pub begun_whole : (lead : List PacketValue) (certificates : List CertificateValue) (p : PacketValue)
    → flat (keyring lead (certificates ++ (record { primary = p; hangs = []; components = [] }) ∷ [])) ≡ flat (keyring lead certificates) ++ p ∷ []
begun_whole lead certificates p =
    ap (λ (l : List PacketValue). lead ++ l) (flat_map-append certificate_packets certificates ((record { primary = p; hangs = []; components = [] }) ∷ []))
    ∙ sym (append_assoc lead (flat_map certificate_packets certificates) (p ∷ []))

pub certificates_push : (lead : List PacketValue) (cs : List CertificateValue) (c : CertificateValue) → IsKeyring (keyring lead cs) → IsCertificate c → IsKeyring (keyring lead (cs ++ c ∷ []))
certificates_push lead cs c k is = record { lead = k.lead; certificates = All-push IsCertificate cs c k.certificates is }

pub certificates_front : (P : CertificateValue → Type 0) (cs : List CertificateValue) (c : CertificateValue) → All P (cs ++ c ∷ []) → All P cs × P c
certificates_front P [] c a = (All-nil P, All-head P c [] a)
certificates_front P (x ∷ cs) c a =
    let again = certificates_front P cs c (All-tail P x (cs ++ c ∷ []) a) in
    (All-cons P x cs (All-head P x (cs ++ c ∷ []) a) again.0, again.1)

-- ---- why no keyring has one more packet

-- it would be this one, which passes a limit
pub passes_limit : (limits : Limits) (ps : List PacketValue) (r : KeyringValue) → IsKeyring r → flat r ≡ ps → (FitsLimits limits r → ⊥) → AreKeyring limits ps → ⊥
passes_limit limits ps r is whole long (s, c) = long (subst (FitsLimits limits) (one_keyring s r c.keyring is (c.whole ∙ sym whole)) c.fits)

-- each packet of a keyring is of a type that stands in keyrings
abbrev pub Stands : PacketValue → Type 0
Stands p = stands_in_keyring p.kind ≡ true

pub All-flat_map : {X Y : Type 0} (P : Y → Type 0) (f : X → List Y) (xs : List X) → AllByRecursion (λ (x : X). All P (f x)) xs → All P (flat_map f xs)
All-flat_map P f [] a = All-nil P
All-flat_map P f (x ∷ xs) a = All-append P (f x) (flat_map f xs) a.0 (All-flat_map P f xs a.1)

pub each : {X : Type 0} (P Q : X → Type 0) (xs : List X) → ((x : X) → P x → Q x) → All P xs → AllByRecursion Q xs
each P Q [] h a = tt
each P Q (x ∷ xs) h a = (h x (All-head P x xs a), each P Q xs h (All-tail P x xs a))

pub weaker : {X : Type 0} (P Q : X → Type 0) (xs : List X) → ((x : X) → P x → Q x) → All P xs → All Q xs
weaker P Q xs h a = All-from_recursion Q xs (each P Q xs h a)

stands_hung : (p : PacketValue) → IsHung p → Stands p
stands_hung p h = or_right (is_primary p.kind) (is_head p.kind || is_hung p.kind) (or_right (is_head p.kind) (is_hung p.kind) h)

stands_head : (p : PacketValue) → IsHead p → Stands p
stands_head p h = or_right (is_primary p.kind) (is_head p.kind || is_hung p.kind) (or_left (is_head p.kind) (is_hung p.kind) h)

stands_filler : (p : PacketValue) → IsFiller p → Stands p
stands_filler p f = stands_hung p (filler_hung p.kind f)

stands_component : (c : ComponentValue) → IsComponent c → All Stands (component_packets c)
stands_component c k = All-cons Stands c.head c.hangs (stands_head c.head k.head) (weaker IsHung Stands c.hangs stands_hung k.hangs)

stands_certificate : (c : CertificateValue) → IsCertificate c → All Stands (certificate_packets c)
stands_certificate c k =
    All-cons Stands c.primary (c.hangs ++ flat_map component_packets c.components) (or_left (is_primary c.primary.kind) (is_head c.primary.kind || is_hung c.primary.kind) k.primary)
    (All-append Stands c.hangs (flat_map component_packets c.components) (weaker IsHung Stands c.hangs stands_hung k.hangs)
    (All-flat_map Stands component_packets c.components (each IsComponent (λ (x : ComponentValue). All Stands (component_packets x)) c.components stands_component k.components)))

pub all_stand : (r : KeyringValue) → IsKeyring r → All Stands (flat r)
all_stand r k =
    All-append Stands r.lead (flat_map certificate_packets r.certificates) (weaker IsFiller Stands r.lead stands_filler k.lead)
    (All-flat_map Stands certificate_packets r.certificates (each IsCertificate (λ (x : CertificateValue). All Stands (certificate_packets x)) r.certificates stands_certificate k.certificates))

pub last_of : {X : Type 0} (P : X → Type 0) (xs : List X) (x : X) → All P (xs ++ x ∷ []) → P x
last_of P [] x a = All-head P x [] a
last_of P (y ∷ xs) x a = last_of P xs x (All-tail P y (xs ++ x ∷ []) a)

-- a packet of another type
pub strays : (limits : Limits) (ps : List PacketValue) (p : PacketValue) → stands_in_keyring p.kind ≡ false → AreKeyring limits (ps ++ p ∷ []) → ⊥
strays limits ps p e (s, c) = let t : stands_in_keyring p.kind ≡ true = last_of Stands ps p (subst (All Stands) c.whole (all_stand s c.keyring)) in cc

-- fillers need no primary key, and are none
filler_needs_none : (k : ℕ) → needs_primary k ≡ true → is_hung k ≡ true → (k == 2) ≡ false → ⊥
filler_needs_none k n h e = elim (or_cases (k == 2) (is_head k) n) [ inl t ↦ cc | inr t ↦ let f : is_head k ≡ false = hung_no_head k h in cc ]

pub needing : (k : ℕ) → needs_primary k ≡ true → is_primary k ≡ false
needing k n = elim (or_cases (k == 2) (is_head k) n) [ inl t ↦ hung_no_primary k (or_left (k == 2) (is_filler k) t) | inr t ↦ head_no_primary k t ]

pub has_primary-append : (xs ys : List PacketValue) → has_primary (xs ++ ys) ≡ (has_primary xs || has_primary ys)
has_primary-append xs ys = list_any-append (λ (p : PacketValue). is_primary p.kind) xs ys

-- with a certificate there is a primary key
certificate_first : (lead : List PacketValue) (c : CertificateValue) (cs : List CertificateValue) → IsCertificate c → has_primary (flat (keyring lead (c ∷ cs))) ≡ true
certificate_first lead c cs k =
    let behind : List PacketValue = (c.hangs ++ flat_map component_packets c.components) ++ flat_map certificate_packets cs in
    has_primary-append lead (c.primary ∷ behind) ∙ or_right (has_primary lead) (is_primary c.primary.kind || has_primary behind) (or_left (is_primary c.primary.kind) (has_primary behind) k.primary)

-- a signature or a component with no primary key before it
pub lacks_in : (lead : List PacketValue) (cs : List CertificateValue) (ps : List PacketValue) (p : PacketValue) → IsKeyring (keyring lead cs) → flat (keyring lead cs) ≡ ps ++ p ∷ []
    → needs_primary p.kind ≡ true → has_primary ps ≡ false → ⊥
lacks_in lead [] ps p k whole needs none =
    let filler : IsFiller p = last_of IsFiller ps p (subst (All IsFiller) (sym (append-nil lead) ∙ whole) k.lead) in
    filler_needs_none p.kind needs (filler_hung p.kind filler) (filler_no_signature p.kind filler)
lacks_in lead (c ∷ cs) ps p k whole needs none =
    let all : has_primary (ps ++ p ∷ []) ≡ false = has_primary-append ps (p ∷ []) ∙ ap (λ (b : Bool). b || (is_primary p.kind || false)) none ∙ ap (λ (b : Bool). b || false) (needing p.kind needs) in
    let some : has_primary (flat (keyring lead (c ∷ cs))) ≡ true = certificate_first lead c cs (All-head IsCertificate c cs k.certificates) in
    let same : has_primary (flat (keyring lead (c ∷ cs))) ≡ has_primary (ps ++ p ∷ []) = ap has_primary whole in
    cc

pub lacks_primary : (limits : Limits) (ps : List PacketValue) (p : PacketValue) → needs_primary p.kind ≡ true → has_primary ps ≡ false → AreKeyring limits (ps ++ p ∷ []) → ⊥
lacks_primary limits ps p needs none (s, c) = lacks_in s.lead s.certificates ps p c.keyring c.whole needs none

-- fillers alone have no primary key
pub fillers_lack : (ps : List PacketValue) → All IsFiller ps → has_primary ps ≡ false
fillers_lack [] a = refl
fillers_lack (p ∷ ps) a = ap (λ (b : Bool). b || has_primary ps) (hung_no_primary p.kind (filler_hung p.kind (All-head IsFiller p ps a))) ∙ fillers_lack ps (All-tail IsFiller p ps a)

-- with a last certificate there is a primary key
pub certificate_last : (lead : List PacketValue) (done : List CertificateValue) (c : CertificateValue) → IsCertificate c → has_primary (flat (keyring lead (done ++ c ∷ []))) ≡ true
certificate_last lead done c k =
    let before : List PacketValue = lead ++ flat_map certificate_packets done in
    let own : List PacketValue = certificate_packets c ++ [] in
    let whole : flat (keyring lead (done ++ c ∷ [])) ≡ before ++ own =
    ap (λ (l : List PacketValue). lead ++ l) (flat_map-append certificate_packets done (c ∷ [])) ∙ sym (append_assoc lead (flat_map certificate_packets done) own) in
    let some : has_primary own ≡ true = or_left (is_primary c.primary.kind) (has_primary ((c.hangs ++ flat_map component_packets c.components) ++ [])) k.primary in
    ap has_primary whole ∙ has_primary-append before own ∙ or_right (has_primary before) (has_primary own) some
