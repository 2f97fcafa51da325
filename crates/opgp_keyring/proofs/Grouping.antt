-- The certificate that packets are.
use Rattle.std.proofs.Common.{◌≡◌, Option, Some, None, MatchOption, Bool, true, false, ◌||◌, List, [], ◌∷◌, ◌++◌, map, All, if◌then◌else◌, refl, sym, ap, subst, ◌∙◌, inl, inr}
use Rattle.std.specs.List.{flat_map}
use Rattle.std.proofs.lemmas.List.Elements.{All-append, All-cons, All-head, All-map, All-nil, All-tail}
use Rattle.opgp_frame.specs.Packet.{PacketValue}
use Rattle.opgp_frame.specs.Reframed.{reframed}
use Rattle.opgp_keyring.specs.Grouped.{BeginCertificate, certificate_of, components_behind, hung_before}
use Rattle.opgp_keyring.specs.Keyring.{ComponentValue, IsCertificate, IsComponent, IsFiller, IsHung, certificate_packets, component_packets, is_head, is_hung}
use Rattle.opgp_keyring.specs.Member.{member_packet}
use Rattle.opgp_keyring.specs.declared.member.Member.{Member}
use Rattle.opgp_keyring.specs.Normal.{normal_certificate, normal_component}
use Rattle.opgp_keyring.proofs.KindTests.{filler_hung, or_cases, or_right}

-- what may follow a primary key
abbrev Follows : PacketValue → Type 0
Follows q = (is_head q.kind || is_hung q.kind) ≡ true

-- ---- its packets are those

abbrev parts : List PacketValue → List PacketValue
parts ps = hung_before ps ++ flat_map component_packets (components_behind ps)

grouped_by : (p : PacketValue) (ps : List PacketValue) (b : Bool) → parts ps ≡ ps
    → (if b then [] else p ∷ hung_before ps) ++ flat_map component_packets (if b then (record { head = p; hangs = hung_before ps }) ∷ components_behind ps else components_behind ps) ≡ p ∷ ps
grouped_by p ps true again = ap (λ (l : List PacketValue). p ∷ l) again
grouped_by p ps false again = ap (λ (l : List PacketValue). p ∷ l) again

pub grouped : (ps : List PacketValue) → parts ps ≡ ps
grouped [] = refl
grouped (p ∷ ps) = grouped_by p ps (is_head p.kind) (grouped ps)

pub packets_of : (ps : List PacketValue) → BeginCertificate ps → certificate_packets (certificate_of ps) ≡ ps
packets_of [] b = absurd b
packets_of (p ∷ ps) b = ap (λ (l : List PacketValue). p ∷ l) (grouped ps)

-- ---- it is a certificate

hung_by : (p : PacketValue) (ps : List PacketValue) (b : Bool) → is_head p.kind ≡ b → Follows p → All IsHung (hung_before ps) → All IsHung (if b then [] else p ∷ hung_before ps)
hung_by p ps true is follows again = All-nil IsHung
hung_by p ps false is follows again =
    All-cons IsHung p (hung_before ps) (elim (or_cases (is_head p.kind) (is_hung p.kind) follows) [ inl head ↦ absurd cc | inr hung ↦ hung ]) again

all_hung : (ps : List PacketValue) → All Follows ps → All IsHung (hung_before ps)
all_hung [] a = All-nil IsHung
all_hung (p ∷ ps) a = hung_by p ps (is_head p.kind) refl (All-head Follows p ps a) (all_hung ps (All-tail Follows p ps a))

components_by : (p : PacketValue) (ps : List PacketValue) (b : Bool) → is_head p.kind ≡ b → All IsHung (hung_before ps) → All IsComponent (components_behind ps)
    → All IsComponent (if b then (record { head = p; hangs = hung_before ps }) ∷ components_behind ps else components_behind ps)
components_by p ps true is hung again = All-cons IsComponent (record { head = p; hangs = hung_before ps }) (components_behind ps) (record { head = is; hangs = hung }) again
components_by p ps false is hung again = again

all_components : (ps : List PacketValue) → All Follows ps → All IsComponent (components_behind ps)
all_components [] a = All-nil IsComponent
all_components (p ∷ ps) a =
    let behind : All Follows ps = All-tail Follows p ps a in
    components_by p ps (is_head p.kind) refl (all_hung ps behind) (all_components ps behind)

pub is_certificate : (ps : List PacketValue) → BeginCertificate ps → IsCertificate (certificate_of ps)
is_certificate [] b = absurd b
is_certificate (p ∷ ps) b = record { primary = b.0; hangs = all_hung ps b.1; components = all_components ps b.1 }

-- ---- more packets

pub begins_more : (ps qs : List PacketValue) → BeginCertificate ps → All Follows qs → BeginCertificate (ps ++ qs)
begins_more [] qs b a = absurd b
begins_more (p ∷ ps) qs b a = (b.0, All-append Follows ps qs b.1 a)

pub begins_longer : (ps : List PacketValue) (q : PacketValue) → BeginCertificate ps → Follows q → BeginCertificate (ps ++ q ∷ [])
begins_longer ps q b f = begins_more ps (q ∷ []) b (All-cons Follows q [] f (All-nil Follows))

pub fillers_follow : (qs : List PacketValue) → All IsFiller qs → All Follows qs
fillers_follow [] a = All-nil Follows
fillers_follow (q ∷ qs) a = All-cons Follows q qs (or_right (is_head q.kind) (is_hung q.kind) (filler_hung q.kind (All-head IsFiller q qs a))) (fillers_follow qs (All-tail IsFiller q qs a))

-- ---- the current format

hung_normal_by : (p : PacketValue) (ps : List PacketValue) (b : Bool) → hung_before (map reframed ps) ≡ map reframed (hung_before ps)
    → (if b then [] else reframed p ∷ hung_before (map reframed ps)) ≡ map reframed (if b then [] else p ∷ hung_before ps)
hung_normal_by p ps true again = refl
hung_normal_by p ps false again = ap (λ (l : List PacketValue). reframed p ∷ l) again

hung_normal : (ps : List PacketValue) → hung_before (map reframed ps) ≡ map reframed (hung_before ps)
hung_normal [] = refl
hung_normal (p ∷ ps) = hung_normal_by p ps (is_head p.kind) (hung_normal ps)

behind_normal_by : (p : PacketValue) (ps : List PacketValue) (b : Bool) → components_behind (map reframed ps) ≡ map normal_component (components_behind ps)
    → (if b then (record { head = reframed p; hangs = hung_before (map reframed ps) }) ∷ components_behind (map reframed ps) else components_behind (map reframed ps))
    ≡ map normal_component (if b then (record { head = p; hangs = hung_before ps }) ∷ components_behind ps else components_behind ps)
behind_normal_by p ps true again =
    ap (λ (l : List PacketValue). (record { head = reframed p; hangs = l }) ∷ components_behind (map reframed ps)) (hung_normal ps)
    ∙ ap (λ (cs : List ComponentValue). (record { head = reframed p; hangs = map reframed (hung_before ps) }) ∷ cs) again
behind_normal_by p ps false again = again

behind_normal : (ps : List PacketValue) → components_behind (map reframed ps) ≡ map normal_component (components_behind ps)
behind_normal [] = refl
behind_normal (p ∷ ps) = behind_normal_by p ps (is_head p.kind) (behind_normal ps)

pub certificate_normal : (ps : List PacketValue) → BeginCertificate ps → certificate_of (map reframed ps) ≡ normal_certificate (certificate_of ps)
certificate_normal [] b = absurd b
certificate_normal (p ∷ ps) b =
    ap (λ (l : List PacketValue). record { primary = reframed p; hangs = l; components = components_behind (map reframed ps) }) (hung_normal ps)
    ∙ ap (λ (cs : List ComponentValue). record { primary = reframed p; hangs = map reframed (hung_before ps); components = cs }) (behind_normal ps)

pub begins_normal : (ps : List PacketValue) → BeginCertificate ps → BeginCertificate (map reframed ps)
begins_normal [] b = absurd b
begins_normal (p ∷ ps) b = (b.0, All-map Follows reframed ps b.1)

-- ---- what is left behind the primary key

pub behind_primary : (ps left : List PacketValue) (first : Option Member) → BeginCertificate ps → MatchOption first ((ps ≡ []) × (left ≡ [])) (λ m. ps ≡ member_packet m ∷ left)
    → (hung_before left ≡ (certificate_of ps).hangs) × (components_behind left ≡ (certificate_of ps).components)
behind_primary ps left None b e = absurd (subst BeginCertificate e.0 b)
behind_primary ps left (Some m) b e = (sym (ap (λ (qs : List PacketValue). (certificate_of qs).hangs) e), sym (ap (λ (qs : List PacketValue). (certificate_of qs).components) e))
