-- What a keyring asks, packet by packet: so that of joined keyrings is that of both.
use Rattle.std.proofs.Common.{◌≡◌, ◌∙◌, ℕ, Bool, true, false, List, [], ◌∷◌, ◌++◌, All, refl, sym, ap, subst, append_assoc, append-nil, get_or, cond, map}
use Rattle.std.specs.Prelude.{◌==◌, ◌||◌, if◌then◌else◌, filter}
use Rattle.std.specs.List.{flat_map}
use Rattle.std.proofs.lemmas.Bool.{eqb-true}
use Rattle.std.proofs.lemmas.List.Concat.{flat_map-append}
use Rattle.std.proofs.lemmas.List.Elements.{All-head, All-tail}
use Rattle.opgp_frame.specs.Packet.{PacketValue}
use Rattle.opgp_hash.specs.SubjectValue.{SubjectValue, one}
use Rattle.opgp_keyring.specs.Keyring.{CertificateValue, ComponentValue, KeyringValue, IsComponent, IsCertificate, IsKeyring, IsHung, IsHead, IsFiller, IsPrimary, is_primary, is_hung, is_filler, component_packets, certificate_packets, flat}
use Rattle.opgp_report.specs.Asked.{Asked, asked_of}
use Rattle.opgp_report.specs.Report.{certificate_keys, keys_in, subkey_bodies}
use Rattle.opgp_report.specs.Standing.{is_key, on_head}
use Rattle.opgp_report.proofs.Asking.{certificate_asked, component_asked, components_asked, hang_asked, hangs_asked, ring_asks}

-- where packets stand: before all certificates, or within one, about a subject
data Spot : Type 0 where
  outside : Spot
  within : List ℕ → SubjectValue → Spot

abbrev here : Spot → PacketValue → List Asked
here outside p = []
here (within primary subject) p = hang_asked subject p

abbrev head_step : Spot → PacketValue → Spot
head_step outside p = outside
head_step (within primary subject) p = within primary (on_head primary p)

abbrev step : Spot → PacketValue → Spot
step spot p = if is_hung p.kind then spot else (if is_primary p.kind then within p.body (one p.body) else head_step spot p)

abbrev scan : Spot → List PacketValue → List Asked
scan spot [] = []
scan spot (p ∷ ps) = here spot p ++ scan (step spot p) ps

-- ---- types of packets
or_true : (a : Bool) → (a || true) ≡ true
or_true true = refl
or_true false = refl

is_no : (b : Bool) → (b ≡ true → ⊥) → b ≡ false
is_no true other = absurd (other refl)
is_no false other = refl

filler_is_hung : (p : PacketValue) → IsFiller p → IsHung p
filler_is_hung p e = ap (λ (b : Bool). (p.kind == 2) || b) e ∙ or_true (p.kind == 2)

false_true : false ≡ true → ⊥
false_true e = cc

pub filler_signs_nothing : (p : PacketValue) → IsFiller p → (p.kind == 2) ≡ false
filler_signs_nothing p e = is_no (p.kind == 2) (λ t. false_true (subst (λ (k : ℕ). is_filler k ≡ true) (eqb-true p.kind 2 t) e))

pub primary_kind : (p : PacketValue) → IsPrimary p → p.kind ≡ 6
primary_kind p e = eqb-true p.kind 6 e

-- what is true of the types of heads
heads : (P : ℕ → Type 0) → P 13 → P 17 → P 14 → (k a b c : Bool) (n : ℕ) → (n == 13) ≡ a → (n == 17) ≡ b → (n == 14) ≡ c → (a || (b || c)) ≡ true → P n
heads P x y z k true b c n e f g h = subst P (sym (eqb-true n 13 e)) x
heads P x y z k false true c n e f g h = subst P (sym (eqb-true n 17 f)) y
heads P x y z k false false true n e f g h = subst P (sym (eqb-true n 14 g)) z
heads P x y z k false false false n e f g h = absurd (false_true h)

pub head_kind : (P : ℕ → Type 0) → P 13 → P 17 → P 14 → (p : PacketValue) → IsHead p → P p.kind
head_kind P x y z p e = heads P x y z true (p.kind == 13) (p.kind == 17) (p.kind == 14) p.kind refl refl refl e

-- ---- one packet more
hung : (spot : Spot) (p : PacketValue) (ps : List PacketValue) → IsHung p → scan spot (p ∷ ps) ≡ here spot p ++ scan spot ps
hung spot p ps e = ap (λ (b : Bool). here spot p ++ scan (if b then spot else (if is_primary p.kind then within p.body (one p.body) else head_step spot p)) ps) e

nothing_here : (spot : Spot) (p : PacketValue) → (p.kind == 2) ≡ false → here spot p ≡ []
nothing_here outside p e = refl
nothing_here (within primary subject) p e = rw e refl

filler : (spot : Spot) (p : PacketValue) (ps : List PacketValue) → IsFiller p → scan spot (p ∷ ps) ≡ scan spot ps
filler spot p ps e = hung spot p ps (filler_is_hung p e) ∙ ap (λ (l : List Asked). l ++ scan spot ps) (nothing_here spot p (filler_signs_nothing p e))

primary : (spot : Spot) (p : PacketValue) (ps : List PacketValue) → IsPrimary p → scan spot (p ∷ ps) ≡ scan (within p.body (one p.body)) ps
primary spot p ps e =
    let kind : p.kind ≡ 6 = primary_kind p e in
    ap (λ (l : List Asked). l ++ scan (step spot p) ps) (nothing_here spot p (ap (λ (k : ℕ). k == 2) kind))
    ∙ ap (λ (k : ℕ). scan (if is_hung k then spot else (if is_primary k then within p.body (one p.body) else head_step spot p)) ps) kind

head : (body : List ℕ) (subject : SubjectValue) (p : PacketValue) (ps : List PacketValue) → IsHead p → scan (within body subject) (p ∷ ps) ≡ scan (within body (on_head body p)) ps
head body subject p ps e =
    let other : (p.kind == 2) ≡ false = head_kind (λ k. (k == 2) ≡ false) refl refl refl p e in
    let no_hang : is_hung p.kind ≡ false = head_kind (λ k. is_hung k ≡ false) refl refl refl p e in
    let no_primary : is_primary p.kind ≡ false = head_kind (λ k. is_primary k ≡ false) refl refl refl p e in
    ap (λ (l : List Asked). l ++ scan (step (within body subject) p) ps) (nothing_here (within body subject) p other)
    ∙ ap (λ (b : Bool). scan (if b then within body subject else (if is_primary p.kind then within p.body (one p.body) else within body (on_head body p))) ps) no_hang
    ∙ ap (λ (b : Bool). scan (if b then within p.body (one p.body) else within body (on_head body p)) ps) no_primary

-- ---- parts of a keyring
fillers : (spot : Spot) (fs rest : List PacketValue) → All IsFiller fs → scan spot (fs ++ rest) ≡ scan spot rest
fillers spot [] rest all = refl
fillers spot (f ∷ fs) rest all = filler spot f (fs ++ rest) (All-head IsFiller f fs all) ∙ fillers spot fs rest (All-tail IsFiller f fs all)

hangs : (body : List ℕ) (subject : SubjectValue) (hs rest : List PacketValue) → All IsHung hs → scan (within body subject) (hs ++ rest) ≡ hangs_asked subject hs ++ scan (within body subject) rest
hangs body subject [] rest all = refl
hangs body subject (h ∷ hs) rest all = hung (within body subject) h (hs ++ rest) (All-head IsHung h hs all)
    ∙ ap (λ (l : List Asked). hang_asked subject h ++ l) (hangs body subject hs rest (All-tail IsHung h hs all))
    ∙ sym (append_assoc (hang_asked subject h) (hangs_asked subject hs) (scan (within body subject) rest))

-- what signatures are about behind components
abbrev last_subject : List ℕ → SubjectValue → List ComponentValue → SubjectValue
last_subject body subject [] = subject
last_subject body subject (c ∷ cs) = last_subject body (on_head body c.head) cs

components : (body : List ℕ) (subject : SubjectValue) (cs : List ComponentValue) (rest : List PacketValue) → All IsComponent cs
    → scan (within body subject) (flat_map component_packets cs ++ rest) ≡ components_asked body cs ++ scan (within body (last_subject body subject cs)) rest
components body subject [] rest all = refl
components body subject (c ∷ cs) rest all =
    let is = All-head IsComponent c cs all in
    let about : SubjectValue = on_head body c.head in
    let more : List PacketValue = flat_map component_packets cs ++ rest in
    ap (λ (l : List PacketValue). scan (within body subject) l) (append_assoc (component_packets c) (flat_map component_packets cs) rest)
    ∙ head body subject c.head (c.hangs ++ more) is.head
    ∙ hangs body about c.hangs more is.hangs
    ∙ ap (λ (l : List Asked). component_asked body c ++ l) (components body about cs rest (All-tail IsComponent c cs all))
    ∙ sym (append_assoc (component_asked body c) (components_asked body cs) (scan (within body (last_subject body about cs)) rest))

abbrev end_of : CertificateValue → Spot
end_of c = within c.primary.body (last_subject c.primary.body (one c.primary.body) c.components)

certificate : (spot : Spot) (c : CertificateValue) (rest : List PacketValue) → IsCertificate c → scan spot (certificate_packets c ++ rest) ≡ certificate_asked c ++ scan (end_of c) rest
certificate spot c rest is =
    let body : List ℕ = c.primary.body in
    let parts : List PacketValue = flat_map component_packets c.components in
    primary spot c.primary ((c.hangs ++ parts) ++ rest) is.primary
    ∙ ap (λ (l : List PacketValue). scan (within body (one body)) l) (append_assoc c.hangs parts rest)
    ∙ hangs body (one body) c.hangs (parts ++ rest) is.hangs
    ∙ ap (λ (l : List Asked). hangs_asked (one body) c.hangs ++ l) (components body (one body) c.components rest is.components)
    ∙ sym (append_assoc (hangs_asked (one body) c.hangs) (components_asked body c.components) (scan (end_of c) rest))

abbrev behind_all : Spot → List CertificateValue → Spot
behind_all spot [] = spot
behind_all spot (c ∷ cs) = behind_all (end_of c) cs

certificates : (spot : Spot) (cs : List CertificateValue) (rest : List PacketValue) → All IsCertificate cs
    → scan spot (flat_map certificate_packets cs ++ rest) ≡ flat_map certificate_asked cs ++ scan (behind_all spot cs) rest
certificates spot [] rest all = refl
certificates spot (c ∷ cs) rest all =
    ap (λ (l : List PacketValue). scan spot l) (append_assoc (certificate_packets c) (flat_map certificate_packets cs) rest)
    ∙ certificate spot c (flat_map certificate_packets cs ++ rest) (All-head IsCertificate c cs all)
    ∙ ap (λ (l : List Asked). certificate_asked c ++ l) (certificates (end_of c) cs rest (All-tail IsCertificate c cs all))
    ∙ sym (append_assoc (certificate_asked c) (flat_map certificate_asked cs) (scan (behind_all (end_of c) cs) rest))

ring : (spot : Spot) (r : KeyringValue) (rest : List PacketValue) → IsKeyring r → scan spot (flat r ++ rest) ≡ asked_of r ++ scan (behind_all spot r.certificates) rest
ring spot r rest is =
    ap (λ (l : List PacketValue). scan spot l) (append_assoc r.lead (flat_map certificate_packets r.certificates) rest)
    ∙ fillers spot r.lead (flat_map certificate_packets r.certificates ++ rest) is.lead
    ∙ certificates spot r.certificates rest is.certificates
    ∙ ap (λ (l : List Asked). l ++ scan (behind_all spot r.certificates) rest) (sym (ring_asks r))

whole : (spot : Spot) (r : KeyringValue) → IsKeyring r → scan spot (flat r) ≡ asked_of r
whole spot r is = ap (λ (l : List PacketValue). scan spot l) (sym (append-nil (flat r))) ∙ ring spot r [] is ∙ append-nil (asked_of r)

pub joined_asks : (a b r : KeyringValue) → IsKeyring a → IsKeyring b → IsKeyring r → flat r ≡ flat a ++ flat b → asked_of r ≡ asked_of a ++ asked_of b
joined_asks a b r x y z e = sym (whole outside r z) ∙ ap (λ (l : List PacketValue). scan outside l) e ∙ ring outside a (flat b) x
    ∙ ap (λ (l : List Asked). asked_of a ++ l) (whole (behind_all outside a.certificates) b y)

-- ---- keys
abbrev keys_here : PacketValue → List (List ℕ)
keys_here p = if p.kind == 6 then p.body ∷ [] else (if p.kind == 14 then p.body ∷ [] else [])

hung_tests : (P : Bool → Bool → Type 0) → P false false → (k : ℕ) → is_hung k ≡ true → P (k == 6) (k == 14)
hung_tests P x k e =
    let six : (k == 6) ≡ false = is_no (k == 6) (λ t. false_true (subst (λ (n : ℕ). is_hung n ≡ true) (eqb-true k 6 t) e)) in
    let other : (k == 14) ≡ false = is_no (k == 14) (λ t. false_true (subst (λ (n : ℕ). is_hung n ≡ true) (eqb-true k 14 t) e)) in
    rw (six, other) x

no_keys : (ps : List PacketValue) → All IsHung ps → flat_map keys_here ps ≡ []
no_keys [] all = refl
no_keys (p ∷ ps) all =
    ap (λ (l : List (List ℕ)). l ++ flat_map keys_here ps) (hung_tests (λ s f. (if s then p.body ∷ [] else (if f then p.body ∷ [] else [])) ≡ []) refl p.kind (All-head IsHung p ps all))
    ∙ no_keys ps (All-tail IsHung p ps all)

hung_of : (fs : List PacketValue) → All IsFiller fs → All IsHung fs
hung_of fs all = λ i x l. filler_is_hung (get_or fs i x) (all i x l)

component_keys : (c : ComponentValue) → IsComponent c → flat_map keys_here (component_packets c) ≡ subkey_bodies c
component_keys c is =
    ap (λ (l : List (List ℕ)). keys_here c.head ++ l) (no_keys c.hangs is.hangs) ∙ append-nil (keys_here c.head)
    ∙ ap (λ (b : Bool). if b then c.head.body ∷ [] else subkey_bodies c) (head_kind (λ k. (k == 6) ≡ false) refl refl refl c.head is.head)

components_keys : (cs : List ComponentValue) → All IsComponent cs → flat_map keys_here (flat_map component_packets cs) ≡ flat_map subkey_bodies cs
components_keys [] all = refl
components_keys (c ∷ cs) all =
    flat_map-append keys_here (component_packets c) (flat_map component_packets cs)
    ∙ ap (λ (l : List (List ℕ)). l ++ flat_map keys_here (flat_map component_packets cs)) (component_keys c (All-head IsComponent c cs all))
    ∙ ap (λ (l : List (List ℕ)). subkey_bodies c ++ l) (components_keys cs (All-tail IsComponent c cs all))

one_keys : (c : CertificateValue) → IsCertificate c → flat_map keys_here (certificate_packets c) ≡ certificate_keys c
one_keys c is =
    let parts : List PacketValue = flat_map component_packets c.components in
    ap (λ (l : List (List ℕ)). keys_here c.primary ++ l) (flat_map-append keys_here c.hangs parts)
    ∙ ap (λ (l : List (List ℕ)). keys_here c.primary ++ (l ++ flat_map keys_here parts)) (no_keys c.hangs is.hangs)
    ∙ ap (λ (l : List (List ℕ)). keys_here c.primary ++ l) (components_keys c.components is.components)
    ∙ ap (λ (k : ℕ). (if k == 6 then c.primary.body ∷ [] else (if k == 14 then c.primary.body ∷ [] else [])) ++ flat_map subkey_bodies c.components) (primary_kind c.primary is.primary)

all_keys : (cs : List CertificateValue) → All IsCertificate cs → flat_map keys_here (flat_map certificate_packets cs) ≡ flat_map certificate_keys cs
all_keys [] all = refl
all_keys (c ∷ cs) all =
    flat_map-append keys_here (certificate_packets c) (flat_map certificate_packets cs)
    ∙ ap (λ (l : List (List ℕ)). l ++ flat_map keys_here (flat_map certificate_packets cs)) (one_keys c (All-head IsCertificate c cs all))
    ∙ ap (λ (l : List (List ℕ)). certificate_keys c ++ l) (all_keys cs (All-tail IsCertificate c cs all))

ring_keys : (r : KeyringValue) → IsKeyring r → flat_map keys_here (flat r) ≡ keys_in r
ring_keys r is =
    flat_map-append keys_here r.lead (flat_map certificate_packets r.certificates)
    ∙ ap (λ (l : List (List ℕ)). l ++ flat_map keys_here (flat_map certificate_packets r.certificates)) (no_keys r.lead (hung_of r.lead is.lead))
    ∙ all_keys r.certificates is.certificates

one_key : (six sub : Bool) (p : PacketValue) (ps : List PacketValue) → (if six then p.body ∷ [] else (if sub then p.body ∷ [] else [])) ++ map (λ q. q.body) ps ≡ map (λ q. q.body) (cond (six || sub) (p ∷ ps) ps)
one_key true sub p ps = refl
one_key false true p ps = refl
one_key false false p ps = refl

keys_of : (ps : List PacketValue) → flat_map keys_here ps ≡ map (λ p. p.body) (filter is_key ps)
keys_of [] = refl
keys_of (p ∷ ps) = ap (λ (l : List (List ℕ)). keys_here p ++ l) (keys_of ps) ∙ one_key (p.kind == 6) (p.kind == 14) p (filter is_key ps)

pub packet_keys : (r : KeyringValue) → IsKeyring r → keys_in r ≡ map (λ p. p.body) (filter is_key (flat r))
packet_keys r is = sym (ring_keys r is) ∙ keys_of (flat r)

pub joined_keys : (a b r : KeyringValue) → IsKeyring a → IsKeyring b → IsKeyring r → flat r ≡ flat a ++ flat b → keys_in r ≡ keys_in a ++ keys_in b
joined_keys a b r x y z e = sym (ring_keys r z) ∙ ap (λ (l : List PacketValue). flat_map keys_here l) e ∙ flat_map-append keys_here (flat a) (flat b)
    ∙ ap (λ (l : List (List ℕ)). l ++ flat_map keys_here (flat b)) (ring_keys a x)
    ∙ ap (λ (l : List (List ℕ)). keys_in a ++ l) (ring_keys b y)
