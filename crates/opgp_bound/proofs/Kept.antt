-- What stays of the packets of a certificate, one packet or component after the other.
use Rattle.std.proofs.Common.{◌≡◌, ◌∙◌, ◌-◌, ◌≤◌, Bool, true, false, List, [], ◌∷◌, ◌++◌, length, take, drop, get_or, map, refl, sym, ap, subst, if◌then◌else◌, append_assoc, All, arith}
use Rattle.std.proofs.lemmas.List.{take_rest}
use Rattle.std.specs.List.{filter, flat_map}
use Rattle.std.proofs.lemmas.List.Elements.{All-append, All-filter, All-head, All-map, All-nil, All-tail, All-weaker}
use Rattle.opgp_frame.specs.Packet.{PacketValue}
use Rattle.opgp_keyring.specs.Keyring.{IsCertificate, IsComponent, IsHung, IsPrimary, certificate_packets, component_packets}
use Rattle.opgp_bound.specs.Bound.{component_stays, kept, kept_certificate, kept_component, kept_components, left_behind, packets_of, revokes, role_stays}
use Rattle.opgp_bound.specs.Judged.{IsJudgedComponent, JudgedComponentValue, JudgedValue}

abbrev pub Hung : JudgedValue → Type 0
Hung j = IsHung j.packet

-- ---- the first of a list
pub first_rest : {X : Type 0} (xs : List X) (x : X) → 1 ≤ length xs → x ≡ get_or xs 0 x → xs ≡ x ∷ take (length xs - 1) (drop 1 xs)
first_rest [] x l e = absurd (omega arith)
first_rest (y ∷ ys) x l e = sym (ap (λ l. x ∷ l) (take_rest (y ∷ ys) 1) ∙ ap (λ z. z ∷ ys) e)

pub first_is : {X : Type 0} (P : X → Type 0) (xs rest : List X) (x : X) → xs ≡ x ∷ rest → All P xs → P x
first_is P xs rest x e h = All-head P x rest (subst (All P) e h)

pub rest_are : {X : Type 0} (P : X → Type 0) (xs rest : List X) (x : X) → xs ≡ x ∷ rest → All P xs → All P rest
rest_are P xs rest x e h = All-tail P x rest (subst (All P) e h)

-- ---- one packet more
here : (b : Bool) (p : PacketValue) (l : List PacketValue) → (if b then p ∷ l else l) ≡ (if b then p ∷ [] else []) ++ l
here true p l = refl
here false p l = refl

split : (P : JudgedValue → Bool) (j : JudgedValue) (js : List JudgedValue) → packets_of (filter P (j ∷ js)) ≡ (if P j then j.packet ∷ [] else []) ++ packets_of (filter P js)
split P j js = go (P j) where
  go : (b : Bool) → packets_of (if b then j ∷ filter P js else filter P js) ≡ (if b then j.packet ∷ [] else []) ++ packets_of (filter P js)
  go true = refl
  go false = refl

pub packets_more : (P : JudgedValue → Bool) (all js : List JudgedValue) (j : JudgedValue) (b : Bool) (done new : List PacketValue) → all ≡ j ∷ js → b ≡ P j
    → new ≡ done ++ (if b then j.packet ∷ [] else []) → new ++ packets_of (filter P js) ≡ done ++ packets_of (filter P all)
packets_more P all js j b done new first is added =
    ap (λ l. l ++ packets_of (filter P js)) (added ∙ ap (λ (t : Bool). done ++ (if t then j.packet ∷ [] else [])) is)
    ∙ append_assoc done (if P j then j.packet ∷ [] else []) (packets_of (filter P js))
    ∙ ap (λ l. done ++ l) (sym (split P j js) ∙ ap (λ l. packets_of (filter P l)) (sym first))

-- ---- one component more
pub left_more : (all cs : List JudgedComponentValue) (c : JudgedComponentValue) (done new : List PacketValue) → all ≡ c ∷ cs
    → new ≡ done ++ left_behind c → new ++ flat_map left_behind cs ≡ done ++ flat_map left_behind all
left_more all cs c done new first added =
    ap (λ l. l ++ flat_map left_behind cs) added ∙ append_assoc done (left_behind c) (flat_map left_behind cs)
    ∙ ap (λ l. done ++ flat_map left_behind l) (sym first)

abbrev pub component_kept : JudgedComponentValue → List PacketValue
component_kept c = if component_stays c then component_packets (kept_component c) else []

components_split : (c : JudgedComponentValue) (cs : List JudgedComponentValue) → flat_map component_packets (kept_components (c ∷ cs)) ≡ component_kept c ++ flat_map component_packets (kept_components cs)
components_split c cs = go (component_stays c) where
  go : (b : Bool) → flat_map component_packets (map kept_component (if b then c ∷ filter component_stays cs else filter component_stays cs)) ≡ (if b then component_packets (kept_component c) else []) ++ flat_map component_packets (kept_components cs)
  go true = refl
  go false = refl

pub components_more : (all cs : List JudgedComponentValue) (c : JudgedComponentValue) (done new : List PacketValue) → all ≡ c ∷ cs
    → new ≡ done ++ component_kept c → new ++ flat_map component_packets (kept_components cs) ≡ done ++ flat_map component_packets (kept_components all)
components_more all cs c done new first added =
    ap (λ l. l ++ flat_map component_packets (kept_components cs)) added
    ∙ append_assoc done (component_kept c) (flat_map component_packets (kept_components cs))
    ∙ ap (λ l. done ++ l) (sym (components_split c cs) ∙ ap (λ l. flat_map component_packets (kept_components l)) (sym first))

-- ---- the certificate
pub packets_hung : (P : JudgedValue → Bool) (js : List JudgedValue) → All Hung js → All IsHung (packets_of (filter P js))
packets_hung P js h = All-map IsHung (λ (j : JudgedValue). j.packet) (filter P js) (All-filter P Hung js h)

left_hung : (c : JudgedComponentValue) → IsJudgedComponent c → All IsHung (left_behind c)
left_hung c h = go (component_stays c) where
  go : (b : Bool) → All IsHung (if b then [] else packets_of (filter (λ j. revokes j.role) c.hangs))
  go true = All-nil IsHung
  go false = packets_hung (λ j. revokes j.role) c.hangs h.hangs

all_left_hung : (cs : List JudgedComponentValue) → All IsJudgedComponent cs → All IsHung (flat_map left_behind cs)
all_left_hung [] h = All-nil IsHung
all_left_hung (c ∷ cs) h = All-append IsHung (left_behind c) (flat_map left_behind cs) (left_hung c (All-head IsJudgedComponent c cs h)) (all_left_hung cs (All-tail IsJudgedComponent c cs h))

component_is : (c : JudgedComponentValue) → IsJudgedComponent c → IsComponent (kept_component c)
component_is c h = record { head = h.head; hangs = packets_hung (λ j. role_stays j.role) c.hangs h.hangs }

components_are : (cs : List JudgedComponentValue) → All IsJudgedComponent cs → All IsComponent (kept_components cs)
components_are cs h = All-map IsComponent kept_component (filter component_stays cs)
    (All-weaker IsJudgedComponent (λ c. IsComponent (kept_component c)) component_is (filter component_stays cs) (All-filter component_stays IsJudgedComponent cs h))

pub certificate_is : (p : PacketValue) (hangs : List JudgedValue) (cs : List JudgedComponentValue) → IsPrimary p → All Hung hangs → All IsJudgedComponent cs → IsCertificate (kept_certificate p hangs cs)
certificate_is p hangs cs hp hh hc = record {
  primary = hp;
  hangs = All-append IsHung (kept hangs) (flat_map left_behind cs) (packets_hung (λ j. role_stays j.role) hangs hh) (all_left_hung cs hc);
  components = components_are cs hc;
}

pub all_kept : (p : PacketValue) (hangs : List JudgedValue) (cs : List JudgedComponentValue) (one two three all : List PacketValue)
    → one ≡ p ∷ [] → two ≡ one ++ kept hangs → three ≡ two ++ flat_map left_behind cs → all ≡ three ++ flat_map component_packets (kept_components cs)
    → all ≡ certificate_packets (kept_certificate p hangs cs)
all_kept p hangs cs one two three all a b c d =
    d ∙ ap (λ l. l ++ flat_map component_packets (kept_components cs)) (c ∙ ap (λ l. l ++ flat_map left_behind cs) (b ∙ ap (λ l. l ++ kept hangs) a))
    ∙ ap (λ l. l ++ flat_map component_packets (kept_components cs)) (append_assoc (p ∷ []) (kept hangs) (flat_map left_behind cs))
