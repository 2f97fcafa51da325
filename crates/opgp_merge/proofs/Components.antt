-- What is chosen of certificates, one packet or component after the other.
use Rattle.std.proofs.Common.{◌≡◌, ◌∙◌, ℕ, ◌+◌, ◌<◌, ◌≤◌, Bool, true, false, List, [], ◌∷◌, ◌++◌, length, map, refl, sym, ap, subst, if◌then◌else◌, append_assoc, length-append, All, Option, Some, None, arith}
use Rattle.std.specs.List.{flat_map}
use Rattle.std.proofs.lemmas.Grind.{flat_map-append}
use Rattle.std.proofs.lemmas.List.Elements.{All-filter, All-head, All-tail, filter-append}
use Rattle.std.proofs.lemmas.List.{map-append}
use Rattle.opgp_hash.specs.declared.fingerprints.Fingerprint.{Fingerprint}
use Rattle.opgp_frame.specs.Packet.{PacketValue}
use Rattle.opgp_keyring.specs.Keyring.{CertificateValue, ComponentValue, IsHung, certificate_packets, component_packets}
use Rattle.opgp_merge.specs.declared.choice.Choice.{Choice}
use Rattle.opgp_merge.specs.Chosen.{chosen_certificate, chosen_component, component_stays, components_from, is_own, is_user_id, next_number, own_hangs, owner}

-- what stays of signatures and fillers are some of them
pub own_stay : (own : Option Fingerprint) (ps : List PacketValue) → All IsHung ps → All IsHung (own_hangs own ps)
own_stay None ps h = h
own_stay (Some print) ps h = All-filter (is_own print) IsHung ps h

-- ---- the first of a list
pub first_is : {X : Type 0} (P : X → Type 0) (xs rest : List X) (x : X) → xs ≡ x ∷ rest → All P xs → P x
first_is P xs rest x e h = All-head P x rest (subst (All P) e h)

pub rest_are : {X : Type 0} (P : X → Type 0) (xs rest : List X) (x : X) → xs ≡ x ∷ rest → All P xs → All P rest
rest_are P xs rest x e h = All-tail P x rest (subst (All P) e h)

-- ---- one packet, or one component, more
own_apart : (own : Option Fingerprint) (ps qs : List PacketValue) → own_hangs own (ps ++ qs) ≡ own_hangs own ps ++ own_hangs own qs
own_apart None ps qs = refl
own_apart (Some print) ps qs = filter-append (is_own print) ps qs

pub own_more : (own : Option Fingerprint) (done new ps rest : List PacketValue) (p : PacketValue) → ps ≡ p ∷ rest
    → new ≡ done ++ own_hangs own (p ∷ []) → new ++ own_hangs own rest ≡ done ++ own_hangs own ps
own_more own done new ps rest p is added =
    ap (λ l. l ++ own_hangs own rest) added ∙ append_assoc done (own_hangs own (p ∷ [])) (own_hangs own rest)
    ∙ ap (λ l. done ++ l) (sym (own_apart own (p ∷ []) rest) ∙ ap (own_hangs own) (sym is))

-- the packets of components, as they are chosen
abbrev pub chosen_packets : Option Fingerprint → List ComponentValue → List PacketValue
chosen_packets own cs = flat_map component_packets (map (chosen_component own) cs)

packets_apart : (own : Option Fingerprint) (cs ds : List ComponentValue) → chosen_packets own (cs ++ ds) ≡ chosen_packets own cs ++ chosen_packets own ds
packets_apart own cs ds =
    ap (flat_map component_packets) (map-append (chosen_component own) cs ds)
    ∙ flat_map-append component_packets (map (chosen_component own) cs) (map (chosen_component own) ds)

pub component_more : (own : Option Fingerprint) (choice : Choice) (number next : ℕ) (b : Bool) (done new : List PacketValue) (cs rest : List ComponentValue) (c : ComponentValue) → cs ≡ c ∷ rest
    → b ≡ component_stays choice number c → next ≡ next_number number c → new ≡ done ++ chosen_packets own (if b then c ∷ [] else [])
    → new ++ chosen_packets own (components_from next choice rest) ≡ done ++ chosen_packets own (components_from number choice cs)
component_more own choice number next b done new cs rest c is stays counts added =
    let here : List ComponentValue = if component_stays choice number c then c ∷ [] else [] in
    let later : List ComponentValue = components_from (next_number number c) choice rest in
    ap (λ n. new ++ chosen_packets own (components_from n choice rest)) counts
    ∙ ap (λ l. l ++ chosen_packets own later) (added ∙ ap (λ (s : Bool). done ++ chosen_packets own (if s then c ∷ [] else [])) stays)
    ∙ append_assoc done (chosen_packets own here) (chosen_packets own later)
    ∙ ap (λ l. done ++ l) (sym (packets_apart own here later) ∙ ap (λ l. chosen_packets own (components_from number choice l)) (sym is))

next_bound : (b : Bool) (number : ℕ) → (if b then number + 1 else number) ≤ number + 1
next_bound true number = omega arith
next_bound false number = omega arith

-- user IDs that are counted are fewer than the components
pub counted : (total number next : ℕ) (cs rest : List ComponentValue) (c : ComponentValue) → cs ≡ c ∷ rest
    → next ≡ next_number number c → number + length cs ≤ total → next + length rest ≤ total
counted total number next cs rest c is counts few = omega (arith, next_bound (is_user_id c) number, ap length is)

-- a certificate has fewer components than packets
fewer : (cs : List ComponentValue) → length cs ≤ length (flat_map component_packets cs)
fewer [] = omega arith
fewer (c ∷ cs) = omega (arith, fewer cs, length-append c.hangs (flat_map component_packets cs))

pub few : (c : CertificateValue) (cs : List ComponentValue) → length (certificate_packets c) < 18446744073709551616
    → cs ≡ c.components → length cs < 18446744073709551616
few c cs bound components =
    omega (arith, bound, ap length components, fewer c.components, length-append c.hangs (flat_map component_packets c.components))

-- a certificate whose packets stay one after the other
pub all_chosen : (choice : Choice) (c : CertificateValue) (own : Option Fingerprint) (p : PacketValue) (hs : List PacketValue) (cs : List ComponentValue) (first second all : List PacketValue)
    → own ≡ owner choice c → p ≡ c.primary → hs ≡ c.hangs → cs ≡ c.components
    → first ≡ p ∷ [] → second ≡ first ++ own_hangs own hs → all ≡ second ++ chosen_packets own (components_from 0 choice cs)
    → all ≡ certificate_packets (chosen_certificate choice c)
all_chosen choice c own p hs cs first second all owns primary hangs components one two three =
    three ∙ ap (λ l. l ++ chosen_packets own (components_from 0 choice cs)) (two ∙ ap (λ l. l ++ own_hangs own hs) one)
    ∙ (λ i. ((primary i ∷ []) ++ own_hangs (owns i) (hangs i)) ++ chosen_packets (owns i) (components_from 0 choice (components i)))
