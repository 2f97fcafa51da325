-- The claims of a keyring are those of its certificates, one after the other.
use Rattle.std.proofs.Common.{◌≡◌, ◌∙◌, ℕ, ◌+◌, Bool, true, false, cond, List, [], ◌∷◌, ◌++◌, length, map, drop, Option, Some, None, Ok, Err, refl, sym, ap, append_assoc}
use Rattle.std.specs.Global.{Vec}
use Rattle.std.specs.List.{flat_map}
use Rattle.std.proofs.lemmas.List.{length-map, map-append}
use Rattle.std.proofs.Math.Seq.{drop-append_seam}
use Rattle.opgp_frame.specs.Packet.{PacketValue}
use Rattle.opgp_packet.specs.SignatureBody.{signature_at}
use Rattle.opgp_hash.specs.declared.site.Site.TheVariants.{Hung, Embedded}
use Rattle.opgp_hash.specs.SubjectValue.{SubjectValue, one}
use Rattle.opgp_keyring.specs.Keyring.{CertificateValue, ComponentValue, KeyringValue}
use Rattle.opgp_report.specs.declared.place.Place.{Place}
use Rattle.opgp_report.specs.declared.verifier.Verdict.{Verdict}
use Rattle.opgp_report.specs.Asked.{PosedValue, posed_by}
use Rattle.opgp_report.specs.Left.{says_left}
use Rattle.opgp_report.specs.Report.{finding_of, keys_in, row_of}
use Rattle.opgp_report.specs.Standing.{Standing, bodies_within, by_number, certificate_standing, component_standing, hang_standing, hangs_standing, hung_at, is_signature, nested_standing, on_head, signature_standing, standing_in, stands}
use Rattle.opgp_valid.specs.Judgement.{facts_by}
use Rattle.opgp_valid.specs.States.{states_of}
use Rattle.opgp_valid.specs.declared.cause.Cause.{Cause}
use Rattle.opgp_valid.specs.declared.known_keys.Known.{Known}
use Rattle.opgp_valid.specs.declared.policy.Policy.{Policy}
use Rattle.opgp_valid.specs.declared.states.PartState.{PartState}
use Rattle.opgp_state.specs.Claimed.{claimed, claims_of}
use Rattle.opgp_state.specs.Claiming.{claim, claim_heard}
use Rattle.opgp_state.specs.Claims.{certificate_claims}
use Rattle.opgp_state.specs.KeyringStates.{causes_among, causes_if, states_among}

-- numbers aren't seen in what is made
unnumbered : {A B C : Type 0} (make : ℕ → A → List B) (see : B → C) (each : A → List C) → ((n : ℕ) (x : A) → map see (make n x) ≡ each x) → (n : ℕ) (xs : List A) → map see (by_number make n xs) ≡ flat_map each xs
unnumbered make see each same n [] = refl
unnumbered {A} {B} {C} make see each same n (x ∷ xs) =
    map-append see (make n x) (by_number make (n + 1) xs)
    ∙ ap (λ (l : List C). l ++ map see (by_number make (n + 1) xs)) (same n x) ∙ ap (λ (l : List C). each x ++ l) (unnumbered make see each same (n + 1) xs)

-- ---- a claim hangs on no place
nested : (p q : Place) (subject : SubjectValue) (n m : ℕ) (bodies : List (List ℕ)) → map claim (by_number (nested_standing p subject) n bodies) ≡ map claim (by_number (nested_standing q subject) m bodies)
nested p q subject n m [] = refl
nested p q subject n m (b ∷ bs) = ap (λ (l : List Verdict). claim (stands Embedded q subject b) ∷ l) (nested p q subject (n + 1) (m + 1) bs)

chosen : (test : Bool) (xs ys : List Standing) → map claim xs ≡ map claim ys → map claim (cond test xs []) ≡ map claim (cond test ys [])
chosen true xs ys e = e
chosen false xs ys e = refl

hang : (subject : SubjectValue) (certificate : ℕ) (component : Option ℕ) (n : ℕ) (p : PacketValue) → map claim (hang_standing certificate component subject n p) ≡ map claim (hang_standing 0 None subject 0 p)
hang subject certificate component n p =
    chosen (is_signature p) (signature_standing (hung_at certificate component n) subject p.body) (signature_standing (hung_at 0 None 0) subject p.body)
    (ap (λ (l : List Verdict). claim (stands Hung (hung_at 0 None 0) subject p.body) ∷ l) (nested (hung_at certificate component n) (hung_at 0 None 0) subject 0 0 (bodies_within subject (signature_at p.body))))

hangs : (subject : SubjectValue) (certificate : ℕ) (component : Option ℕ) (ps : List PacketValue) → map claim (hangs_standing certificate component subject ps) ≡ flat_map (λ p. map claim (hang_standing 0 None subject 0 p)) ps
hangs subject certificate component ps = unnumbered (hang_standing certificate component subject) claim (λ p. map claim (hang_standing 0 None subject 0 p)) (hang subject certificate component) 0 ps

component : (primary : List ℕ) (certificate n : ℕ) (c : ComponentValue) → map claim (component_standing primary certificate n c) ≡ map claim (component_standing primary 0 0 c)
component primary certificate n c = hangs (on_head primary c.head) certificate (Some n) c.hangs ∙ sym (hangs (on_head primary c.head) 0 (Some 0) c.hangs)

components : (primary : List ℕ) (certificate : ℕ) (cs : List ComponentValue) → map claim (by_number (component_standing primary certificate) 0 cs) ≡ flat_map (λ c. map claim (component_standing primary 0 0 c)) cs
components primary certificate cs = unnumbered (component_standing primary certificate) claim (λ c. map claim (component_standing primary 0 0 c)) (component primary certificate) 0 cs

certificate : (n : ℕ) (c : CertificateValue) → map claim (certificate_standing n c) ≡ certificate_claims c
certificate n c =
    let first : ℕ → List Standing = λ m. hangs_standing m None (one c.primary.body) c.hangs in
    let rest : ℕ → List Standing = λ m. by_number (component_standing c.primary.body m) 0 c.components in
    map-append claim (first n) (rest n)
    ∙ ap (λ (l : List Verdict). l ++ map claim (rest n)) (hangs (one c.primary.body) n None c.hangs ∙ sym (hangs (one c.primary.body) 0 None c.hangs))
    ∙ ap (λ (l : List Verdict). map claim (first 0) ++ l) (components c.primary.body n c.components ∙ sym (components c.primary.body 0 c.components))
    ∙ sym (map-append claim (first 0) (rest 0))

-- ---- all of them
same_claim : (keys : List (List ℕ)) (x : PosedValue) → claimed (finding_of says_left keys x) ≡ claimed (finding_of says_left [] x)
same_claim keys (Ok x) = refl
same_claim keys (Err why) = refl

claims_on : (keys : List (List ℕ)) (rows : List Standing) → map (λ row. claimed row.finding) (map (row_of says_left keys) rows) ≡ map claim rows
claims_on keys [] = refl
claims_on keys (s ∷ rows) = rw (same_claim keys (posed_by s), claims_on keys rows) refl

pub all_claims : (r : KeyringValue) → claims_of r ≡ map (claim_heard None) (standing_in r)
all_claims r = claims_on (keys_in r) (standing_in r)

claims_by : (r : KeyringValue) → claims_of r ≡ flat_map certificate_claims r.certificates
claims_by r = claims_on (keys_in r) (standing_in r) ∙ unnumbered certificate_standing claim certificate_claims certificate 0 r.certificates

-- ---- states by them
-- the states of the first certificate, and those behind it
pub first_states : (known : List Known) (policy : Policy) (at : ℕ) (c : CertificateValue) (cs : List CertificateValue)
    → states_among known policy at (c ∷ cs) (flat_map certificate_claims (c ∷ cs))
    ≡ states_of (facts_by known policy c (certificate_claims c ++ flat_map certificate_claims cs)) c at ∷ states_among known policy at cs (flat_map certificate_claims cs)
first_states known policy at c cs =
    ap (λ (l : List Verdict). states_of (facts_by known policy c (certificate_claims c ++ flat_map certificate_claims cs)) c at ∷ states_among known policy at cs l)
    (ap (λ (n : ℕ). drop n (certificate_claims c ++ flat_map certificate_claims cs)) (sym (length-map (certificate_standing 0 c) claim))
    ∙ drop-append_seam (certificate_claims c) (flat_map certificate_claims cs))

-- the items of what is pushed
pub pushed : {A : Type 0} (xs ys : List (Vec A)) (x : Vec A) (is : List A) → ys ≡ xs ++ x ∷ [] → x.items ≡ is → map (λ parts. parts.items) ys ≡ map (λ parts. parts.items) xs ++ is ∷ []
pushed {A} xs ys x is e f =
    ap (λ (l : List (Vec A)). map (λ parts. parts.items) l) e
    ∙ map-append (λ parts. parts.items) xs (x ∷ [])
    ∙ ap (λ (l : List A). map (λ parts. parts.items) xs ++ l ∷ []) f

-- what is behind, added to those so far
pub added_behind : {A : Type 0} (before after : List A) (x y : A) (rest rest' all : List A) → after ≡ before ++ x ∷ [] → x ≡ y → y ∷ rest ≡ rest' → before ++ rest' ≡ all → after ++ rest ≡ all
added_behind {A} before after x y rest rest' all pushed is next e =
    ap (λ (l : List A). l ++ rest) pushed
    ∙ append_assoc before (x ∷ []) rest
    ∙ ap (λ (z : A). before ++ z ∷ rest) is
    ∙ ap (λ (l : List A). before ++ l) next
    ∙ e

-- those of the next certificate, by the verdicts on its rows
pub next_states : (known : List Known) (policy : Policy) (at : ℕ) (before after : List (List PartState)) (c : CertificateValue) (left more : List CertificateValue) (found found' : List Verdict) (all : List (List PartState))
    → left ≡ c ∷ more → found' ≡ drop (length (certificate_standing 0 c)) found → after ≡ before ++ states_of (facts_by known policy c found) c at ∷ []
    → before ++ states_among known policy at left found ≡ all → after ++ states_among known policy at more found' ≡ all
next_states known policy at before after c left more found found' all here behind is e =
    let first : List PartState = states_of (facts_by known policy c found) c at in
    added_behind before after first first (states_among known policy at more found') (states_among known policy at left found) all is refl
    (ap (λ (l : List Verdict). first ∷ states_among known policy at more l) behind ∙ ap (λ (l : List CertificateValue). states_among known policy at l found) (sym here)) e

pub next_causes : (wanted : Bool) (known : List Known) (policy : Policy) (at : ℕ) (before after : List (List (Option Cause))) (c : CertificateValue) (left more : List CertificateValue) (found found' : List Verdict) (all : List (List (Option Cause)))
    → left ≡ c ∷ more → found' ≡ drop (length (certificate_standing 0 c)) found → after ≡ before ++ causes_if wanted (facts_by known policy c found) c at ∷ []
    → before ++ causes_among wanted known policy at left found ≡ all → after ++ causes_among wanted known policy at more found' ≡ all
next_causes wanted known policy at before after c left more found found' all here behind is e =
    let first : List (Option Cause) = causes_if wanted (facts_by known policy c found) c at in
    added_behind before after first first (causes_among wanted known policy at more found') (causes_among wanted known policy at left found) all is refl
    (ap (λ (l : List Verdict). first ∷ causes_among wanted known policy at more l) behind ∙ ap (λ (l : List CertificateValue). causes_among wanted known policy at l found) (sym here)) e

-- the states of the next certificate, added to those so far
pub added_states : (known : List Known) (policy : Policy) (at : ℕ) (before after : List (List PartState)) (c : CertificateValue) (left more : List CertificateValue) (all : List (List PartState))
    → left ≡ c ∷ more → ((behind : List Verdict) → after ≡ before ++ states_of (facts_by known policy c (certificate_claims c ++ behind)) c at ∷ [])
    → before ++ states_among known policy at left (flat_map certificate_claims left) ≡ all → after ++ states_among known policy at more (flat_map certificate_claims more) ≡ all
added_states known policy at before after c left more all here is e =
    added_behind before after _ _ (states_among known policy at more (flat_map certificate_claims more)) (states_among known policy at left (flat_map certificate_claims left)) all
    (is (flat_map certificate_claims more)) refl (sym (first_states known policy at c more) ∙ ap (λ (l : List CertificateValue). states_among known policy at l (flat_map certificate_claims l)) (sym here)) e

-- the same of what makes keys of no use
first_causes : (wanted : Bool) (known : List Known) (policy : Policy) (at : ℕ) (c : CertificateValue) (cs : List CertificateValue)
    → causes_among wanted known policy at (c ∷ cs) (flat_map certificate_claims (c ∷ cs))
    ≡ causes_if wanted (facts_by known policy c (certificate_claims c ++ flat_map certificate_claims cs)) c at ∷ causes_among wanted known policy at cs (flat_map certificate_claims cs)
first_causes wanted known policy at c cs =
    ap (λ (l : List Verdict). causes_if wanted (facts_by known policy c (certificate_claims c ++ flat_map certificate_claims cs)) c at ∷ causes_among wanted known policy at cs l)
    (ap (λ (n : ℕ). drop n (certificate_claims c ++ flat_map certificate_claims cs)) (sym (length-map (certificate_standing 0 c) claim))
    ∙ drop-append_seam (certificate_claims c) (flat_map certificate_claims cs))

pub added_causes : (wanted : Bool) (known : List Known) (policy : Policy) (at : ℕ) (before after : List (List (Option Cause))) (c : CertificateValue) (left more : List CertificateValue) (all : List (List (Option Cause)))
    → left ≡ c ∷ more → ((behind : List Verdict) → after ≡ before ++ causes_if wanted (facts_by known policy c (certificate_claims c ++ behind)) c at ∷ [])
    → before ++ causes_among wanted known policy at left (flat_map certificate_claims left) ≡ all → after ++ causes_among wanted known policy at more (flat_map certificate_claims more) ≡ all
added_causes wanted known policy at before after c left more all here is e =
    added_behind before after _ _ (causes_among wanted known policy at more (flat_map certificate_claims more)) (causes_among wanted known policy at left (flat_map certificate_claims left)) all
    (is (flat_map certificate_claims more)) refl (sym (first_causes wanted known policy at c more) ∙ ap (λ (l : List CertificateValue). causes_among wanted known policy at l (flat_map certificate_claims l)) (sym here)) e

pub claimed_causes : (r : KeyringValue) (wanted : Bool) (known : List Known) (policy : Policy) (at : ℕ) → causes_among wanted known policy at r.certificates (flat_map certificate_claims r.certificates) ≡ causes_among wanted known policy at r.certificates (claims_of r)
claimed_causes r wanted known policy at = ap (λ (l : List Verdict). causes_among wanted known policy at r.certificates l) (sym (claims_by r))

pub claimed_states : (r : KeyringValue) (known : List Known) (policy : Policy) (at : ℕ) → states_among known policy at r.certificates (flat_map certificate_claims r.certificates) ≡ states_among known policy at r.certificates (claims_of r)
claimed_states r known policy at = ap (λ (l : List Verdict). states_among known policy at r.certificates l) (sym (claims_by r))
