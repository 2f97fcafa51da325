-- What stays of a keyring by a choice.
use Rattle.std.proofs.Common.{◌≡◌, ◌∙◌, ℕ, zero, suc, ◌+◌, ◌<◌, Bool, true, false, ◌&&◌, ◌==◌, not, List, [], ◌∷◌, ◌++◌, map, refl, ap, if◌then◌else◌, All, length, Option, None, slice_get, arith, eq-eqb}
use Rattle.std.specs.Prelude.{◌||◌}
use Rattle.std.specs.List.{enumerate_from, filter, list_any}
use Rattle.std.specs.Option.{option_to_list}
use Rattle.std.proofs.lemmas.Bool.{ne_eqb}
use Rattle.std.proofs.lemmas.List.Elements.{All-append, All-cons, All-head, All-map, All-nil, All-tail, All-weaker, filter-append}
use Rattle.opgp_hash.specs.declared.fingerprints.Fingerprint.{Fingerprint}
use Rattle.opgp_keyring.specs.Keyring.{CertificateValue, ComponentValue, KeyringValue, IsCertificate, IsComponent, IsKeyring}
use Rattle.opgp_merge.specs.Chosen.{chosen_certificate, chosen_component, chosen_keyring, component_stays, components_from, is_attribute, is_chosen, is_everything, is_user_id, next_number, owner, own_hangs}
use Rattle.opgp_merge.specs.declared.choice.Choice.{Choice}
use Rattle.opgp_merge.proofs.Components.{own_stay}

-- ---- a keyring
stays_or_not : (b : Bool) (c : ComponentValue) → IsComponent c → All IsComponent (if b then c ∷ [] else [])
stays_or_not true c h = All-cons IsComponent c [] h (All-nil IsComponent)
stays_or_not false c h = All-nil IsComponent

pub components_stay : (choice : Choice) (number : ℕ) (cs : List ComponentValue) → All IsComponent cs → All IsComponent (components_from number choice cs)
components_stay choice number [] h = All-nil IsComponent
components_stay choice number (c ∷ cs) h =
    All-append IsComponent (if component_stays choice number c then c ∷ [] else []) (components_from (next_number number c) choice cs) (stays_or_not (component_stays choice number c) c (All-head IsComponent c cs h))
    (components_stay choice (next_number number c) cs (All-tail IsComponent c cs h))

pub component_is : (own : Option Fingerprint) (c : ComponentValue) → IsComponent c → IsComponent (chosen_component own c)
component_is own c h = record { head = h.head; hangs = own_stay own c.hangs h.hangs }

pub certificate_is : (choice : Choice) (c : CertificateValue) → IsCertificate c → IsCertificate (chosen_certificate choice c)
certificate_is choice c h = record {
  primary = h.primary;
  hangs = own_stay (owner choice c) c.hangs h.hangs;
  components = All-map IsComponent (chosen_component (owner choice c)) (components_from 0 choice c.components) (All-weaker IsComponent (λ d. IsComponent (chosen_component (owner choice c) d)) (component_is (owner choice c)) (components_from 0 choice c.components) (components_stay choice 0 c.components h.components));
}

pub chosen_is_keyring : (choice : Choice) (r : KeyringValue) → IsKeyring r → IsKeyring (chosen_keyring choice r)
chosen_is_keyring choice r h = record {
  lead = h.lead;
  certificates = All-map IsCertificate (chosen_certificate choice) r.certificates (All-weaker IsCertificate (λ c. IsCertificate (chosen_certificate choice c)) (certificate_is choice) r.certificates h.certificates);
}

-- ---- everything
-- what a choice chooses that leaves nothing out
pub none_own : (choice : Choice) → is_everything choice ≡ true → choice.own_signatures ≡ false
none_own choice e = whole choice.own_signatures choice.no_attributes (length choice.user_ids.now == 0) e
  where
    whole : (own none all : Bool) → (not own && (not none && all)) ≡ true → own ≡ false
    whole false none all e = refl
    whole true none all e = absurd (cc e)

pub attributes_stay : (choice : Choice) → is_everything choice ≡ true → choice.no_attributes ≡ false
attributes_stay choice e = whole choice.own_signatures choice.no_attributes (length choice.user_ids.now == 0) e
  where
    whole : (own none all : Bool) → (not own && (not none && all)) ≡ true → none ≡ false
    whole own false all e = refl
    whole true true all e = absurd (cc e)
    whole false true all e = absurd (cc e)

pub none_named : (choice : Choice) → is_everything choice ≡ true → (length choice.user_ids.now == 0) ≡ true
none_named choice e = whole choice.own_signatures choice.no_attributes (length choice.user_ids.now == 0) e
  where
    whole : (own none all : Bool) → (not own && (not none && all)) ≡ true → all ≡ true
    whole own none true e = refl
    whole true none false e = absurd (cc e)
    whole false true false e = absurd (cc e)
    whole false false false e = absurd (cc e)

stays_always : (choice : Choice) → is_everything choice ≡ true → (number : ℕ) (c : ComponentValue) → component_stays choice number c ≡ true
stays_always choice e number c = go (is_user_id c) (length choice.user_ids.now == 0) choice.no_attributes (none_named choice e) (attributes_stay choice e)
  where
    go : (b named none : Bool) → named ≡ true → none ≡ false
        → (if b then (named || list_any (λ n. n == number) choice.user_ids.now) else not (none && is_attribute c)) ≡ true
    go true true none all attributes = refl
    go false named false all attributes = refl
    go true false none all attributes = absurd (cc all)
    go false named true all attributes = absurd (cc attributes)

every_component : (choice : Choice) → is_everything choice ≡ true → (number : ℕ) (cs : List ComponentValue) → components_from number choice cs ≡ cs
every_component choice e number [] = refl
every_component choice e number (c ∷ cs) =
    ap (λ (b : Bool). (if b then c ∷ [] else []) ++ components_from (next_number number c) choice cs) (stays_always choice e number c)
    ∙ ap (λ (ds : List ComponentValue). c ∷ ds) (every_component choice e (next_number number c) cs)

no_owner : (choice : Choice) → is_everything choice ≡ true → (c : CertificateValue) → owner choice c ≡ None
no_owner choice e c = rw (none_own choice e) refl

each_whole : (cs : List ComponentValue) → map (chosen_component None) cs ≡ cs
each_whole [] = refl
each_whole (c ∷ cs) = ap (λ (ds : List ComponentValue). c ∷ ds) (each_whole cs)

whole_certificate : (choice : Choice) → is_everything choice ≡ true → (c : CertificateValue) → chosen_certificate choice c ≡ c
whole_certificate choice e c =
    ap (λ (own : Option Fingerprint). record { primary = c.primary; hangs = own_hangs own c.hangs; components = map (chosen_component own) (components_from 0 choice c.components) }) (no_owner choice e c)
    ∙ ap (λ (ds : List ComponentValue). record { primary = c.primary; hangs = c.hangs; components = map (chosen_component None) ds }) (every_component choice e 0 c.components)
    ∙ ap (λ (ds : List ComponentValue). record { primary = c.primary; hangs = c.hangs; components = ds }) (each_whole c.components)

every_certificate : (choice : Choice) → is_everything choice ≡ true → (cs : List CertificateValue) → map (chosen_certificate choice) cs ≡ cs
every_certificate choice e [] = refl
every_certificate choice e (c ∷ cs) =
    ap (λ (d : CertificateValue). d ∷ map (chosen_certificate choice) cs) (whole_certificate choice e c)
    ∙ ap (λ (ds : List CertificateValue). c ∷ ds) (every_certificate choice e cs)

pub all_stays : (choice : Choice) (r : KeyringValue) → is_everything choice ≡ true → chosen_keyring choice r ≡ r
all_stays choice r e = ap (λ (cs : List CertificateValue). record { lead = r.lead; certificates = cs }) (every_certificate choice e r.certificates)

-- ---- user IDs
or_false : (b : Bool) → (b || false) ≡ b
or_false true = refl
or_false false = refl

user_stays : (choice : Choice) (m number : ℕ) (c : ComponentValue) → is_user_id c ≡ true → choice.user_ids.now ≡ m ∷ [] → component_stays choice number c ≡ (m == number)
user_stays choice m number c is e = rw (is, e) (or_false (m == number))

next_user : (number : ℕ) (c : ComponentValue) → is_user_id c ≡ true → next_number number c ≡ number + 1
next_user number c is = rw is refl

next_other : (number : ℕ) (c : ComponentValue) → is_user_id c ≡ false → next_number number c ≡ number
next_other number c is = rw is refl

abbrev if_any : Bool → ComponentValue → List ComponentValue
if_any b c = if b then c ∷ [] else []

no_user : (b : Bool) (c : ComponentValue) → is_user_id c ≡ false → filter is_user_id (if_any b c) ≡ []
no_user true c is = rw is refl
no_user false c is = refl

users_apart : (choice : Choice) (number next : ℕ) (stays : Bool) (c : ComponentValue) (cs : List ComponentValue) → component_stays choice number c ≡ stays → next_number number c ≡ next
    → filter is_user_id (components_from number choice (c ∷ cs)) ≡ filter is_user_id (if_any stays c) ++ filter is_user_id (components_from next choice cs)
users_apart choice number next stays c cs e d =
    filter-append is_user_id (if_any (component_stays choice number c) c) (components_from (next_number number c) choice cs)
    ∙ ap (λ (b : Bool). filter is_user_id (if_any b c) ++ filter is_user_id (components_from (next_number number c) choice cs)) e
    ∙ ap (λ (n : ℕ). filter is_user_id (if_any stays c) ++ filter is_user_id (components_from n choice cs)) d

other_apart : (choice : Choice) (number : ℕ) (c : ComponentValue) (cs : List ComponentValue) → is_user_id c ≡ false
    → filter is_user_id (components_from number choice (c ∷ cs)) ≡ filter is_user_id (components_from number choice cs)
other_apart choice number c cs is =
    users_apart choice number number (component_stays choice number c) c cs refl (next_other number c is)
    ∙ ap (λ (l : List ComponentValue). l ++ filter is_user_id (components_from number choice cs)) (no_user (component_stays choice number c) c is)

-- none that comes after it
past_step : (choice : Choice) (m number : ℕ) (c : ComponentValue) (cs : List ComponentValue) → choice.user_ids.now ≡ m ∷ [] → m < number → ((n : ℕ) → m < n → filter is_user_id (components_from n choice cs) ≡ [])
    → (b : Bool) → is_user_id c ≡ b → filter is_user_id (components_from number choice (c ∷ cs)) ≡ []
past_step choice m number c cs e h rest true is = users_apart choice number (number + 1) false c cs (user_stays choice m number c is e ∙ ne_eqb m number (λ d. absurd (omega (arith, d, h)))) (next_user number c is) ∙ rest (number + 1) (omega arith)
past_step choice m number c cs e h rest false is = other_apart choice number c cs is ∙ rest number h

past : (choice : Choice) (m number : ℕ) (cs : List ComponentValue) → choice.user_ids.now ≡ m ∷ [] → m < number → filter is_user_id (components_from number choice cs) ≡ []
past choice m number [] e h = refl
past choice m number (c ∷ cs) e h = past_step choice m number c cs e h (λ n. past choice m n cs e) (is_user_id c) refl

-- so many are before it
ahead_step : (choice : Choice) (m number : ℕ) (c : ComponentValue) (cs : List ComponentValue) → choice.user_ids.now ≡ m ∷ []
    → ((j n : ℕ) → n + j ≡ m → filter is_user_id (components_from n choice cs) ≡ option_to_list (slice_get (filter is_user_id cs) j))
    → (j : ℕ) (b : Bool) → number + j ≡ m → is_user_id c ≡ b → filter is_user_id (components_from number choice (c ∷ cs)) ≡ option_to_list (slice_get (filter is_user_id (c ∷ cs)) j)
ahead_step choice m number c cs e rest zero true d is =
    users_apart choice number (number + 1) true c cs (user_stays choice m number c is e ∙ eq-eqb m number (omega (arith, d))) (next_user number c is)
    ∙ ap (λ (l : List ComponentValue). filter is_user_id (c ∷ []) ++ l) (past choice m (number + 1) cs e (omega (arith, d))) ∙ rw is refl
ahead_step choice m number c cs e rest (suc j) true d is =
    users_apart choice number (number + 1) false c cs (user_stays choice m number c is e ∙ ne_eqb m number (λ x. absurd (omega (arith, x, d)))) (next_user number c is)
    ∙ rest j (number + 1) (omega (arith, d)) ∙ rw is refl
ahead_step choice m number c cs e rest j false d is = other_apart choice number c cs is ∙ rest j number d ∙ rw is refl

ahead : (choice : Choice) (m k number : ℕ) (cs : List ComponentValue) → choice.user_ids.now ≡ m ∷ [] → number + k ≡ m → filter is_user_id (components_from number choice cs) ≡ option_to_list (slice_get (filter is_user_id cs) k)
ahead choice m k number [] e h = refl
ahead choice m k number (c ∷ cs) e h = ahead_step choice m number c cs e (λ j n. ahead choice m j n cs e) k (is_user_id c) h refl

pub one_stays : (choice : Choice) (n : ℕ) (cs : List ComponentValue) → choice.user_ids.now ≡ n ∷ [] → filter is_user_id (components_from 0 choice cs) ≡ option_to_list (slice_get (filter is_user_id cs) n)
one_stays choice n cs e = ahead choice n n 0 cs e (omega arith)

-- those of the chosen numbers
abbrev numbered : Choice → ℕ → List ComponentValue → List ComponentValue
numbered choice number users = map (λ p. p.1) (filter (λ p. is_chosen choice.user_ids.now p.0) (enumerate_from number users))

user_here : (choice : Choice) (number : ℕ) (c : ComponentValue) → is_user_id c ≡ true → component_stays choice number c ≡ is_chosen choice.user_ids.now number
user_here choice number c is = rw is refl

one_more : (choice : Choice) (number : ℕ) (c : ComponentValue) (users : List ComponentValue) (b : Bool) → is_user_id c ≡ true → is_chosen choice.user_ids.now number ≡ b
    → filter is_user_id (if_any b c) ++ numbered choice (number + 1) users ≡ numbered choice number (c ∷ users)
one_more choice number c users true is chosen = rw (is, chosen) refl
one_more choice number c users false is chosen = rw chosen refl

chosen_step : (choice : Choice) (number : ℕ) (c : ComponentValue) (cs : List ComponentValue) → ((n : ℕ) → filter is_user_id (components_from n choice cs) ≡ numbered choice n (filter is_user_id cs))
    → (b : Bool) → is_user_id c ≡ b → filter is_user_id (components_from number choice (c ∷ cs)) ≡ numbered choice number (filter is_user_id (c ∷ cs))
chosen_step choice number c cs rest true is =
    users_apart choice number (number + 1) (is_chosen choice.user_ids.now number) c cs (user_here choice number c is) (next_user number c is)
    ∙ ap (λ (l : List ComponentValue). filter is_user_id (if_any (is_chosen choice.user_ids.now number) c) ++ l) (rest (number + 1))
    ∙ one_more choice number c (filter is_user_id cs) (is_chosen choice.user_ids.now number) is refl ∙ rw is refl
chosen_step choice number c cs rest false is = other_apart choice number c cs is ∙ rest number ∙ rw is refl

chosen_from : (choice : Choice) (number : ℕ) (cs : List ComponentValue) → filter is_user_id (components_from number choice cs) ≡ numbered choice number (filter is_user_id cs)
chosen_from choice number [] = refl
chosen_from choice number (c ∷ cs) = chosen_step choice number c cs (λ n. chosen_from choice n cs) (is_user_id c) refl

pub chosen_stay : (choice : Choice) (cs : List ComponentValue) → filter is_user_id (components_from 0 choice cs) ≡ map (λ p. p.1) (filter (λ p. is_chosen choice.user_ids.now p.0) (enumerate_from 0 (filter is_user_id cs)))
chosen_stay choice cs = chosen_from choice 0 cs

-- ---- other components
abbrev is_other : ComponentValue → Bool
is_other c = not (is_user_id c)

abbrev is_kept : Choice → ComponentValue → Bool
is_kept choice c = not (is_user_id c) && not (choice.no_attributes && is_attribute c)

others_from : (choice : Choice) (number : ℕ) (cs : List ComponentValue) → filter is_other (components_from number choice cs) ≡ filter (is_kept choice) cs
others_from choice number [] = refl
others_from choice number (c ∷ cs) =
    filter-append is_other (if_any (component_stays choice number c) c) (components_from (next_number number c) choice cs)
    ∙ ap (λ (l : List ComponentValue). filter is_other (if_any (component_stays choice number c) c) ++ l) (others_from choice (next_number number c) cs) ∙ go (is_user_id c) refl
  where
    none : (b : Bool) → is_user_id c ≡ true → filter is_other (if_any b c) ≡ []
    none true is = rw is refl
    none false is = refl

    some : (b : Bool) (l : List ComponentValue) → is_user_id c ≡ false → filter is_other (if_any b c) ++ l ≡ (if b then c ∷ l else l)
    some true l is = rw is refl
    some false l is = refl

    go : (b : Bool) → is_user_id c ≡ b → filter is_other (if_any (component_stays choice number c) c) ++ filter (is_kept choice) cs ≡ filter (is_kept choice) (c ∷ cs)
    go true is = ap (λ (l : List ComponentValue). l ++ filter (is_kept choice) cs) (none (component_stays choice number c) is) ∙ rw is refl
    go false is = some (component_stays choice number c) (filter (is_kept choice) cs) is ∙ rw is refl

pub others_stay : (choice : Choice) (cs : List ComponentValue) → filter (λ c. not (is_user_id c)) (components_from 0 choice cs) ≡ filter (λ c. not (is_user_id c) && not (choice.no_attributes && is_attribute c)) cs
others_stay choice cs = others_from choice 0 cs
