-- What a packet says, by what it is there for.
use Rattle.std.proofs.Common.{◌≡◌, ◌∙◌, ◌+◌, ◌++◌, ℕ, Bool, true, false, ◌&&◌, ◌||◌, List, [], ◌∷◌, map, Option, Some, None, Result, Ok, Err, is_ok, is_some, refl, sym, ap, if◌then◌else◌, All, true≢false, append-nil}
use Rattle.std.specs.List.{flat_map}
use Rattle.std.proofs.lemmas.Bool.{and_from, false≢true}
use Rattle.std.proofs.lemmas.Grind.{flat_map-append}
use Rattle.std.proofs.lemmas.List.{map-append}
use Rattle.std.proofs.lemmas.List.Elements.{All-cons, All-head, All-map, All-nil, All-tail}
use Rattle.opgp_octets.specs.declared.fault.BodyFault.{BodyFault}
use Rattle.opgp_octets.specs.declared.signature_type.SignatureType.{SignatureType}
use Rattle.opgp_octets.specs.declared.signature_type.SignatureType.TheVariants as types
use Rattle.opgp_frame.specs.Packet.{PacketValue}
use Rattle.opgp_packet.specs.Areas.{hashed_subs}
use Rattle.opgp_packet.specs.SignatureBody.{SignatureValue, of_four, of_other, of_six, of_three, signature_at}
use Rattle.opgp_hash.specs.Asking.{ask_at_of}
use Rattle.opgp_hash.specs.SignedValue.{signed_of}
use Rattle.opgp_hash.specs.SubjectValue.{SubjectValue, first_key, one}
use Rattle.opgp_hash.specs.declared.fingerprints.Fingerprint.{Fingerprint}
use Rattle.opgp_hash.specs.declared.fingerprints.Fingerprint.TheVariants.{Four}
use Rattle.opgp_hash.specs.declared.site.Site.TheVariants.{Embedded, Hung}
use Rattle.opgp_keyring.specs.Keyring.{CertificateValue, ComponentValue}
use Rattle.opgp_report.specs.Named.{named_of}
use Rattle.opgp_report.specs.Standing.{Standing, bodies_within, by_number, certificate_standing, component_standing, hang_standing, hangs_standing, hung_at, is_signature, nested_at, nested_standing, on_head, signature_standing, stands}
use Rattle.opgp_report.specs.declared.place.Place.{Place}
use Rattle.opgp_report.specs.declared.verifier.Verdict.{Verdict}
use Rattle.opgp_valid.specs.Group.{binds, certifies, is_direct, is_primary, is_the}
use Rattle.opgp_valid.specs.KnownKeys.{issuer_among}
use Rattle.opgp_valid.specs.Told.{author_of, back_in, change_last, is_asked_alone, is_good_verdict, is_print, is_print_among, is_right, issuer, lives_in, named_by, names_revokers, revokers_at, revokers_by, revokes_key, second_key, stated_by, statement_of, type_in}
use Rattle.opgp_valid.specs.Subpackets.{revokers_in}
use Rattle.opgp_valid.specs.declared.known_keys.Known.{Known}
use Rattle.opgp_valid.specs.declared.policy.Policy.{Policy}
use Rattle.opgp_valid.specs.declared.statement.Author.{Author}
use Rattle.opgp_valid.specs.declared.statement.Author.TheVariants as author
use Rattle.opgp_valid.specs.declared.statement.Life.{Life}
use Rattle.opgp_valid.specs.declared.statement.Statement.{Statement}
use Rattle.opgp_merge.specs.Chosen.{is_name_of}
use Rattle.opgp_bound.specs.Bound.{is_genuine, revokes, role_stays}
use Rattle.opgp_bound.specs.Copies.{Deciding, decided}
use Rattle.opgp_bound.specs.Role.{is_own_and_good, is_self_type, kind_in, role_by, role_read, role_typed}
use Rattle.opgp_bound.specs.declared.role.Role.{Role}
use Rattle.opgp_bound.specs.declared.role.Role.TheVariants.{KeyRevocation, Other, SelfSignature}
use Rattle.opgp_bound.proofs.Decided.{role_on}
use Rattle.opgp_bound.proofs.Naming.{genuine_is}
use Rattle.opgp_bound.proofs.Placed.{in_parts, numbered, said, said_of, said_one, set_back, start, with_all, with_one}

-- ---- lists
pub all_of : {X : Type 0} (P : X → Type 0) → ((x : X) → P x) → (xs : List X) → All P xs
all_of P h [] = All-nil P
all_of P h (x ∷ xs) = All-cons P x xs (h x) (all_of P h xs)

changed_all : {X : Type 0} (P : X → Type 0) (f : X → X) → ((x : X) → P x → P (f x)) → (xs : List X) → All P xs → All P (change_last f xs)
changed_all P f same [] h = h
changed_all P f same (x ∷ []) h = All-cons P (f x) [] (same x (All-head P x [] h)) (All-nil P)
changed_all P f same (x ∷ y ∷ xs) h = All-cons P x (change_last f (y ∷ xs)) (All-head P x (y ∷ xs) h) (changed_all P f same (y ∷ xs) (All-tail P x (y ∷ xs) h))

-- ---- roles
-- a type that certifies or binds revokes no key
pub self_revokes_not : (t : SignatureType) → is_self_type t ≡ true → revokes_key t ≡ false
self_revokes_not types.KeyRevocation e = absurd (false≢true e)
self_revokes_not other e = refl

pub revokes_not_self : (t : SignatureType) → revokes_key t ≡ true → is_self_type t ≡ false
revokes_not_self types.KeyRevocation e = refl
revokes_not_self other e = absurd (false≢true e)

revokes_names_none : (t : SignatureType) → revokes_key t ≡ true → names_revokers t ≡ false
revokes_names_none types.KeyRevocation e = refl
revokes_names_none other e = absurd (false≢true e)

namers_are_self : (direct certifies binds : Bool) → (direct || certifies) ≡ true → (certifies || (binds || direct)) ≡ true
namers_are_self direct true binds e = refl
namers_are_self true false true e = refl
namers_are_self true false false e = refl
namers_are_self false false binds e = absurd (false≢true e)

pub goes_not_genuine : (r : Role) → role_stays r ≡ false → is_genuine r ≡ false
goes_not_genuine (SelfSignature genuine) e = e
goes_not_genuine KeyRevocation e = absurd (true≢false e)
goes_not_genuine Other e = absurd (true≢false e)

abbrev choice : Bool → Bool → Bool → Role
choice own genuine revoking = if own then SelfSignature genuine else (if revoking then KeyRevocation else Other)

goes_is_self : (self named genuine revoking : Bool) → role_stays (choice (self && named) genuine revoking) ≡ false → self ≡ true
goes_is_self true named genuine revoking e = refl
goes_is_self false named genuine true e = absurd (true≢false e)
goes_is_self false named genuine false e = absurd (true≢false e)

pub revokes_is : (own genuine revoking : Bool) → revokes (choice own genuine revoking) ≡ true → revoking ≡ true
revokes_is true genuine revoking e = absurd (false≢true e)
revokes_is false genuine true e = refl
revokes_is false genuine false e = absurd (false≢true e)

is_revokes : (self named genuine revoking : Bool) → (revoking ≡ true → self ≡ false) → revokes (choice (self && named) genuine revoking) ≡ false → revoking ≡ false
is_revokes self named genuine false f e = refl
is_revokes true named genuine true f e = absurd (true≢false (f refl))
is_revokes false named genuine true f e = absurd (true≢false e)

-- ---- authors
abbrev is_primary_in : Option Author → Bool
is_primary_in None = false
is_primary_in (Some by) = is_primary by

own_author : (own other : Bool) → is_primary_in (if own then Some author.Primary else (if other then Some author.Revoker else None)) ≡ true → own ≡ true
own_author true other e = refl
own_author false true e = absurd (false≢true e)
own_author false false e = absurd (false≢true e)

-- what isn't a key revocation is hashed where it hangs
asked_there : (good asked revoking alone : Bool) → revoking ≡ false → (good && (asked || ((true && revoking) && alone))) ≡ true → (good ≡ true) × (asked ≡ true)
asked_there true true revoking alone e h = (refl, refl)
asked_there true false true alone e h = absurd (true≢false e)
asked_there true false false alone e h = absurd (false≢true h)
asked_there false asked revoking alone e h = absurd (false≢true h)

module _ (known : List Known) (policy : Policy) (print : Fingerprint) (revokers : List Fingerprint) (v : Deciding) where
  -- a statement of this type and author is one of the signature's on a subject
  pub record IsOf (subject : SubjectValue) (found : Verdict) (w : SignatureValue) (kind : SignatureType) (by : Author) : Type 0 where
    pub kind_is : kind ≡ type_in w
    pub signed : is_some (signed_of w) ≡ true
    pub right : is_right Hung start subject found w ≡ true
    pub by_is : author_of known policy print revokers (issuer_among known w) ≡ Some by

  abbrev IsRead : SubjectValue → Verdict → Result SignatureValue BodyFault → Statement → Type 0
  IsRead subject found r s = (w : SignatureValue) × (r ≡ Ok w) × IsOf subject found w s.kind s.author

  one_is : (subject : SubjectValue) (found : Verdict) (r : Result SignatureValue BodyFault) → All (IsRead subject found r) (said_one known policy print revokers v subject found r)
  one_is subject found (Err fault) = All-nil (IsRead subject found (Err fault))
  one_is subject found (Ok w) = go (is_right Hung start subject found w) refl where
    P : Statement → Type 0
    P = IsRead subject found (Ok w)

    who : Option Author
    who = author_of known policy print revokers (issuer known policy print w)

    by_one : is_right Hung start subject found w ≡ true → is_some (signed_of w) ≡ true → (o : Option Author) → who ≡ o → All (IsRead subject found (Ok w)) (stated_by known policy print revokers start subject w o)
    by_one e f None g = All-nil (IsRead subject found (Ok w))
    by_one e f (Some by) g =
        All-map (IsRead subject found (Ok w)) (statement_of known policy print revokers start subject w by) (lives_in w)
        (all_of (λ life. IsRead subject found (Ok w) (statement_of known policy print revokers start subject w by life))
        (λ life. (w, refl, record { kind_is = refl; signed = f; right = e; by_is = g })) (lives_in w))

    stated_one : is_right Hung start subject found w ≡ true → (t : Bool) → is_some (signed_of w) ≡ t
        → All (IsRead subject found (Ok w)) (if t then stated_by known policy print revokers start subject w who else [])
    stated_one e true f = by_one e f who refl
    stated_one e false f = All-nil (IsRead subject found (Ok w))

    go : (t : Bool) → is_right Hung start subject found w ≡ t
        → All (IsRead subject found (Ok w)) (if t then (if is_some (signed_of w) then stated_by known policy print revokers start subject w who else []) else [])
    go true e = stated_one e (is_some (signed_of w)) refl
    go false e = All-nil (IsRead subject found (Ok w))

  with_is : (P : Statement → Type 0) → ((life : Option Life) (s : Statement) → P s → P (set_back life s)) → (subject : SubjectValue) (n : ℕ) (found : Verdict) (r : Result SignatureValue BodyFault) (ss : List Statement)
      → All P ss → All P (with_one known policy print revokers v subject n found r ss)
  with_is P same subject n found (Err fault) ss h = h
  with_is P same subject n found (Ok w) ss h = go (is_right Embedded (nested_at start n) subject found w) (is_the 0 (Some n)) where
    life : Option Life
    life = back_in known policy print (second_key subject) w

    go : (t u : Bool) → All P (if t then (if u then change_last (set_back life) ss else ss) else ss)
    go true true = changed_all P (set_back life) (same life) ss h
    go true false = h
    go false u = h

  all_is : (P : Statement → Type 0) → ((life : Option Life) (s : Statement) → P s → P (set_back life s)) → (subject : SubjectValue) (n : ℕ) (bodies : List (List ℕ)) (ss : List Statement)
      → All P ss → All P (with_all known policy print revokers v subject n bodies ss)
  all_is P same subject n [] ss h = h
  all_is P same subject n (body ∷ bodies) ss h =
      all_is P same subject (n + 1) bodies (with_one known policy print revokers v subject n (v Embedded subject body) (signature_at body) ss)
      (with_is P same subject n (v Embedded subject body) (signature_at body) ss h)

  -- a statement of this type and author is one of a packet's on a subject
  pub record IsIn (subject : SubjectValue) (p : PacketValue) (kind : SignatureType) (by : Author) : Type 0 where
    pub signature : SignatureValue
    pub signs : is_signature p ≡ true
    pub read : signature_at p.body ≡ Ok signature
    pub of : IsOf subject (v Hung subject p.body) signature kind by

  pub said_is : (subject : SubjectValue) (p : PacketValue) → All (λ (s : Statement). IsIn subject p s.kind s.author) (said_of known policy print revokers v subject p)
  said_is subject p = go (is_signature p) refl where
    go : (t : Bool) → is_signature p ≡ t → All (λ (s : Statement). IsIn subject p s.kind s.author) (if t then said known policy print revokers v subject p.body else [])
    go true e =
        all_is (λ (s : Statement). IsIn subject p s.kind s.author) (λ life s h. h) subject 0 (bodies_within subject (signature_at p.body)) (said_one known policy print revokers v subject (v Hung subject p.body) (signature_at p.body))
        (weaker (said_one known policy print revokers v subject (v Hung subject p.body) (signature_at p.body)) (one_is subject (v Hung subject p.body) (signature_at p.body))) where
          weaker : (ss : List Statement) → All (IsRead subject (v Hung subject p.body) (signature_at p.body)) ss → All (λ (s : Statement). IsIn subject p s.kind s.author) ss
          weaker [] h = All-nil (λ (s : Statement). IsIn subject p s.kind s.author)
          weaker (s ∷ ss) h =
              let P : Statement → Type 0 = IsRead subject (v Hung subject p.body) (signature_at p.body) in
              let x : IsRead subject (v Hung subject p.body) (signature_at p.body) s = All-head P s ss h in
              All-cons (λ (r : Statement). IsIn subject p r.kind r.author) s ss (record { signature = x.0; signs = e; read = x.1; of = x.2 }) (weaker ss (All-tail P s ss h))
    go false e = All-nil (λ (s : Statement). IsIn subject p s.kind s.author)

  -- ---- by the role of the packet
  pub typed_is : (subject : SubjectValue) (found : Verdict) (w : SignatureValue) → is_some (signed_of w) ≡ true → role_typed known print subject found w (kind_in w) ≡ role_by known print subject found w (type_in w)
  typed_is subject found (of_three fields) e = absurd (false≢true e)
  typed_is subject found (of_four fields) e = refl
  typed_is subject found (of_six fields) e = refl
  typed_is subject found (of_other octets) e = absurd (false≢true e)

  -- on any subject
  role_is : (subject other : SubjectValue) (p : PacketValue) (kind : SignatureType) (by : Author) → (h : IsIn subject p kind by)
      → role_on known print v other p ≡ role_by known print other (v Hung other p.body) h.signature kind
  role_is subject other p kind by h =
      let found : Verdict = v Hung other p.body in
      ap (λ (t : Bool). if t then role_read known print other found (signature_at p.body) else Other) h.signs
      ∙ ap (role_read known print other found) h.read
      ∙ typed_is other found h.signature h.of.signed
      ∙ ap (role_by known print other found h.signature) (sym h.of.kind_is)

  module _ (subject other : SubjectValue) (p : PacketValue) (kind : SignatureType) (by : Author) (h : IsIn subject p kind by) where
    abbrev named : Bool
    named = is_name_of (named_of h.signature) print

    abbrev own : Bool
    own = is_own_and_good known print other (v Hung other p.body) h.signature

    -- what goes is of a type that certifies or binds
    pub going_is_self : role_stays (role_on known print v other p) ≡ false → is_self_type kind ≡ true
    going_is_self e = goes_is_self (is_self_type kind) named own (revokes_key kind) (ap role_stays (sym (role_is subject other p kind by h)) ∙ e)

    pub revoking_revokes : revokes (role_on known print v other p) ≡ true → revokes_key kind ≡ true
    revoking_revokes e = revokes_is (is_self_type kind && named) own (revokes_key kind) (ap revokes (sym (role_is subject other p kind by h)) ∙ e)

    pub other_revokes_not : revokes (role_on known print v other p) ≡ false → revokes_key kind ≡ false
    other_revokes_not e = is_revokes (is_self_type kind) named own (revokes_key kind) (revokes_not_self kind) (ap revokes (sym (role_is subject other p kind by h)) ∙ e)

  -- what isn't genuine certifies and binds nothing by the primary key
  pub not_by_primary : (subject : SubjectValue) (p : PacketValue) (kind : SignatureType) (by : Author) → IsIn subject p kind by
      → is_genuine (role_on known print v subject p) ≡ false → is_self_type kind ≡ true → is_primary by ≡ false
  not_by_primary subject p kind author.Revoker h e f = refl
  not_by_primary subject p kind author.Primary h e f =
      let found : Verdict = v Hung subject p.body in
      let w : SignatureValue = h.signature in
      let by_own : is_print print (issuer_among known w) ≡ true = own_author (is_print print (issuer_among known w)) (is_print_among revokers (issuer_among known w)) (ap is_primary_in h.of.by_is) in
      let revokes_none : revokes_key (type_in w) ≡ false = ap revokes_key (sym h.of.kind_is) ∙ self_revokes_not kind f in
      let asked = asked_there (is_good_verdict found) (is_ok (ask_at_of Hung w subject)) (revokes_key (type_in w)) (is_asked_alone (first_key subject) w) revokes_none h.of.right in
      let good : is_own_and_good known print subject found w ≡ true =
      and_from (is_good_verdict found) (is_ok (ask_at_of Hung w subject) && is_print print (issuer_among known w)) asked.0 (and_from (is_ok (ask_at_of Hung w subject)) (is_print print (issuer_among known w)) asked.1 by_own) in
      absurd (true≢false (sym good ∙ sym (genuine_is known print subject found w kind f) ∙ ap is_genuine (sym (role_is subject subject p kind author.Primary h)) ∙ e))

-- ---- who may revoke
-- of nothing and nothing
nothing : {X : Type 0} (none : List X) (t : Bool) → (if t then none else none) ≡ none
nothing none true = refl
nothing none false = refl

module _ (known : List Known) (print : Fingerprint) (v : Deciding) where
  -- the fingerprints that a packet on a subject names
  abbrev pub names_read : SubjectValue → Verdict → Result SignatureValue BodyFault → List Fingerprint
  names_read subject found (Err fault) = []
  names_read subject found (Ok w) = if is_right Hung start subject found w then named_by known print w else []

  abbrev pub names_of : SubjectValue → PacketValue → List Fingerprint
  names_of subject p = if is_signature p then names_read subject (v Hung subject p.body) (signature_at p.body) else []

  -- a signature of a type that doesn't name any, or by another key
  unnamed : (subject : SubjectValue) (found : Verdict) (w : SignatureValue) → (is_right Hung start subject found w ≡ true → names_revokers (type_in w) ≡ true → is_print print (issuer_among known w) ≡ true → ⊥)
      → names_read subject found (Ok w) ≡ []
  unnamed subject found w h = go (is_right Hung start subject found w) refl (names_revokers (type_in w)) refl (is_print print (issuer_among known w)) refl where
    go : (a : Bool) → is_right Hung start subject found w ≡ a → (b : Bool) → names_revokers (type_in w) ≡ b → (c : Bool) → is_print print (issuer_among known w) ≡ c
        → (if a then (if b && c then map Four (revokers_in (hashed_subs w)) else []) else []) ≡ []
    go true e true f true g = absurd (h e f g)
    go true e true f false g = refl
    go true e false f c g = refl
    go false e b f c g = refl

  -- one that isn't genuine
  typed_unnamed : (subject : SubjectValue) (found : Verdict) (w : SignatureValue) → is_genuine (role_by known print subject found w (type_in w)) ≡ false → names_read subject found (Ok w) ≡ []
  typed_unnamed subject found w e = unnamed subject found w contradiction where
    contradiction : is_right Hung start subject found w ≡ true → names_revokers (type_in w) ≡ true → is_print print (issuer_among known w) ≡ true → ⊥
    contradiction right names own =
        let t : SignatureType = type_in w in
        let self : is_self_type t ≡ true = namers_are_self (is_direct t) (certifies t) (binds t) names in
        let asked = asked_there (is_good_verdict found) (is_ok (ask_at_of Hung w subject)) (revokes_key t) (is_asked_alone (first_key subject) w) (self_revokes_not t self) right in
        let good : is_own_and_good known print subject found w ≡ true =
        and_from (is_good_verdict found) (is_ok (ask_at_of Hung w subject) && is_print print (issuer_among known w)) asked.0 (and_from (is_ok (ask_at_of Hung w subject)) (is_print print (issuer_among known w)) asked.1 own) in
        true≢false (sym good ∙ sym (genuine_is known print subject found w t self) ∙ e)

  read_unnamed : (subject : SubjectValue) (found : Verdict) (r : Result SignatureValue BodyFault) → is_genuine (role_read known print subject found r) ≡ false → names_read subject found r ≡ []
  read_unnamed subject found (Err fault) e = refl
  read_unnamed subject found (Ok (of_three fields)) e = nothing [] (is_right Hung start subject found (of_three fields))
  read_unnamed subject found (Ok (of_four fields)) e = typed_unnamed subject found (of_four fields) e
  read_unnamed subject found (Ok (of_six fields)) e = typed_unnamed subject found (of_six fields) e
  read_unnamed subject found (Ok (of_other octets)) e = nothing [] (is_right Hung start subject found (of_other octets))

  pub not_genuine_unnamed : (subject : SubjectValue) (p : PacketValue) → is_genuine (role_on known print v subject p) ≡ false → names_of subject p ≡ []
  not_genuine_unnamed subject p = go (is_signature p) where
    found : Verdict
    found = v Hung subject p.body

    go : (t : Bool) → is_genuine (if t then role_read known print subject found (signature_at p.body) else Other) ≡ false → (if t then names_read subject found (signature_at p.body) else []) ≡ []
    go true e = read_unnamed subject found (signature_at p.body) e
    go false e = refl

  -- a key revocation, on whatever subject
  typed_revokes : (subject other : SubjectValue) (found verdict : Verdict) (w : SignatureValue) → revokes (role_by known print subject found w (type_in w)) ≡ true → names_read other verdict (Ok w) ≡ []
  typed_revokes subject other found verdict w e = unnamed other verdict w contradiction where
    contradiction : is_right Hung start other verdict w ≡ true → names_revokers (type_in w) ≡ true → is_print print (issuer_among known w) ≡ true → ⊥
    contradiction right names owned =
        let t : SignatureType = type_in w in
        true≢false (sym names ∙ revokes_names_none t (revokes_is (is_self_type t && is_name_of (named_of w) print) (is_own_and_good known print subject found w) (revokes_key t) e))

  read_revokes : (subject other : SubjectValue) (found verdict : Verdict) (r : Result SignatureValue BodyFault) → revokes (role_read known print subject found r) ≡ true → names_read other verdict r ≡ []
  read_revokes subject other found verdict (Err fault) e = refl
  read_revokes subject other found verdict (Ok (of_three fields)) e = nothing [] (is_right Hung start other verdict (of_three fields))
  read_revokes subject other found verdict (Ok (of_four fields)) e = typed_revokes subject other found verdict (of_four fields) e
  read_revokes subject other found verdict (Ok (of_six fields)) e = typed_revokes subject other found verdict (of_six fields) e
  read_revokes subject other found verdict (Ok (of_other octets)) e = nothing [] (is_right Hung start other verdict (of_other octets))

  pub revoking_unnamed : (subject other : SubjectValue) (p : PacketValue) → revokes (role_on known print v subject p) ≡ true → names_of other p ≡ []
  revoking_unnamed subject other p = go (is_signature p) where
    found : Verdict
    found = v Hung subject p.body

    verdict : Verdict
    verdict = v Hung other p.body

    go : (t : Bool) → revokes (if t then role_read known print subject found (signature_at p.body) else Other) ≡ true → (if t then names_read other verdict (signature_at p.body) else []) ≡ []
    go true e = read_revokes subject other found verdict (signature_at p.body) e
    go false e = refl

  -- ---- all that a certificate names
  -- what is embedded names none
  none_embedded : (place : Place) (subject : SubjectValue) (n : ℕ) (bodies : List (List ℕ)) → flat_map (revokers_at known print) (map (λ s. (s, decided v s)) (by_number (nested_standing place subject) n bodies)) ≡ []
  none_embedded place subject n [] = refl
  none_embedded place subject n (body ∷ bodies) =
      ap (λ (l : List Fingerprint). l ++ flat_map (revokers_at known print) (map (λ s. (s, decided v s)) (by_number (nested_standing place subject) (n + 1) bodies)))
      (none_by (stands Embedded (nested_at place n) subject body) (v Embedded subject body) (signature_at body)) ∙ none_embedded place subject (n + 1) bodies where
        none_by : (s : Standing) (found : Verdict) (r : Result SignatureValue BodyFault) → revokers_by known print (stands Embedded (nested_at place n) subject body) found r ≡ []
        none_by s found (Err fault) = refl
        none_by s found (Ok w) = refl

  abbrev rows_by : List Standing → List (Standing × Verdict)
  rows_by ss = map (λ s. (s, decided v s)) ss

  abbrev named_in : List Standing → List Fingerprint
  named_in ss = flat_map (revokers_at known print) (rows_by ss)

  named_append : (a b : List Standing) → named_in (a ++ b) ≡ named_in a ++ named_in b
  named_append a b = ap (flat_map (revokers_at known print)) (map-append (λ s. (s, decided v s)) a b) ∙ flat_map-append (revokers_at known print) (rows_by a) (rows_by b)

  module _ (o : Option ℕ) (subject : SubjectValue) where
    hang_names : (n : ℕ) (p : PacketValue) → named_in (hang_standing 0 o subject n p) ≡ names_of subject p
    hang_names n p = go (is_signature p) where
      outer : (r : Result SignatureValue BodyFault) → revokers_by known print (stands Hung (hung_at 0 o n) subject p.body) (v Hung subject p.body) r ≡ names_read subject (v Hung subject p.body) r
      outer (Err fault) = refl
      outer (Ok w) = refl

      go : (t : Bool) → named_in (if t then signature_standing (hung_at 0 o n) subject p.body else []) ≡ (if t then names_read subject (v Hung subject p.body) (signature_at p.body) else [])
      go true =
          ap (λ (l : List Fingerprint). revokers_by known print (stands Hung (hung_at 0 o n) subject p.body) (v Hung subject p.body) (signature_at p.body) ++ l) (none_embedded (hung_at 0 o n) subject 0 (bodies_within subject (signature_at p.body)))
          ∙ append-nil (revokers_by known print (stands Hung (hung_at 0 o n) subject p.body) (v Hung subject p.body) (signature_at p.body))
          ∙ outer (signature_at p.body)
      go false = refl

    hangs_name : (n : ℕ) (ps : List PacketValue) → named_in (by_number (hang_standing 0 o subject) n ps) ≡ flat_map (names_of subject) ps
    hangs_name n [] = refl
    hangs_name n (p ∷ ps) =
        named_append (hang_standing 0 o subject n p) (by_number (hang_standing 0 o subject) (n + 1) ps)
        ∙ ap (λ (l : List Fingerprint). l ++ named_in (by_number (hang_standing 0 o subject) (n + 1) ps)) (hang_names n p)
        ∙ ap (λ (l : List Fingerprint). names_of subject p ++ l) (hangs_name (n + 1) ps)

  abbrev pub names_on : Option ℕ → SubjectValue → PacketValue → List Fingerprint
  names_on o subject p = names_of subject p

  module _ (q : ℕ → ℕ) where
    components_name : (body : List ℕ) (n : ℕ) (ds : List ComponentValue) → named_in (by_number (component_standing body 0) n ds) ≡ numbered names_on q body n ds
    components_name body n [] = refl
    components_name body n (d ∷ ds) =
        named_append (component_standing body 0 n d) (by_number (component_standing body 0) (n + 1) ds)
        ∙ ap (λ (l : List Fingerprint). l ++ named_in (by_number (component_standing body 0) (n + 1) ds)) (hangs_name (Some n) (on_head body d.head) 0 d.hangs)
        ∙ ap (λ (l : List Fingerprint). flat_map (names_of (on_head body d.head)) d.hangs ++ l) (components_name body (n + 1) ds)

    pub names_in_parts : (c : CertificateValue) → flat_map (revokers_at known print) (map (λ s. (s, decided v s)) (certificate_standing 0 c)) ≡ in_parts names_on q c
    names_in_parts c =
        named_append (hangs_standing 0 None (one c.primary.body) c.hangs) (by_number (component_standing c.primary.body 0) 0 c.components)
        ∙ ap (λ (l : List Fingerprint). l ++ named_in (by_number (component_standing c.primary.body 0) 0 c.components)) (hangs_name None (one c.primary.body) 0 c.hangs)
        ∙ ap (λ (l : List Fingerprint). flat_map (names_of (one c.primary.body)) c.hangs ++ l) (components_name c.primary.body 0 c.components)
