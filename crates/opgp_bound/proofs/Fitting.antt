-- What tests find of what a certificate says, and of what is said by what is bound of it.
use Rattle.std.proofs.Common.{◌≡◌, ◌∙◌, ◌++◌, ◌==◌, ℕ, Bool, true, false, not, ◌&&◌, ◌||◌, List, [], ◌∷◌, map, Option, Some, None, refl, sym, ap, if◌then◌else◌, All, true≢false}
use Rattle.std.specs.List.{filter, flat_map, list_any}
use Rattle.std.proofs.lemmas.Bool.{and_left, and_right, eqb-true, false_from_ne_true, false≢true, or_parts}
use Rattle.std.proofs.lemmas.List.Elements.{All-head, All-tail, All-weaker}
use Rattle.std.proofs.lemmas.List.Folds.{flat_map-map}
use Rattle.opgp_octets.specs.declared.signature_type.SignatureType.{SignatureType}
use Rattle.opgp_octets.specs.declared.signature_type.SignatureType.TheVariants as types
use Rattle.opgp_frame.specs.Packet.{PacketValue}
use Rattle.opgp_hash.specs.SubjectValue.{SubjectValue, one}
use Rattle.opgp_hash.specs.declared.fingerprints.Fingerprint.{Fingerprint}
use Rattle.opgp_keyring.specs.Keyring.{CertificateValue}
use Rattle.opgp_report.specs.First.{print_of}
use Rattle.opgp_report.specs.Standing.{certificate_standing}
use Rattle.opgp_valid.specs.Group.{binds, certifies, is_certification_on, is_direct, is_primary, is_the}
use Rattle.opgp_valid.specs.State.{revokes_certification, revokes_identity, vouches}
use Rattle.opgp_valid.specs.Statement.{is_alive, is_good}
use Rattle.opgp_valid.specs.Told.{is_older, is_revoked_among, is_revoked_by, revokes_key, with_revocations, with_revoked}
use Rattle.opgp_valid.specs.declared.known_keys.Known.{Known}
use Rattle.opgp_valid.specs.declared.policy.Policy.{Policy}
use Rattle.opgp_valid.specs.declared.statement.Author.{Author}
use Rattle.opgp_valid.specs.declared.statement.Statement.{Statement}
use Rattle.opgp_bound.specs.Bound.{left_behind}
use Rattle.opgp_bound.specs.Copies.{Deciding}
use Rattle.opgp_bound.specs.Role.{is_self_type}
use Rattle.opgp_bound.proofs.Decided.{bound_by, component_on, role_on}
use Rattle.opgp_bound.proofs.Matched.{Agree, AgreeInPlace, flag_at, flags, parts_agree, parts_alike, place}
use Rattle.opgp_bound.proofs.Placed.{flat_in_parts, moved, on, said_of, said_on, tell_all, told_in_parts}
use Rattle.opgp_bound.proofs.Roles.{IsIn, goes_not_genuine, going_is_self, not_by_primary, other_revokes_not, revoking_revokes, said_is, self_revokes_not}

-- ---- tests
-- a certification, binding or direct key signature by the primary key
abbrev pub is_voice : Statement → Bool
is_voice s = is_self_type s.kind && is_primary s.author

no_voice : (kind : SignatureType) (by : Author) → (is_self_type kind ≡ true → is_primary by ≡ false) → (is_self_type kind && is_primary by) ≡ false
no_voice kind by f = go (is_self_type kind) f where
  go : (t : Bool) → (t ≡ true → is_primary by ≡ false) → (t && is_primary by) ≡ false
  go true g = g refl
  go false g = refl

-- those of a sort that count at a time: good, or unrevoked, where that is asked for
abbrev pub counts_at : (Statement → Bool) → Bool → Bool → ℕ → Statement → Bool
counts_at sort good stand at s = sort s && ((not good || is_good s) && ((not stand || not s.is_revoked) && (s.is_understood && (is_primary s.author && is_alive at s))))

-- nothing else does, if the sort certifies or binds
pub silent : (sort : Statement → Bool) (good stand : Bool) (at : ℕ) → ((s : Statement) → is_self_type s.kind ≡ false → sort s ≡ false) → (s : Statement) → is_voice s ≡ false → counts_at sort good stand at s ≡ false
silent sort good stand at self s e = go (is_self_type s.kind) refl e where
  go : (t : Bool) → is_self_type s.kind ≡ t → (t && is_primary s.author) ≡ false → counts_at sort good stand at s ≡ false
  go true f g =
      and_right (sort s) _
      (and_right (not good || is_good s) _
      (and_right (not stand || not s.is_revoked) _
      (and_right s.is_understood _ (and_left (is_primary s.author) (is_alive at s) g))))
  go false f g = and_left (sort s) _ (self s f)

pub vouches_not : (n at : ℕ) (s : Statement) → is_voice s ≡ false → vouches n at s ≡ false
vouches_not n at s e = go (is_self_type s.kind) refl e where
  go : (t : Bool) → is_self_type s.kind ≡ t → (t && is_primary s.author) ≡ false → vouches n at s ≡ false
  go true f g =
      and_right (certifies s.kind) _
      (and_right (is_the n s.component) _
      (and_right (not s.is_revoked) _
      (and_right (is_good s) _
      (and_right s.is_understood _ (and_left (is_primary s.author) (is_alive at s) g)))))
  go false f g = and_left (certifies s.kind) _ (or_parts (certifies s.kind) (binds s.kind || is_direct s.kind) f).0

-- those that pass a test, and whether one does
abbrev pub one_of : (Statement → Bool) → Statement → List Statement
one_of p s = if p s then s ∷ [] else []

abbrev one_mark : (Statement → Bool) → Statement → List Bool
one_mark p s = if p s then true ∷ [] else []

abbrev some : List Bool → Bool
some [] = false
some (b ∷ bs) = true

pub filter_flat : (p : Statement → Bool) (ss : List Statement) → filter p ss ≡ flat_map (one_of p) ss
filter_flat p [] = refl
filter_flat p (s ∷ ss) = go (p s) (filter_flat p ss) where
  go : (t : Bool) → filter p ss ≡ flat_map (one_of p) ss → (if t then s ∷ filter p ss else filter p ss) ≡ (if t then s ∷ [] else []) ++ flat_map (one_of p) ss
  go true r = ap (λ (l : List Statement). s ∷ l) r
  go false r = r

any_flat : (p : Statement → Bool) (ss : List Statement) → list_any p ss ≡ some (flat_map (one_mark p) ss)
any_flat p [] = refl
any_flat p (s ∷ ss) = go (p s) (any_flat p ss) where
  go : (t : Bool) → list_any p ss ≡ some (flat_map (one_mark p) ss) → (t || list_any p ss) ≡ some ((if t then true ∷ [] else []) ++ flat_map (one_mark p) ss)
  go true r = refl
  go false r = r

fails_one : {X : Type 0} (x : X) (t : Bool) → t ≡ false → (if t then x ∷ [] else []) ≡ []
fails_one x t e = ap (λ (u : Bool). if u then x ∷ [] else []) e

-- ---- lists made of statements
module _ {X : Type 0} where
  -- nothing is made of what goes: key revocations go elsewhere; of what certifies or binds what isn't
  -- by the primary key may go; what is on a component that goes is no such thing by the primary key
  pub record Fits (stays : ℕ → Bool) (before after : Statement → List X) : Type 0 where
    pub revoking : (s : Statement) → revokes_key s.kind ≡ true → after s ≡ []
    pub others : (s : Statement) → is_self_type s.kind ≡ true → is_primary s.author ≡ false → before s ≡ []
    pub gone : (n : ℕ) (s : Statement) → stays n ≡ false → is_voice s ≡ false → before (on (Some n) s) ≡ []
    pub primary : (s : Statement) → before (on None s) ≡ after (on None s)
    pub staying : (n : ℕ) (s : Statement) → stays n ≡ true → before (on (Some n) s) ≡ after (on (Some n) s)

  -- the same of one list, whether or not it is known what is revoked
  pub record Heeds (stays : ℕ → Bool) (make : Statement → List X) : Type 0 where
    pub revoking : (s : Statement) → revokes_key s.kind ≡ true → make s ≡ []
    pub others : (s : Statement) → is_self_type s.kind ≡ true → is_primary s.author ≡ false → make s ≡ []
    pub gone : (n : ℕ) (s : Statement) → stays n ≡ false → is_voice s ≡ false → make (on (Some n) s) ≡ []

  pub heeds_fits : (stays : ℕ → Bool) (make : Statement → List X) → Heeds stays make → Fits stays make make
  heeds_fits stays make h = record { revoking = h.revoking; others = h.others; gone = h.gone; primary = λ s. refl; staying = λ n s e. refl }

  -- what is made of voices alone
  pub of_voices : (stays : ℕ → Bool) (make : Statement → List X) → ((s : Statement) → is_voice s ≡ false → make s ≡ []) → Heeds stays make
  of_voices stays make f = record {
    revoking = λ s e. f s (no_voice s.kind s.author (λ g. absurd (true≢false (sym e ∙ self_revokes_not s.kind g))));
    others = λ s e g. f s (no_voice s.kind s.author (λ h. g));
    gone = λ n s e g. f (on (Some n) s) g;
  }

  -- the same where nothing is put elsewhere
  pub record FitsInPlace (stays : ℕ → Bool) (make : Statement → List X) : Type 0 where
    pub others : (s : Statement) → is_self_type s.kind ≡ true → is_primary s.author ≡ false → make s ≡ []
    pub gone : (n : ℕ) (s : Statement) → stays n ≡ false → is_voice s ≡ false → revokes_key s.kind ≡ false → make (on (Some n) s) ≡ []

  none_on : (make : Statement → List X) (o : Option ℕ) (ss : List Statement) → All (λ (s : Statement). make (on o s) ≡ []) ss → flat_map make (map (on o) ss) ≡ []
  none_on make o [] h = refl
  none_on make o (s ∷ ss) h =
      let P : Statement → Type 0 = λ (r : Statement). make (on o r) ≡ [] in
      ap (λ (l : List X). l ++ flat_map make (map (on o) ss)) (All-head P s ss h) ∙ none_on make o ss (All-tail P s ss h)

  same_on : (make made : Statement → List X) (o : Option ℕ) → ((s : Statement) → make (on o s) ≡ made (on o s)) → (ss : List Statement) → flat_map make (map (on o) ss) ≡ flat_map made (map (on o) ss)
  same_on make made o same [] = refl
  same_on make made o same (s ∷ ss) =
      ap (λ (l : List X). l ++ flat_map make (map (on o) ss)) (same s) ∙ ap (λ (l : List X). made (on o s) ++ l) (same_on make made o same ss)

  module _ (known : List Known) (policy : Policy) (print : Fingerprint) (revokers : List Fingerprint) (v : Deciding) (issuers : List Fingerprint) (body : List ℕ) where
    abbrev made_of : (Statement → List X) → Option ℕ → SubjectValue → PacketValue → List X
    made_of make o subject p = flat_map make (said_on known policy print revokers v o subject p)

    none_by : (make : Statement → List X) (o : Option ℕ) (subject : SubjectValue) (p : PacketValue) → ((s : Statement) → IsIn known policy print revokers v subject p s.kind s.author → make (on o s) ≡ [])
        → made_of make o subject p ≡ []
    none_by make o subject p f =
        none_on make o (said_of known policy print revokers v subject p)
        (All-weaker (λ (s : Statement). IsIn known policy print revokers v subject p s.kind s.author) (λ (s : Statement). make (on o s) ≡ []) f (said_of known policy print revokers v subject p) (said_is known policy print revokers v subject p))

    fits_agree : (stays : ℕ → Bool) (make made : Statement → List X) → Fits stays make made → Agree known print v issuers body stays (made_of make) (made_of made)
    fits_agree stays make made fits = record {
      going = λ o subject p e. none_by make o subject p (λ s h.
          let self : is_self_type s.kind ≡ true = going_is_self known policy print revokers v subject subject p s.kind s.author h e in
          fits.others (on o s) self (not_by_primary known policy print revokers v subject p s.kind s.author h (goes_not_genuine (role_on known print v subject p) e) self));
      primary = λ p. same_on make made None fits.primary (said_of known policy print revokers v (one body) p);
      left = λ subject p e. none_by made None (one body) p (λ s h. fits.revoking (on None s) (revoking_revokes known policy print revokers v (one body) subject p s.kind s.author h e));
      gone = λ n subject p e g. none_by make (Some n) subject p (λ s h. fits.gone n s e (no_voice s.kind s.author (not_by_primary known policy print revokers v subject p s.kind s.author h g)));
      staying = λ n subject p e. same_on make made (Some n) (λ s. fits.staying n s e) (said_of known policy print revokers v subject p);
    }

    in_place_agree : (stays : ℕ → Bool) (make : Statement → List X) → FitsInPlace stays make → AgreeInPlace known print v issuers body stays (made_of make) (made_of make)
    in_place_agree stays make fits = record {
      going = λ o subject p e. none_by make o subject p (λ s h.
          let self : is_self_type s.kind ≡ true = going_is_self known policy print revokers v subject subject p s.kind s.author h e in
          fits.others (on o s) self (not_by_primary known policy print revokers v subject p s.kind s.author h (goes_not_genuine (role_on known print v subject p) e) self));
      primary = λ p. refl;
      gone = λ n subject p e g i. none_by make (Some n) subject p (λ s h.
          fits.gone n s e (no_voice s.kind s.author (not_by_primary known policy print revokers v subject p s.kind s.author h g)) (other_revokes_not known policy print revokers v subject subject p s.kind s.author h i));
      staying = λ n subject p e. refl;
    }

-- ---- of a certificate
module _ (known : List Known) (policy : Policy) (revokers : List Fingerprint) (v : Deciding) (issuers : List Fingerprint) (c : CertificateValue) where
  abbrev print : Fingerprint
  print = print_of c.primary.body

  -- which of its components stay, and which number each had that has this number now
  abbrev pub stays : ℕ → Bool
  stays n = flag_at (flags known v issuers c) n

  abbrev pub number : ℕ → ℕ
  number n = place (flags known v issuers c) n

  -- what it says, and what is said by what is bound of it, with the numbers of before
  abbrev pub told_before : List Statement
  told_before = tell_all known policy print revokers v [] (certificate_standing 0 c)

  abbrev pub told_after : List Statement
  told_after = tell_all known policy print revokers v [] (certificate_standing 0 (bound_by known v issuers c))

  abbrev pub all_before : List Statement
  all_before = map (moved (λ n. n)) told_before

  abbrev pub all_after : List Statement
  all_after = map (moved number) told_after

  pub fitting : {X : Type 0} (make made : Statement → List X) → Fits stays make made → flat_map make all_before ≡ flat_map made all_after
  fitting make made fits =
      let m : CertificateValue = bound_by known v issuers c in
      ap (flat_map make) (told_in_parts known policy print revokers v (λ n. n) c)
      ∙ flat_in_parts make (said_on known policy print revokers v) (λ n. n) c
      ∙ parts_agree known v issuers c (made_of known policy print revokers v issuers c.primary.body make) (made_of known policy print revokers v issuers c.primary.body made)
      (fits_agree known policy print revokers v issuers c.primary.body stays make made fits)
      ∙ sym (flat_in_parts made (said_on known policy print revokers v) number m)
      ∙ sym (ap (flat_map made) (told_in_parts known policy print revokers v number m))

  -- where nothing is put elsewhere
  pub fitting_in_place : {X : Type 0} (make : Statement → List X) → flat_map left_behind (map (component_on known print v issuers c.primary.body) c.components) ≡ [] → FitsInPlace stays make → flat_map make all_before ≡ flat_map make all_after
  fitting_in_place make none fits =
      let m : CertificateValue = bound_by known v issuers c in
      ap (flat_map make) (told_in_parts known policy print revokers v (λ n. n) c)
      ∙ flat_in_parts make (said_on known policy print revokers v) (λ n. n) c
      ∙ parts_alike known v issuers c (made_of known policy print revokers v issuers c.primary.body make) (made_of known policy print revokers v issuers c.primary.body make) none
      (in_place_agree known policy print revokers v issuers c.primary.body stays make fits)
      ∙ sym (flat_in_parts make (said_on known policy print revokers v) number m)
      ∙ sym (ap (flat_map make) (told_in_parts known policy print revokers v number m))

  any_fitting : (p : Statement → Bool) → Heeds stays (one_mark p) → list_any p all_before ≡ list_any p all_after
  any_fitting p h = any_flat p all_before ∙ ap some (fitting (one_mark p) (one_mark p) (heeds_fits stays (one_mark p) h)) ∙ sym (any_flat p all_after)

  -- ---- the certifications that are revoked
  pub another : (n m : ℕ) → stays n ≡ true → stays m ≡ false → (m == n) ≡ false
  another n m e f = false_from_ne_true (m == n) (λ g. true≢false (sym e ∙ ap stays (sym (eqb-true m n g)) ∙ f))

  no_certification : (t : SignatureType) → revokes_key t ≡ true → revokes_certification t ≡ false
  no_certification types.KeyRevocation e = refl
  no_certification other e = absurd (false≢true e)

  heeds_revocations : (n : ℕ) (s : Statement) → stays n ≡ true → Heeds stays (one_mark (is_revoked_by (on (Some n) s)))
  heeds_revocations n s e = record {
    revoking = λ r f. fails_one true (is_revoked_by (on (Some n) s) r) (and_left (revokes_certification r.kind) _ (no_certification r.kind f));
    others = λ r f g. fails_one true (is_revoked_by (on (Some n) s) r) (and_right (revokes_certification r.kind) _ (and_left (is_primary r.author) _ g));
    gone = λ m r f g. fails_one true (is_revoked_by (on (Some n) s) (on (Some m) r))
        (and_right (revokes_certification r.kind) _ (and_right (is_primary r.author) _ (and_left (m == n) (not (is_older r.life s.life)) (another n m e f))));
  }

  never : (t a b : Bool) → ((t && false) && a) ≡ ((t && false) && b)
  never true a b = refl
  never false a b = refl

  abbrev mark : List Statement → Statement → Statement
  mark ss s = with_revoked (is_revoked_among ss s) s

  module _ {X : Type 0} (make : Statement → List X) (h : Heeds stays make) where
    marked_fits : Fits stays (λ s. make (mark all_before s)) (λ s. make (mark all_after s))
    marked_fits = record {
      revoking = λ s e. h.revoking (mark all_after s) e;
      others = λ s e f. h.others (mark all_before s) e f;
      gone = λ n s e f. h.gone n (with_revoked (is_revoked_among all_before (on (Some n) s)) s) e f;
      primary = λ s. ap (λ (t : Bool). make (with_revoked t (on None s))) (never (certifies s.kind) (list_any (is_revoked_by (on None s)) all_before) (list_any (is_revoked_by (on None s)) all_after));
      staying = λ n s e. ap (λ (t : Bool). make (with_revoked (is_certification_on (on (Some n) s) && t) (on (Some n) s))) (any_fitting (is_revoked_by (on (Some n) s)) (heeds_revocations n s e));
    }

    pub marked_fitting : flat_map make (with_revocations all_before) ≡ flat_map make (with_revocations all_after)
    marked_fitting =
        flat_map-map make (mark all_before) all_before
        ∙ fitting (λ s. make (mark all_before s)) (λ s. make (mark all_after s)) marked_fits
        ∙ sym (flat_map-map make (mark all_after) all_after)

    -- nothing is made of one of the certificate where nothing is of what stays
    pub nothing_made : ((n : ℕ) (s : Statement) → stays n ≡ true → make (on (Some n) s) ≡ []) → ((s : Statement) → make (on None s) ≡ []) → flat_map make (with_revocations all_before) ≡ []
    nothing_made staying primary =
        flat_map-map make (mark all_before) all_before
        ∙ fitting (λ s. make (mark all_before s)) (λ s. []) (record {
          revoking = λ s e. refl;
          others = λ s e f. h.others (mark all_before s) e f;
          gone = λ n s e f. h.gone n (with_revoked (is_revoked_among all_before (on (Some n) s)) s) e f;
          primary = λ s. primary (with_revoked (is_revoked_among all_before (on None s)) s);
          staying = λ n s e. staying n (with_revoked (is_revoked_among all_before (on (Some n) s)) s) e;
        })
        ∙ none_of all_after where
          none : List X
          none = []

          none_of : (ss : List Statement) → flat_map (λ (s : Statement). none) ss ≡ none
          none_of [] = refl
          none_of (s ∷ ss) = none_of ss

  pub filter_fitting : (p : Statement → Bool) → Heeds stays (one_of p) → filter p (with_revocations all_before) ≡ filter p (with_revocations all_after)
  filter_fitting p h = filter_flat p (with_revocations all_before) ∙ marked_fitting (one_of p) h ∙ sym (filter_flat p (with_revocations all_after))

  pub any_marked : (p : Statement → Bool) → Heeds stays (one_mark p) → list_any p (with_revocations all_before) ≡ list_any p (with_revocations all_after)
  any_marked p h = any_flat p (with_revocations all_before) ∙ ap some (marked_fitting (one_mark p) h) ∙ sym (any_flat p (with_revocations all_after))

  pub none_marked : (p : Statement → Bool) → Heeds stays (one_mark p)
      → ((n : ℕ) (s : Statement) → stays n ≡ true → p (on (Some n) s) ≡ false) → ((s : Statement) → p (on None s) ≡ false) → list_any p (with_revocations all_before) ≡ false
  none_marked p h staying primary =
      any_flat p (with_revocations all_before)
      ∙ ap some (nothing_made (one_mark p) h (λ n s e. fails_one true (p (on (Some n) s)) (staying n s e)) (λ s. fails_one true (p (on None s)) (primary s)))

  -- ---- which tests heed what goes
  pub voices_heed : (p : Statement → Bool) → ((s : Statement) → is_voice s ≡ false → p s ≡ false) → Heeds stays (one_of p) × Heeds stays (one_mark p)
  voices_heed p f = (
    of_voices stays (one_of p) (λ s e. fails_one s (p s) (f s e)),
    of_voices stays (one_mark p) (λ s e. fails_one true (p s) (f s e)),
  )

  -- what revokes a user ID or attribute that stays
  pub identities_heed : (n : ℕ) → stays n ≡ true → Heeds stays (one_mark (revokes_identity n))
  identities_heed n e = record {
    revoking = λ r f. fails_one true (revokes_identity n r) (and_left (revokes_certification r.kind) _ (no_certification r.kind f));
    others = λ r f g. fails_one true (revokes_identity n r) (and_right (revokes_certification r.kind) _ (and_right (is_the n r.component) (is_primary r.author) g));
    gone = λ m r f g. fails_one true (revokes_identity n (on (Some m) r)) (and_right (revokes_certification r.kind) _ (and_left (m == n) (is_primary r.author) (another n m e f)));
  }

  -- ---- revocations of a subkey that stays
  abbrev pub revokes_subkeys : SignatureType → Bool
  revokes_subkeys types.SubkeyRevocation = true
  revokes_subkeys other = false

  no_subkey : (t : SignatureType) → revokes_key t ≡ true → revokes_subkeys t ≡ false
  no_subkey types.KeyRevocation e = refl
  no_subkey other e = absurd (false≢true e)

  self_no_subkey : (t : SignatureType) → is_self_type t ≡ true → revokes_subkeys t ≡ false
  self_no_subkey types.SubkeyRevocation e = absurd (false≢true e)
  self_no_subkey other e = refl

  pub subkeys_heed : (n : ℕ) (ok : Option ℕ → Bool) → stays n ≡ true → Heeds stays (one_mark (λ r. (revokes_subkeys r.kind && is_the n r.component) && ok r.reason))
  subkeys_heed n ok e = record {
    revoking = λ r f. fails_one true ((revokes_subkeys r.kind && is_the n r.component) && ok r.reason) (and_left (revokes_subkeys r.kind && is_the n r.component) _ (and_left (revokes_subkeys r.kind) _ (no_subkey r.kind f)));
    others = λ r f g. fails_one true ((revokes_subkeys r.kind && is_the n r.component) && ok r.reason) (and_left (revokes_subkeys r.kind && is_the n r.component) _ (and_left (revokes_subkeys r.kind) _ (self_no_subkey r.kind f)));
    gone = λ m r f g. fails_one true ((revokes_subkeys r.kind && (m == n)) && ok r.reason) (and_left (revokes_subkeys r.kind && (m == n)) _ (and_right (revokes_subkeys r.kind) (m == n) (another n m e f)));
  }
