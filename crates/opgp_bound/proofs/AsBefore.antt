-- What stays of a certificate stands as before.
use Rattle.std.proofs.Common.{◌≡◌, ◌∙◌, ℕ, Bool, true, false, not, ◌&&◌, ◌||◌, ◌==◌, List, [], ◌∷◌, ◌++◌, map, Option, Some, None, is_some, refl, sym, ap, if◌then◌else◌, true≢false}
use Rattle.std.specs.List.{filter, find, flat_map, fold, list_any}
use Rattle.std.specs.Option.{option_and_then}
use Rattle.std.proofs.lemmas.Bool.{and_left, and_right, eqb-true, false_from_ne_true, false≢true, or_parts}
use Rattle.std.proofs.lemmas.List.Folds.{flat_map-map}
use Rattle.opgp_octets.specs.declared.signature_type.SignatureType.{SignatureType}
use Rattle.opgp_octets.specs.declared.signature_type.SignatureType.TheVariants as types
use Rattle.opgp_hash.specs.SubjectValue.{one}
use Rattle.opgp_hash.specs.declared.fingerprints.Fingerprint.{Fingerprint}
use Rattle.opgp_keyring.specs.Keyring.{CertificateValue}
use Rattle.opgp_report.specs.First.{print_of}
use Rattle.opgp_report.specs.Standing.{Standing, certificate_standing}
use Rattle.opgp_report.specs.declared.verifier.Verdict.{Verdict}
use Rattle.opgp_valid.specs.Facts.{FactsValue}
use Rattle.opgp_valid.specs.Group.{binds, certifies, is_direct, is_primary, is_the}
use Rattle.opgp_valid.specs.Laws.{with_statements}
use Rattle.opgp_valid.specs.Policy.{created_of, version_of}
use Rattle.opgp_valid.specs.Saying.{is_nonempty}
use Rattle.opgp_valid.specs.Speaking.{latest, made_then}
use Rattle.opgp_valid.specs.Standing.{applies, is_component, is_revocation_of, is_unbound_at, revokes, speakers}
use Rattle.opgp_valid.specs.State.{identity_of, reason_of, revokes_identity, unusable, vouches}
use Rattle.opgp_valid.specs.Statement.{is_alive, is_good}
use Rattle.opgp_valid.specs.Told.{is_revoked_among, is_same_number, revokers_at, revokes_key, told, with_revocations, with_revoked}
use Rattle.opgp_valid.specs.declared.facts.Key.{Key}
use Rattle.opgp_valid.specs.declared.facts.Key.TheVariants as key
use Rattle.opgp_valid.specs.declared.known_keys.Known.{Known}
use Rattle.opgp_valid.specs.declared.policy.Policy.{Policy}
use Rattle.opgp_valid.specs.declared.state.IdentityState.{IdentityState}
use Rattle.opgp_valid.specs.declared.state.IdentityState.TheVariants as identity
use Rattle.opgp_valid.specs.declared.statement.Statement.{Statement}
use Rattle.opgp_valid.specs.declared.why.Why.TheVariants.{Revoked, Early, Unbound, Expired}
use Rattle.opgp_valid.proofs.Renumbered.{any_map, rekey, renumbered}
use Rattle.opgp_bound.specs.Before.{SaysSameAnywhere, StandsAs}
use Rattle.opgp_bound.specs.Bound.{left_behind}
use Rattle.opgp_bound.specs.Copies.{Deciding, decided, facts_decided}
use Rattle.opgp_bound.specs.Role.{is_self_type}
use Rattle.opgp_bound.proofs.Decided.{bound_by, component_on, role_on}
use Rattle.opgp_bound.proofs.Fitting.{FitsInPlace, all_after, all_before, another as another_one, any_marked, counts_at, filter_fitting, fitting_in_place, identities_heed, is_voice, none_marked, revokes_subkeys, silent, subkeys_heed, told_after, told_before, voices_heed, vouches_not}
use Rattle.opgp_bound.proofs.Heard.{CountMoved, kept_map, revocations_moved, same_number, stands_same, state_same, the_same}
use Rattle.opgp_bound.proofs.Matched.{Agree, flag_at, flags, parts_agree, place, place_once}
use Rattle.opgp_bound.proofs.Placed.{moved, on, tell_all, told_in_parts}
use Rattle.opgp_bound.proofs.Put.{sought_same}
use Rattle.opgp_bound.proofs.Revoking.{with_each}
use Rattle.opgp_bound.proofs.Roles.{goes_not_genuine, names_in_parts, names_on, not_genuine_unnamed, revoking_unnamed}

-- ---- tests of lists
any_agree : (p q : Statement → Bool) → ((x : Statement) → p x ≡ q x) → (xs : List Statement) → list_any p xs ≡ list_any q xs
any_agree p q h [] = refl
any_agree p q h (x ∷ xs) = rw (h x, any_agree p q h xs) refl

or_four : (a b c d : Bool) → ((a || b) || (c || d)) ≡ ((a || c) || (b || d))
or_four true b true d = refl
or_four true b false d = refl
or_four false true true d = refl
or_four false true false d = refl
or_four false false c d = refl

any_either : (p q : Statement → Bool) (xs : List Statement) → list_any (λ x. p x || q x) xs ≡ (list_any p xs || list_any q xs)
any_either p q [] = refl
any_either p q (x ∷ xs) = ap (λ (t : Bool). (p x || q x) || t) (any_either p q xs) ∙ or_four (p x) (q x) (list_any p xs) (list_any q xs)

-- the reasons of the revocations of a key, in order
abbrev reasons_by : Key → Statement → List (Option ℕ)
reasons_by k s = if revokes k s then s.reason ∷ [] else []

abbrev first_of : List (Option ℕ) → Option ℕ
first_of [] = None
first_of (reason ∷ reasons) = reason

reason_first : (k : Key) (ss : List Statement) → option_and_then (λ (s : Statement). s.reason) (find (revokes k) ss) ≡ first_of (flat_map (reasons_by k) ss)
reason_first k [] = refl
reason_first k (s ∷ ss) = go (revokes k s) (reason_first k ss) where
  go : (t : Bool) → option_and_then (λ (r : Statement). r.reason) (find (revokes k) ss) ≡ first_of (flat_map (reasons_by k) ss)
      → option_and_then (λ (r : Statement). r.reason) (if t then Some s else find (revokes k) ss) ≡ first_of ((if t then s.reason ∷ [] else []) ++ flat_map (reasons_by k) ss)
  go true r = refl
  go false r = r

no_reason : (k : Key) (s : Statement) → revokes k s ≡ false → reasons_by k s ≡ []
no_reason k s e = ap (λ (t : Bool). if t then s.reason ∷ [] else []) e

and_true : (a : Bool) → (a && true) ≡ a
and_true true = refl
and_true false = refl

-- ---- the facts
module _ (known : List Known) (policy : Policy) (v : Deciding) where
  -- the keys that may revoke by what a certificate says
  abbrev revokers_by : CertificateValue → List Fingerprint
  revokers_by c = flat_map (revokers_at known (print_of c.primary.body)) (map (λ s. (s, decided v s)) (certificate_standing 0 c))

  pub facts_are : (c : CertificateValue)
      → facts_decided known policy v c ≡ with_statements (version_of c.primary.body) (created_of c.primary.body) (with_revocations (tell_all known policy (print_of c.primary.body) (revokers_by c) v [] (certificate_standing 0 c)))
  facts_are c =
      let own : Fingerprint = print_of c.primary.body in
      ap (λ (l : List (Standing × Verdict)). with_statements (version_of c.primary.body) (created_of c.primary.body) (with_revocations (fold (told known policy own (flat_map (revokers_at known own) l)) [] l)))
      (with_each (decided v) (certificate_standing 0 c))

module _ (known : List Known) (policy : Policy) (v : Deciding) (issuers : List Fingerprint) (c : CertificateValue) where
  -- which of its components stay, and which number each had that has this number now
  abbrev pub stays : ℕ → Bool
  stays n = flag_at (flags known v issuers c) n

  abbrev pub was : ℕ → ℕ
  was n = place (flags known v issuers c) n

  was_once : (i j : ℕ) → was i ≡ was j → i ≡ j
  was_once i j e = place_once (flags known v issuers c) i j e

  -- the same keys may revoke
  names_agree : Agree known (print_of c.primary.body) v issuers c.primary.body stays (names_on known (print_of c.primary.body) v) (names_on known (print_of c.primary.body) v)
  names_agree = record {
    going = λ o subject p e. not_genuine_unnamed known (print_of c.primary.body) v subject p (goes_not_genuine (role_on known (print_of c.primary.body) v subject p) e);
    primary = λ p. refl;
    left = λ subject p e. revoking_unnamed known (print_of c.primary.body) v subject (one c.primary.body) p e;
    gone = λ n subject p e f. not_genuine_unnamed known (print_of c.primary.body) v subject p f;
    staying = λ n subject p e. refl;
  }

  same_revokers : revokers_by known policy v c ≡ revokers_by known policy v (bound_by known v issuers c)
  same_revokers =
      names_in_parts known (print_of c.primary.body) v (λ n. n) c
      ∙ parts_agree known v issuers c (names_on known (print_of c.primary.body) v) (names_on known (print_of c.primary.body) v) names_agree
      ∙ sym (names_in_parts known (print_of c.primary.body) v was (bound_by known v issuers c))

  abbrev revokers : List Fingerprint
  revokers = revokers_by known policy v c

  abbrev before : List Statement
  before = with_revocations (told_before known policy revokers v issuers c)

  abbrev after : List Statement
  after = with_revocations (told_after known policy revokers v issuers c)

  abbrev pub facts_before : FactsValue
  facts_before = with_statements (version_of c.primary.body) (created_of c.primary.body) before

  abbrev pub facts_after : FactsValue
  facts_after = with_statements (version_of c.primary.body) (created_of c.primary.body) after

  pub bound_facts : facts_decided known policy v (bound_by known v issuers c) ≡ facts_after
  bound_facts =
      facts_are known policy v (bound_by known v issuers c)
      ∙ ap (λ (l : List Fingerprint). with_statements (version_of c.primary.body) (created_of c.primary.body) (with_revocations (tell_all known policy (print_of c.primary.body) l v [] (certificate_standing 0 (bound_by known v issuers c))))) (sym same_revokers)

  -- with the numbers of before
  before_moved : map (moved (λ n. n)) before ≡ with_revocations (all_before known policy revokers v issuers c)
  before_moved = revocations_moved (λ n. n) (λ i j e. e) (told_before known policy revokers v issuers c)

  after_moved : map (moved was) after ≡ with_revocations (all_after known policy revokers v issuers c)
  after_moved = revocations_moved was was_once (told_after known policy revokers v issuers c)

  -- ---- the same count
  count_moved : CountMoved was was_once before after
  count_moved sort old must stand at fits =
      let test : Statement → Bool = counts_at sort must stand at in
      let hung : (s : Statement) → test (moved (λ n. n) s) ≡ test s =
      λ s. ap (λ (t : Bool). t && ((not must || is_good s) && ((not stand || not s.is_revoked) && (s.is_understood && (is_primary s.author && is_alive at s))))) (fits.hung s) in
      let counted : (s : Statement) → test (moved was s) ≡ counts_at old must stand at s =
      λ s. ap (λ (t : Bool). t && ((not must || is_good s) && ((not stand || not s.is_revoked) && (s.is_understood && (is_primary s.author && is_alive at s))))) (fits.counted s) in
      sym (kept_map (moved (λ n. n)) test test hung before)
      ∙ ap (filter test) before_moved
      ∙ filter_fitting known policy revokers v issuers c test (voices_heed known policy revokers v issuers c test (silent sort must stand at fits.self)).0
      ∙ ap (filter test) (sym after_moved)
      ∙ kept_map (moved was) test (counts_at old must stand at) counted after

  -- ---- the same is revoked
  -- a key that stays
  abbrev pub Lasts : Key → Type 0
  Lasts key.Primary = true ≡ true
  Lasts (key.Subkey n created) = stays n ≡ true

  revokes_moved_by : (l : Key) (t : SignatureType) (o : Option ℕ) (b : Bool) → (is_revocation_of (rekey was l) t (renumbered was o) && b) ≡ (is_revocation_of l t o && b)
  revokes_moved_by key.Primary types.KeyRevocation o b = refl
  revokes_moved_by key.Primary types.SubkeyRevocation o b = refl
  revokes_moved_by key.Primary other o b = refl
  revokes_moved_by (key.Subkey n created) types.KeyRevocation o b = refl
  revokes_moved_by (key.Subkey n created) types.SubkeyRevocation o b = ap (λ (t : Bool). t && b) (the_same was was_once n o)
  revokes_moved_by (key.Subkey n created) other o b = refl

  module _ (says : SaysSameAnywhere v) (ok : Option ℕ → Bool) where
    abbrev seeks : Key → Statement → Bool
    seeks k s = revokes k s && ok s.reason

    abbrev sought : Statement → Bool
    sought s = revokes_key s.kind && ok s.reason

    -- key revocations
    sought_there : list_any sought (with_revocations (all_before known policy revokers v issuers c)) ≡ list_any sought (with_revocations (all_after known policy revokers v issuers c))
    sought_there =
        any_map (λ s. with_revoked (is_revoked_among (all_before known policy revokers v issuers c) s) s) sought sought (λ s. refl) (all_before known policy revokers v issuers c)
        ∙ ap (list_any sought) (told_in_parts known policy (print_of c.primary.body) revokers v (λ n. n) c)
        ∙ sought_same known policy revokers v says issuers c ok was
        ∙ sym (ap (list_any sought) (told_in_parts known policy (print_of c.primary.body) revokers v was (bound_by known v issuers c)))
        ∙ sym (any_map (λ s. with_revoked (is_revoked_among (all_after known policy revokers v issuers c) s) s) sought sought (λ s. refl) (all_after known policy revokers v issuers c))

    abbrev sub_sought : ℕ → Statement → Bool
    sub_sought n s = (revokes_subkeys known policy revokers v issuers c s.kind && is_the n s.component) && ok s.reason

    by_kind : (n created : ℕ) (t : SignatureType) (o : Option ℕ) (b : Bool)
        → (is_revocation_of (key.Subkey n created) t o && b) ≡ ((revokes_key t && b) || ((revokes_subkeys known policy revokers v issuers c t && is_the n o) && b))
    by_kind n created types.KeyRevocation o true = refl
    by_kind n created types.KeyRevocation o false = refl
    by_kind n created types.SubkeyRevocation o b = refl
    by_kind n created other o b = refl

    by_kind_alone : (t : SignatureType) (o : Option ℕ) (b : Bool) → (is_revocation_of key.Primary t o && b) ≡ (revokes_key t && b)
    by_kind_alone types.KeyRevocation o b = refl
    by_kind_alone types.SubkeyRevocation o b = refl
    by_kind_alone other o b = refl

    sought_of : (k : Key) → Lasts k → list_any (seeks k) (with_revocations (all_before known policy revokers v issuers c)) ≡ list_any (seeks k) (with_revocations (all_after known policy revokers v issuers c))
    sought_of key.Primary e =
        any_agree (seeks key.Primary) sought (λ s. by_kind_alone s.kind s.component (ok s.reason)) (with_revocations (all_before known policy revokers v issuers c))
        ∙ sought_there
        ∙ sym (any_agree (seeks key.Primary) sought (λ s. by_kind_alone s.kind s.component (ok s.reason)) (with_revocations (all_after known policy revokers v issuers c)))
    sought_of (key.Subkey n created) e =
        let x : List Statement = with_revocations (all_before known policy revokers v issuers c) in
        let y : List Statement = with_revocations (all_after known policy revokers v issuers c) in
        any_agree (seeks (key.Subkey n created)) (λ s. sought s || sub_sought n s) (λ s. by_kind n created s.kind s.component (ok s.reason)) x
        ∙ any_either sought (sub_sought n) x
        ∙ ap (λ (t : Bool). t || list_any (sub_sought n) x) sought_there
        ∙ ap (λ (t : Bool). list_any sought y || t) (any_marked known policy revokers v issuers c (sub_sought n) (subkeys_heed known policy revokers v issuers c n ok e))
        ∙ sym (any_either sought (sub_sought n) y)
        ∙ sym (any_agree (seeks (key.Subkey n created)) (λ s. sought s || sub_sought n s) (λ s. by_kind n created s.kind s.component (ok s.reason)) y)

    revokes_as_moved : (k : Key) (s : Statement) → seeks k (moved (λ n. n) s) ≡ seeks k s
    revokes_as_moved k s = ap (λ (o : Option ℕ). is_revocation_of k s.kind o && ok s.reason) (same_number s.component)

    pub seeks_same : (l : Key) → Lasts (rekey was l) → list_any (seeks (rekey was l)) before ≡ list_any (seeks l) after
    seeks_same l e =
        let k : Key = rekey was l in
        sym (any_map (moved (λ n. n)) (seeks k) (seeks k) (revokes_as_moved k) before)
        ∙ ap (list_any (seeks k)) before_moved
        ∙ sought_of k e
        ∙ ap (list_any (seeks k)) (sym after_moved)
        ∙ any_map (moved was) (seeks k) (seeks l) (λ s. revokes_moved_by l s.kind s.component (ok s.reason)) after

  -- ---- a key that stays stands as before
  module _ (says : SaysSameAnywhere v) (l : Key) (stays_there : Lasts (rekey was l)) where
    abbrev k : Key
    k = rekey was l

    revoked_same : list_any (revokes (rekey was l)) before ≡ list_any (revokes l) after
    revoked_same =
        sym (any_agree (λ s. revokes k s && true) (revokes k) (λ s. and_true (revokes k s)) before)
        ∙ seeks_same says (λ o. true) l stays_there
        ∙ any_agree (λ s. revokes l s && true) (revokes l) (λ s. and_true (revokes l s)) after

    pub stands_as : StandsAs facts_before facts_after (rekey was l) l
    stands_as = record {
      standing = stands_same was was_once before after count_moved (version_of c.primary.body) (created_of c.primary.body) l revoked_same;
      state = state_same was was_once before after count_moved (version_of c.primary.body) (created_of c.primary.body) l revoked_same;
      reasons = λ reason. seeks_same says (λ o. is_same_number o reason) l stays_there;
    }

  -- ---- where nothing is put elsewhere the first reason is the same
  module _ (none : flat_map left_behind (map (component_on known (print_of c.primary.body) v issuers c.primary.body) c.components) ≡ []) where
    no_revocation : (k : Key) (t : SignatureType) (o : Option ℕ) → is_self_type t ≡ true → is_revocation_of k t o ≡ false
    no_revocation k types.KeyRevocation o e = absurd (false≢true e)
    no_revocation k types.SubkeyRevocation o e = absurd (false≢true e)
    no_revocation k other o e = refl

    not_of_it : (k : Key) (t : SignatureType) (m : ℕ) → revokes_key t ≡ false → is_component k (Some m) ≡ false → is_revocation_of k t (Some m) ≡ false
    not_of_it k types.KeyRevocation m e f = absurd (true≢false e)
    not_of_it k types.SubkeyRevocation m e f = f
    not_of_it k other m e f = refl

    elsewhere : (k : Key) → Lasts k → (m : ℕ) → stays m ≡ false → is_component k (Some m) ≡ false
    elsewhere key.Primary e m f = refl
    elsewhere (key.Subkey n created) e m f = another_one known policy revokers v issuers c n m e f

    reasons_fit : (k : Key) → Lasts k → FitsInPlace stays (reasons_by k)
    reasons_fit k e = record {
      others = λ s f g. no_reason k s (no_revocation k s.kind s.component f);
      gone = λ m s f g h. no_reason k (on (Some m) s) (not_of_it k s.kind m h (elsewhere k e m f));
    }

    moved_reasons : (k l : Key) (q : ℕ → ℕ) → ((s : Statement) → revokes k (moved q s) ≡ revokes l s) → (ss : List Statement) → flat_map (reasons_by k) (map (moved q) ss) ≡ flat_map (reasons_by l) ss
    moved_reasons k l q same [] = refl
    moved_reasons k l q same (s ∷ ss) =
        ap (λ (t : Bool). (if t then s.reason ∷ [] else []) ++ flat_map (reasons_by k) (map (moved q) ss)) (same s)
        ∙ ap (λ (x : List (Option ℕ)). reasons_by l s ++ x) (moved_reasons k l q same ss)

    marked_reasons : (k : Key) (ss : List Statement) → flat_map (reasons_by k) (with_revocations ss) ≡ flat_map (reasons_by k) ss
    marked_reasons k ss = flat_map-map (reasons_by k) (λ s. with_revoked (is_revoked_among ss s) s) ss

    is_moved : (l : Key) (s : Statement) → revokes (rekey was l) (moved was s) ≡ revokes l s
    is_moved l s =
        sym (and_true (revokes (rekey was l) (moved was s))) ∙ revokes_moved_by l s.kind s.component true ∙ and_true (revokes l s)

    pub reason_same : (l : Key) → Lasts (rekey was l) → reason_of facts_before (rekey was l) ≡ reason_of facts_after l
    reason_same l e =
        let k : Key = rekey was l in
        reason_first k before
        ∙ ap first_of
        (sym (moved_reasons k k (λ n. n) (λ s. ap (is_revocation_of k s.kind) (same_number s.component)) before)
        ∙ ap (flat_map (reasons_by k)) before_moved
        ∙ marked_reasons k (all_before known policy revokers v issuers c)
        ∙ fitting_in_place known policy revokers v issuers c (reasons_by k) none (reasons_fit k e)
        ∙ sym (marked_reasons k (all_after known policy revokers v issuers c))
        ∙ ap (flat_map (reasons_by k)) (sym after_moved)
        ∙ moved_reasons k l was (is_moved l) after)
        ∙ sym (reason_first l after)

  -- ---- user IDs and attributes
  vouches_as_moved : (n at : ℕ) (s : Statement) → vouches n at (moved (λ i. i) s) ≡ vouches n at s
  vouches_as_moved n at s = ap (λ (o : Option ℕ). vouches n at (on o s)) (same_number s.component)

  vouches_moved : (n at : ℕ) (s : Statement) → vouches (was n) at (moved was s) ≡ vouches n at s
  vouches_moved n at s = rw (the_same was was_once n s.component) refl

  revokes_as : (n : ℕ) (s : Statement) → revokes_identity n (moved (λ i. i) s) ≡ revokes_identity n s
  revokes_as n s = ap (λ (o : Option ℕ). revokes_identity n (on o s)) (same_number s.component)

  revokes_there : (n : ℕ) (s : Statement) → revokes_identity (was n) (moved was s) ≡ revokes_identity n s
  revokes_there n s = rw (the_same was was_once n s.component) refl

  module _ (n at : ℕ) where
    vouched_same : list_any (vouches (was n) at) before ≡ list_any (vouches n at) after
    vouched_same =
        sym (any_map (moved (λ i. i)) (vouches (was n) at) (vouches (was n) at) (vouches_as_moved (was n) at) before)
        ∙ ap (list_any (vouches (was n) at)) before_moved
        ∙ any_marked known policy revokers v issuers c (vouches (was n) at) (voices_heed known policy revokers v issuers c (vouches (was n) at) (vouches_not (was n) at)).1
        ∙ ap (list_any (vouches (was n) at)) (sym after_moved)
        ∙ any_map (moved was) (vouches (was n) at) (vouches n at) (vouches_moved n at) after

    revoked_there : stays (was n) ≡ true → list_any (revokes_identity (was n)) before ≡ list_any (revokes_identity n) after
    revoked_there e =
        sym (any_map (moved (λ i. i)) (revokes_identity (was n)) (revokes_identity (was n)) (revokes_as (was n)) before)
        ∙ ap (list_any (revokes_identity (was n))) before_moved
        ∙ any_marked known policy revokers v issuers c (revokes_identity (was n)) (identities_heed known policy revokers v issuers c (was n) e)
        ∙ ap (list_any (revokes_identity (was n))) (sym after_moved)
        ∙ any_map (moved was) (revokes_identity (was n)) (revokes_identity n) (revokes_there n) after

    abbrev state_by : Bool → Bool → IdentityState
    state_by t u = if t then identity.Certified else (if u then identity.Revoked else identity.Unbound)

    pub identity_same : stays (was n) ≡ true → identity_of facts_before (was n) at ≡ identity_of facts_after n at
    identity_same e =
        ap (λ (t : Bool). state_by t (list_any (revokes_identity (was n)) before)) vouched_same
        ∙ ap (λ (t : Bool). state_by (list_any (vouches n at) after) t) (revoked_there e)

  -- ---- what doesn't stay
  module _ (n at : ℕ) (goes : stays n ≡ false) where
    another : (i : ℕ) → stays i ≡ true → (i == n) ≡ false
    another i e = false_from_ne_true (i == n) (λ f. true≢false (sym e ∙ ap stays (eqb-true i n f) ∙ goes))

    none_before : (p : Statement → Bool) → ((s : Statement) → is_voice s ≡ false → p s ≡ false) → ((i : ℕ) (s : Statement) → (i == n) ≡ false → p (on (Some i) s) ≡ false) → ((s : Statement) → p (on None s) ≡ false)
        → ((s : Statement) → p (moved (λ i. i) s) ≡ p s) → list_any p before ≡ false
    none_before p voices others own same =
        sym (any_map (moved (λ i. i)) p p same before)
        ∙ ap (list_any p) before_moved
        ∙ none_marked known policy revokers v issuers c p (voices_heed known policy revokers v issuers c p voices).1 (λ i s e. others i s (another i e)) own

    pub never_certified : list_any (vouches n at) before ≡ false
    never_certified = none_before (vouches n at) (vouches_not n at) (λ i s e. and_right (certifies s.kind) _ (and_left (i == n) _ e)) (λ s. and_right (certifies s.kind) _ refl) (vouches_as_moved n at)

    abbrev binds_it : Statement → Bool
    binds_it s = counts_at (λ r. binds r.kind && is_the n r.component) true false at s

    no_binding : (s : Statement) → is_self_type s.kind ≡ false → (binds s.kind && is_the n s.component) ≡ false
    no_binding s e = and_left (binds s.kind) _ (or_parts (binds s.kind) (is_direct s.kind) (or_parts (certifies s.kind) (binds s.kind || is_direct s.kind) e).1).0

    none_bind : list_any binds_it before ≡ false
    none_bind = none_before binds_it (silent (λ r. binds r.kind && is_the n r.component) true false at no_binding) (λ i s e. and_left (binds s.kind && (i == n)) _ (and_right (binds s.kind) (i == n) e)) (λ s. and_left (binds s.kind && false) _ (and_right (binds s.kind) false refl))
        (λ s. ap (λ (o : Option ℕ). counts_at (λ r. binds r.kind && is_the n r.component) true false at (on o s)) (same_number s.component))

    filter_none : (p : Statement → Bool) (ss : List Statement) → list_any p ss ≡ false → filter p ss ≡ []
    filter_none p [] e = refl
    filter_none p (s ∷ ss) e =
        let parts = or_parts (p s) (list_any p ss) e in
        ap (λ (t : Bool). if t then s ∷ filter p ss else filter p ss) parts.0 ∙ filter_none p ss parts.1

    or_true : (a : Bool) → (a || true) ≡ true
    or_true true = refl
    or_true false = refl

    unbound : (created : ℕ) → is_unbound_at facts_before (key.Subkey n created) at ≡ true
    unbound created =
        ap (λ (l : List Statement). not (is_nonempty (speakers facts_before key.Primary at)) || not (is_nonempty (made_then (latest l) l))) (filter_none binds_it before none_bind)
        ∙ or_true (not (is_nonempty (speakers facts_before key.Primary at)))

    pub never_usable : (created : ℕ) → is_some (unusable facts_before (key.Subkey n created) at) ≡ true
    never_usable created =
        first (applies facts_before (key.Subkey n created) at at Revoked) (applies facts_before (key.Subkey n created) at at Early) (applies facts_before (key.Subkey n created) at at Unbound) (applies facts_before (key.Subkey n created) at at Expired)
        (ap (λ (t : Bool). t || is_unbound_at facts_before (key.Subkey n created) at) (unbound created)) where
          first : (a b c d : Bool) → c ≡ true → is_some (if a then Some Revoked else (if b then Some Early else (if c then Some Unbound else (if d then Some Expired else None)))) ≡ true
          first true b c d e = refl
          first false true c d e = refl
          first false false true d e = refl
          first false false false d e = absurd (false≢true e)
