-- How parts stand rests on the newest, so what is outdated may go.
use Rattle.std.proofs.Common.{◌≡◌, ◌∙◌, ◌++◌, ℕ, max, ◌==◌, nat_lt, List, [], ◌∷◌, Bool, true, false, not, ◌&&◌, ◌||◌, cond, Option, Some, None, find, is_some, refl, sym, ap, All}
use Rattle.std.specs.List.{filter, list_all, list_any}
use Rattle.std.specs.Option.{option_and_then}
use Rattle.std.proofs.lemmas.Bool.{and_parts, false≢true}
use Rattle.std.proofs.lemmas.List.Elements.{All-head, All-tail, All-weaker}
use Rattle.opgp_octets.specs.declared.signature_type.SignatureType.{SignatureType}
use Rattle.opgp_octets.specs.declared.signature_type.SignatureType.TheVariants as types
use Rattle.opgp_valid.specs.Facts.{FactsValue}
use Rattle.opgp_valid.specs.Group.{binds, certifies, is_certification_on, is_direct_on, is_primary, is_the}
use Rattle.opgp_valid.specs.Laws.{with_statements}
use Rattle.opgp_valid.specs.Saying.{is_nonempty}
use Rattle.opgp_valid.specs.Speaking.{end_in, later, latest, made_at, sooner, uses_in}
use Rattle.opgp_valid.specs.Standing.{applies, created_of, has_ended, heard, is_expired_at, is_revocation_of, is_subkey, is_unbacked_at, is_unbound_at, limiters, limiting, must_stand, revokes, speakers, spoken}
use Rattle.opgp_valid.specs.State.{end_at, identity_of, reason_of, revokes_certification, revokes_identity, state_of, unusable, uses_at, uses_heard, vouches, without_signing}
use Rattle.opgp_valid.specs.Statement.{has_back, is_alive, is_good, lives_if}
use Rattle.opgp_valid.specs.Uses.{no_use}
use Rattle.opgp_valid.specs.declared.facts.Key.{Key}
use Rattle.opgp_valid.specs.declared.facts.Key.TheVariants as key
use Rattle.opgp_valid.specs.declared.state.IdentityState.TheVariants as identity
use Rattle.opgp_valid.specs.declared.statement.Life.{Life}
use Rattle.opgp_valid.specs.declared.statement.Statement.{Statement}
use Rattle.opgp_valid.specs.declared.uses.Uses.{Uses}
use Rattle.opgp_valid.specs.declared.why.Why.{Why}
use Rattle.opgp_valid.specs.declared.why.Why.TheVariants.{Future, Revoked, Early, Unbound, Expired, Flags, Back}
use Rattle.opgp_valid.proofs.Alike.{find_agree, or_same}
use Rattle.opgp_bound.specs.Newest.{is_before, newest_made}
use Rattle.opgp_bound.specs.Outdated.{AreOnParts, AreOutdated, is_outdated, without}
use Rattle.opgp_bound.proofs.Outdated.{latest_same, never_before, newest_current_same, newest_same, plain_binding, plain_certification, plain_direct, plain_identity, plain_user_id, speaks_by}
use Rattle.opgp_bound.proofs.Rivals.{no_sort}

-- ---- what no newer one outdates
-- a revocation of a key, or of a certification
unsorted_revocation : (k : Key) (t : SignatureType) (o : Option ℕ) (at : ℕ) (ss : List Statement) → is_revocation_of k t o ≡ true → newest_made at ss o t ≡ None
unsorted_revocation k types.KeyRevocation o at ss e = no_sort at ss o
unsorted_revocation k types.SubkeyRevocation o at ss e = no_sort at ss o
unsorted_revocation k other o at ss e = absurd (false≢true e)

pub unsorted_certification : (t : SignatureType) (o : Option ℕ) (at : ℕ) (ss : List Statement) → revokes_certification t ≡ true → newest_made at ss o t ≡ None
unsorted_certification types.CertificationRevocation o at ss e = no_sort at ss o
unsorted_certification other o at ss e = absurd (false≢true e)

found_without : (q p : Statement → Bool) (xs : List Statement) → All (λ s. p s ≡ true → q s ≡ true) xs → find p (filter q xs) ≡ find p xs
found_without q p [] h = refl
found_without q p (s ∷ xs) h = step (q s) (p s) refl refl (found_without q p xs (All-tail (λ r. p r ≡ true → q r ≡ true) s xs h)) where
  step : (t u : Bool) → q s ≡ t → p s ≡ u → find p (filter q xs) ≡ find p xs → find p (cond t (s ∷ filter q xs) (filter q xs)) ≡ cond u (Some s) (find p xs)
  step true true e f r = rw f refl
  step true false e f r = rw f r
  step false true e f r = absurd (false≢true (sym e ∙ All-head (λ r. p r ≡ true → q r ≡ true) s xs h f))
  step false false e f r = r

pub any_without : (q p : Statement → Bool) (xs : List Statement) → All (λ s. p s ≡ true → q s ≡ true) xs → list_any p (filter q xs) ≡ list_any p xs
any_without q p [] h = refl
any_without q p (s ∷ xs) h = step (q s) (p s) refl refl (any_without q p xs (All-tail (λ r. p r ≡ true → q r ≡ true) s xs h)) where
  step : (t u : Bool) → q s ≡ t → p s ≡ u → list_any p (filter q xs) ≡ list_any p xs → list_any p (cond t (s ∷ filter q xs) (filter q xs)) ≡ (u || list_any p xs)
  step true true e f r = rw f refl
  step true false e f r = rw f r
  step false true e f r = absurd (false≢true (sym e ∙ All-head (λ r. p r ≡ true → q r ≡ true) s xs h f))
  step false false e f r = r

-- ---- what speaks, was made at some time
made_some : (at : ℕ) (s : Statement) → is_alive at s ≡ true → is_some (made_at s) ≡ true
made_some at s e = step s.life refl where
  step : (o : Option Life) → s.life ≡ o → is_some (made_at s) ≡ true
  step None q = absurd (false≢true (sym (ap (lives_if at) q) ∙ e))
  step (Some l) q = rw q refl

some_later : (a b : Option ℕ) → is_some a ≡ true → true ≡ is_some (later a b)
some_later None b e = absurd (false≢true e)
some_later (Some a) None e = refl
some_later (Some a) (Some b) e = refl

last_of : (a b c d e f : Bool) → (a && (b && (c && (d && (e && f))))) ≡ true → f ≡ true
last_of true true true true true f h = h
last_of false b c d e f h = absurd (false≢true h)
last_of true false c d e f h = absurd (false≢true h)
last_of true true false d e f h = absurd (false≢true h)
last_of true true true false e f h = absurd (false≢true h)
last_of true true true true false f h = absurd (false≢true h)

some_speaks : (inn : Statement → Bool) (b m : Bool) (at : ℕ) (ss : List Statement) → list_any (speaks_by inn b m at) ss ≡ is_some (latest (filter (speaks_by inn b m at) ss))
some_speaks inn b m at [] = refl
some_speaks inn b m at (s ∷ ss) = step (speaks_by inn b m at s) refl (some_speaks inn b m at ss) where
  step : (t : Bool) → speaks_by inn b m at s ≡ t → list_any (speaks_by inn b m at) ss ≡ is_some (latest (filter (speaks_by inn b m at) ss)) → (t || list_any (speaks_by inn b m at) ss) ≡ is_some (latest (cond t (s ∷ filter (speaks_by inn b m at) ss) (filter (speaks_by inn b m at) ss)))
  step true e r = some_later (made_at s) (latest (filter (speaks_by inn b m at) ss)) (made_some at s (last_of (inn s) _ _ s.is_understood (is_primary s.author) (is_alive at s) e))
  step false e r = r

-- the certifications that vouch for a component speak for it
abbrev vouching : ℕ → Statement → Bool
vouching n s = is_certification_on s && is_the n s.component

vouches_is : (n at : ℕ) (s : Statement) → vouches n at s ≡ speaks_by (vouching n) true true at s
vouches_is n at s = step s.component (certifies s.kind) (not s.is_revoked) (is_good s) (s.is_understood && (is_primary s.author && is_alive at s)) where
  step : (o : Option ℕ) (a v g w : Bool) → (a && (is_the n o && (v && (g && w)))) ≡ (((a && is_some o) && is_the n o) && (g && (v && w)))
  step o false v g w = refl
  step None true v g w = refl
  step (Some m) true v g w = inner (m == n) v g where
    inner : (t x y : Bool) → (t && (x && (y && w))) ≡ (t && (y && (x && w)))
    inner false x y = refl
    inner true true true = refl
    inner true true false = refl
    inner true false true = refl
    inner true false false = refl

any_agree : (p q : Statement → Bool) → ((s : Statement) → p s ≡ q s) → (ss : List Statement) → list_any p ss ≡ list_any q ss
any_agree p q h [] = refl
any_agree p q h (s ∷ ss) = or_same (p s) (q s) (list_any p ss) (list_any q ss) (h s) (any_agree p q h ss)

joined : (a b c d : List Statement) → a ≡ b → c ≡ d → a ++ c ≡ b ++ d
joined a b c d e h = rw (e, h) refl

module _ (at : ℕ) (ss : List Statement) (goes : Statement → Bool) (out : AreOutdated at ss goes) (is_user_id : Option ℕ → Bool) (users : AreOnParts is_user_id ss) where
  abbrev left : List Statement
  left = without goes ss

  never_goes : (s : Statement) → (goes s ≡ true → is_outdated at ss s ≡ true) → newest_made at ss s.component s.kind ≡ None → not (goes s) ≡ true
  never_goes s out_if e = step (goes s) refl where
    step : (t : Bool) → goes s ≡ t → not t ≡ true
    step false f = refl
    step true f = absurd (false≢true (sym (ap (is_before (made_at s)) e ∙ never_before (made_at s)) ∙ out_if f))

  -- ---- what revokes
  abbrev Goes : Statement → Type 0
  Goes s = goes s ≡ true → is_outdated at ss s ≡ true

  stays_revoking : (k : Key) → All (λ s. revokes k s ≡ true → not (goes s) ≡ true) ss
  stays_revoking k = All-weaker Goes (λ s. revokes k s ≡ true → not (goes s) ≡ true) (λ s g e. never_goes s g (unsorted_revocation k s.kind s.component at ss e)) ss out

  stays_revoking_one : (n : ℕ) → All (λ s. revokes_identity n s ≡ true → not (goes s) ≡ true) ss
  stays_revoking_one n = All-weaker Goes (λ s. revokes_identity n s ≡ true → not (goes s) ≡ true) (λ s g e. never_goes s g (unsorted_certification s.kind s.component at ss (and_parts (revokes_certification s.kind) (is_the n s.component && is_primary s.author) e).0)) ss out

  -- ---- who is heard
  main_certified : (s : Statement) → (is_certification_on s && s.is_main) ≡ true → is_certification_on s ≡ true
  main_certified s e = (and_parts (is_certification_on s) s.is_main e).0

  expiring_certified : (s : Statement) → (is_certification_on s && not (s.key_lasts == 0)) ≡ true → is_certification_on s ≡ true
  expiring_certified s e = (and_parts (is_certification_on s) (not (s.key_lasts == 0)) e).0

  module _ (version created : ℕ) where
    abbrev facts_a : FactsValue
    facts_a = with_statements version created left

    abbrev facts_b : FactsValue
    facts_b = with_statements version created ss

    spoken_same : (stand : Bool) → spoken facts_a stand at ≡ spoken facts_b stand at
    spoken_same stand = joined _ _ _ _ (newest_same at ss goes out is_user_id users is_direct_on true false plain_direct) (ap (λ (l : List Statement). cond (version == 4) l []) (newest_same at ss goes out is_user_id users (λ s. is_certification_on s && s.is_on_user_id) true stand plain_user_id))

    must_same : must_stand facts_a at ≡ must_stand facts_b at
    must_same = ap is_nonempty (spoken_same true)

    speakers_same : (k : Key) → speakers facts_a k at ≡ speakers facts_b k at
    speakers_same key.Primary = ap (λ (t : Bool). spoken facts_a t at) must_same ∙ spoken_same (must_stand facts_b at)
    speakers_same (key.Subkey n begin) = newest_same at ss goes out is_user_id users (λ s. binds s.kind && is_the n s.component) true false (plain_binding n)

    limiting_same : (stand : Bool) → limiting facts_a stand at ≡ limiting facts_b stand at
    limiting_same stand =
        let direct = newest_same at ss goes out is_user_id users is_direct_on false false plain_direct in
        let certified = newest_same at ss goes out is_user_id users is_certification_on false stand plain_certification in
        search (joined, direct, certified, newest_current_same at ss goes out is_user_id users, main_certified, expiring_certified)

    limiters_same : (k : Key) → limiters facts_a k at ≡ limiters facts_b k at
    limiters_same key.Primary = ap (λ (t : Bool). limiting facts_a t at) must_same ∙ limiting_same (must_stand facts_b at)
    limiters_same (key.Subkey n begin) = newest_same at ss goes out is_user_id users (λ s. binds s.kind && is_the n s.component) false false (plain_binding n)

    heard_same : (k : Key) → heard facts_a k at ≡ heard facts_b k at
    heard_same k = joined _ _ _ _ (speakers_same k) (limiters_same k)

    created_same : (k : Key) → created_of facts_a k ≡ created_of facts_b k
    created_same key.Primary = refl
    created_same (key.Subkey n begin) = refl

    -- ---- how keys stand
    module _ (k : Key) where
      unbound_same : is_unbound_at facts_a k at ≡ is_unbound_at facts_b k at
      unbound_same = or_same _ _ _ _ (ap (λ (l : List Statement). not (is_nonempty l)) (speakers_same key.Primary)) (ap (λ (l : List Statement). not (is_nonempty l)) (speakers_same k))

      expired_same : is_expired_at facts_a k at ≡ is_expired_at facts_b k at
      expired_same = or_same _ _ _ _
          (ap (λ (l : List Statement). has_ended at (end_in created l)) (heard_same key.Primary))
          (ap (λ (n : ℕ). has_ended at (end_in n (heard facts_a k at))) (created_same k) ∙ ap (λ (l : List Statement). has_ended at (end_in (created_of facts_b k) l)) (heard_same k))

      applies_same : (why : Why) → applies facts_a k at at why ≡ applies facts_b k at at why
      applies_same Future = refl
      applies_same Revoked = any_without (λ s. not (goes s)) (revokes k) ss (stays_revoking k)
      applies_same Early = ap (λ (n : ℕ). nat_lt at created || nat_lt at n) (created_same k)
      applies_same Unbound = or_same _ _ _ _ unbound_same unbound_same
      applies_same Expired = or_same _ _ _ _ expired_same expired_same
      applies_same Flags = or_same _ _ _ _ flags_same flags_same where
        flags_same : (not (list_any (λ s. s.has_flags) (speakers facts_a k at)) || not (uses_in (heard facts_a k at)).sign) ≡ (not (list_any (λ s. s.has_flags) (speakers facts_b k at)) || not (uses_in (heard facts_b k at)).sign)
        flags_same = or_same _ _ _ _ (ap (λ (l : List Statement). not (list_any (λ s. s.has_flags) l)) (speakers_same k)) (ap (λ (l : List Statement). not (uses_in l).sign) (heard_same k))
      applies_same Back = or_same _ _ _ _ back_same back_same where
        back_same : is_unbacked_at facts_a k at ≡ is_unbacked_at facts_b k at
        back_same = ap (λ (l : List Statement). is_subkey k && not (list_all (has_back at) l)) (heard_same k)

      unbacked_same : is_unbacked_at facts_a k at ≡ is_unbacked_at facts_b k at
      unbacked_same = ap (λ (l : List Statement). is_subkey k && not (list_all (has_back at) l)) (heard_same k)

      uses_heard_same : uses_heard facts_a k at ≡ uses_heard facts_b k at
      uses_heard_same =
          ap (λ (l : List Statement). cond (list_any (λ s. s.has_flags) l) (uses_in (heard facts_a k at)) no_use) (speakers_same k)
          ∙ ap (λ (l : List Statement). cond (list_any (λ s. s.has_flags) (speakers facts_b k at)) (uses_in l) no_use) (heard_same k)

      uses_same : uses_at facts_a k at ≡ uses_at facts_b k at
      uses_same =
          ap (λ (t : Bool). cond t (without_signing (uses_heard facts_a k at)) (uses_heard facts_a k at)) unbacked_same
          ∙ ap (λ (u : Uses). cond (is_unbacked_at facts_b k at) (without_signing u) u) uses_heard_same

      end_same : end_at facts_a k at ≡ end_at facts_b k at
      end_same =
          ap (λ (l : List Statement). sooner (end_in created l) (end_in (created_of facts_a k) (heard facts_a k at))) (heard_same key.Primary)
          ∙ ap (λ (n : ℕ). sooner (end_in created (heard facts_b key.Primary at)) (end_in n (heard facts_a k at))) (created_same k)
          ∙ ap (λ (l : List Statement). sooner (end_in created (heard facts_b key.Primary at)) (end_in (created_of facts_b k) l)) (heard_same k)

      unusable_same : unusable facts_a k at ≡ unusable facts_b k at
      unusable_same = find_agree (applies facts_a k at at) (applies facts_b k at at) applies_same (Revoked ∷ Early ∷ Unbound ∷ Expired ∷ [])

      reason_same : reason_of facts_a k ≡ reason_of facts_b k
      reason_same = ap (λ (o : Option Statement). option_and_then (λ s. s.reason) o) (found_without (λ s. not (goes s)) (revokes k) ss (stays_revoking k))

      pub state_stays : state_of facts_a k at ≡ state_of facts_b k at
      state_stays =
          let begin : ℕ = max created (created_of facts_a k) in
          ap (λ (why : Option Why). record { why = why; uses = uses_at facts_a k at; begin = begin; end = end_at facts_a k at; reason = reason_of facts_a k }) unusable_same
          ∙ ap (λ (u : Uses). record { why = unusable facts_b k at; uses = u; begin = begin; end = end_at facts_a k at; reason = reason_of facts_a k }) uses_same
          ∙ ap (λ (n : ℕ). record { why = unusable facts_b k at; uses = uses_at facts_b k at; begin = max created n; end = end_at facts_a k at; reason = reason_of facts_a k }) (created_same k)
          ∙ ap (λ (e : Option ℕ). record { why = unusable facts_b k at; uses = uses_at facts_b k at; begin = max created (created_of facts_b k); end = e; reason = reason_of facts_a k }) end_same
          ∙ ap (λ (r : Option ℕ). record { why = unusable facts_b k at; uses = uses_at facts_b k at; begin = max created (created_of facts_b k); end = end_at facts_b k at; reason = r }) reason_same

    -- ---- how user IDs and attributes stand
    vouched_same : (n : ℕ) → list_any (vouches n at) left ≡ list_any (vouches n at) ss
    vouched_same n =
        any_agree (vouches n at) (speaks_by (vouching n) true true at) (vouches_is n at) left ∙ some_speaks (vouching n) true true at left
        ∙ ap is_some (latest_same at ss goes out is_user_id users (vouching n) true true (plain_identity n))
        ∙ sym (any_agree (vouches n at) (speaks_by (vouching n) true true at) (vouches_is n at) ss ∙ some_speaks (vouching n) true true at ss)

    pub identity_stays : (n : ℕ) → identity_of facts_a n at ≡ identity_of facts_b n at
    identity_stays n =
        ap (λ (t : Bool). cond t identity.Certified (cond (list_any (revokes_identity n) left) identity.Revoked identity.Unbound)) (vouched_same n)
        ∙ ap (λ (t : Bool). cond (list_any (vouches n at) ss) identity.Certified (cond t identity.Revoked identity.Unbound)) (any_without (λ s. not (goes s)) (revokes_identity n) ss (stays_revoking_one n))
