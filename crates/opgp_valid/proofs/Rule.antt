-- The rule, by the facts that it says.
use Rattle.std.proofs.Common.{◌≡◌, ◌∙◌, ◌↔◌, ◌⊎◌, inl, inr, ℕ, ◌+◌, ◌==◌, nat_lt, List, [], ◌∷◌, ◌++◌, Bool, true, false, not, cond, Option, Some, None, refl, sym, ap, subst}
use Rattle.std.specs.List.{Contains, list_any}
use Rattle.std.proofs.lemmas.Bool.{and_parts, eq-eqb, eqb-true, false≢true, le-ltb, leb-false, lt-leb, ltb-false, or_from, or_parts, true≢false}
use Rattle.std.proofs.lemmas.List.Elements.{Contains-append_cases, Contains-append_left, Contains-append_right}
use Rattle.opgp_octets.specs.declared.signature_type.SignatureType.{SignatureType}
use Rattle.opgp_octets.specs.declared.signature_type.SignatureType.TheVariants as types
use Rattle.opgp_valid.specs.Saying.{is_nonempty}
use Rattle.opgp_valid.specs.Speaking.{end_in, newest, newest_current, uses_in}
use Rattle.opgp_valid.specs.Standing.{applies, created_of, has_ended, heard, is_expired_at, is_revocation_of, is_revoked, is_unbacked_at, is_unbound_at, limiters, limiting, may_not_sign_at, must_stand, revokes, speakers, spoken, standing_of}
use Rattle.opgp_valid.specs.Statement.{end_of, has_back}
use Rattle.opgp_valid.specs.Group.{any, good, is_certification_on, is_in, kept}
use Rattle.opgp_valid.specs.Stands.{HasUnrevoked, IsBacked, IsHeard, IsLimiter, IsLimiting, IsNewest, IsNewestCurrent, IsSpeaker, IsSpoken, Lasts, OfThose, Revokes, Stands, StandsAt}
use Rattle.opgp_valid.specs.Facts.{FactsValue}
use Rattle.opgp_valid.specs.declared.facts.Key.{Key}
use Rattle.opgp_valid.specs.declared.facts.Key.TheVariants as key
use Rattle.opgp_valid.specs.declared.group.Sort.TheVariants.{Direct, UserIds, Certifications, Main, Expiring, Bindings}
use Rattle.opgp_valid.specs.declared.statement.Statement.{Statement}
use Rattle.opgp_valid.specs.declared.why.Why.TheVariants.{Future, Revoked, Early, Unbound, Expired, Flags, Back}
use Rattle.opgp_valid.proofs.Alike.{ended_some, not_all, not_signing}
use Rattle.opgp_valid.proofs.Members.{member_here, none_in, none_passes, passes_none, passes_some, some_passes}
use Rattle.opgp_valid.proofs.Newest.{from_force, in_force, is_newest_current, is_the_one, newest_current_is, newest_is_newest, the_is}

-- ---- what revokes a key
revokes_is : (k : Key) (t : SignatureType) (component : Option ℕ) (s : Statement) → s.kind ≡ t → s.component ≡ component → is_revocation_of k t component ≡ true → Revokes k s
revokes_is key.Primary types.KeyRevocation component s e o h = e
revokes_is (key.Subkey n created) types.KeyRevocation component s e o h = inl e
revokes_is key.Primary types.SubkeyRevocation component s e o h = absurd (false≢true h)
revokes_is (key.Subkey n created) types.SubkeyRevocation component s e o h = inr (e, o ∙ the_is n component h)
revokes_is k other component s e o h = absurd (false≢true h)

is_revokes : (k : Key) (s : Statement) → Revokes k s → revokes k s ≡ true
is_revokes key.Primary s e = ap (λ t. is_revocation_of key.Primary t s.component) e
is_revokes (key.Subkey n created) s (inl e) = ap (λ t. is_revocation_of (key.Subkey n created) t s.component) e
is_revokes (key.Subkey n created) s (inr (e, o)) = ap (λ t. is_revocation_of (key.Subkey n created) t s.component) e ∙ is_the_one n s.component o

unrevoked : (f : FactsValue) (k : Key) → is_revoked f k ≡ false → (s : Statement) → Contains f.statements s → Revokes k s → ⊥
unrevoked f k e s h r = true≢false (sym (is_revokes k s r) ∙ none_passes (revokes k) f.statements e s h)

is_unrevoked : (f : FactsValue) (k : Key) → ((s : Statement) → Contains f.statements s → Revokes k s → ⊥) → is_revoked f k ≡ false
is_unrevoked f k h = passes_none (revokes k) f.statements (λ s c. other s c (revokes k s) refl) where
  other : (s : Statement) → Contains f.statements s → (t : Bool) → revokes k s ≡ t → t ≡ false
  other s c true e = absurd (h s c (revokes_is k s.kind s.component s refl refl e))
  other s c false e = refl

-- ---- something is said
some_said : (ss : List Statement) → not (is_nonempty ss) ≡ false → (s : Statement) × Contains ss s
some_said [] e = absurd (true≢false e)
some_said (s ∷ ss) e = (s, member_here s ss)

said_some : (ss : List Statement) (s : Statement) → Contains ss s → not (is_nonempty ss) ≡ false
said_some [] s h = absurd (none_in s h)
said_some (r ∷ ss) s h = refl

signs_is : (b : Bool) → not b ≡ false → b ≡ true
signs_is true e = refl
signs_is false e = absurd (true≢false e)

-- ---- who is heard
-- with what is revoked, or without
module _ (f : FactsValue) (at : ℕ) (stand : Bool) (s : Statement) where
  -- of a group of certifications
  main_ones : (r : Statement) → is_in Main r ≡ true → is_certification_on r ≡ true
  main_ones r e = (and_parts (is_certification_on r) r.is_main e).0

  expiring_ones : (r : Statement) → is_in Expiring r ≡ true → is_certification_on r ≡ true
  expiring_ones r e = (and_parts (is_certification_on r) (not (r.key_lasts == 0)) e).0

  spoken_is : Contains (spoken f stand at) s → IsSpoken f stand at s
  spoken_is h = elim (Contains-append_cases (newest (good Direct) at f.statements) _ s h) [ inl a ↦ inl ((newest_is_newest (good Direct) at f.statements s).0 a) | inr b ↦ inr (certified (f.version == 4) refl b) ] where
    certified : (t : Bool) → (f.version == 4) ≡ t → Contains (cond t (newest (kept stand (good UserIds)) at f.statements) []) s → (f.version ≡ 4) × IsNewest (kept stand (good UserIds)) at f.statements s
    certified true e c = (eqb-true f.version 4 e, (newest_is_newest (kept stand (good UserIds)) at f.statements s).0 c)
    certified false e c = absurd (none_in s c)

  is_spoken : IsSpoken f stand at s → Contains (spoken f stand at) s
  is_spoken (inl h) = Contains-append_left (newest (good Direct) at f.statements) _ s ((newest_is_newest (good Direct) at f.statements s).1 h)
  is_spoken (inr h) = Contains-append_right (newest (good Direct) at f.statements) _ s (rw (eq-eqb f.version 4 h.0) ((newest_is_newest (kept stand (good UserIds)) at f.statements s).1 h.1))

  -- the parts of those that limit
  abbrev certified_ones : List Statement
  certified_ones = newest (kept stand (any Certifications)) at f.statements

  abbrev main_list : List Statement
  main_list = newest_current (kept stand (any Main)) at f.statements

  abbrev expiring_list : List Statement
  expiring_list = newest_current (kept stand (any Expiring)) at f.statements

  limiting_is : Contains (limiting f stand at) s → IsLimiting f stand at s
  limiting_is h = elim (Contains-append_cases (newest (any Direct) at f.statements) _ s h) [ inl a ↦ inl ((newest_is_newest (any Direct) at f.statements s).0 a) | inr b ↦ inr (second b) ] where
    third : Contains (main_list ++ expiring_list) s → IsNewestCurrent (kept stand (any Main)) at f.statements s ⊎ IsNewestCurrent (kept stand (any Expiring)) at f.statements s
    third h = elim (Contains-append_cases main_list expiring_list s h) [ inl a ↦ inl (newest_current_is (kept stand (any Main)) main_ones at f.statements s a) | inr b ↦ inr (newest_current_is (kept stand (any Expiring)) expiring_ones at f.statements s b) ]

    second : Contains (certified_ones ++ (main_list ++ expiring_list)) s → IsNewest (kept stand (any Certifications)) at f.statements s ⊎ (IsNewestCurrent (kept stand (any Main)) at f.statements s ⊎ IsNewestCurrent (kept stand (any Expiring)) at f.statements s)
    second h = elim (Contains-append_cases certified_ones _ s h) [ inl a ↦ inl ((newest_is_newest (kept stand (any Certifications)) at f.statements s).0 a) | inr b ↦ inr (third b) ]

  is_limiting : IsLimiting f stand at s → Contains (limiting f stand at) s
  is_limiting (inl h) = Contains-append_left (newest (any Direct) at f.statements) _ s ((newest_is_newest (any Direct) at f.statements s).1 h)
  is_limiting (inr (inl h)) = Contains-append_right (newest (any Direct) at f.statements) _ s (Contains-append_left certified_ones _ s ((newest_is_newest (kept stand (any Certifications)) at f.statements s).1 h))
  is_limiting (inr (inr (inl h))) = Contains-append_right (newest (any Direct) at f.statements) _ s (Contains-append_right certified_ones _ s (Contains-append_left main_list expiring_list s (is_newest_current (kept stand (any Main)) main_ones at f.statements s h)))
  is_limiting (inr (inr (inr h))) = Contains-append_right (newest (any Direct) at f.statements) _ s (Contains-append_right certified_ones _ s (Contains-append_right main_list expiring_list s (is_newest_current (kept stand (any Expiring)) expiring_ones at f.statements s h)))

module _ (f : FactsValue) (at : ℕ) where
  -- something that isn't revoked speaks
  has_unrevoked : must_stand f at ≡ true → HasUnrevoked f at
  has_unrevoked e = let x = some_said (spoken f true at) (ap not e) in (x.0, spoken_is f at true x.0 x.1)

  unrevoked_has : HasUnrevoked f at → must_stand f at ≡ true
  unrevoked_has h = signs_is (must_stand f at) (said_some (spoken f true at) h.0 (is_spoken f at true h.0 h.1))

  of_those : (holds : Bool → Type 0) → holds (must_stand f at) → OfThose f at holds
  of_those holds h = step (must_stand f at) refl h where
    step : (t : Bool) → must_stand f at ≡ t → holds t → OfThose f at holds
    step true e x = inl (has_unrevoked e, x)
    step false e x = inr ((λ u. true≢false (sym (unrevoked_has u) ∙ e)), x)

  those_of : (holds : Bool → Type 0) → OfThose f at holds → holds (must_stand f at)
  those_of holds (inl h) = subst (λ (t : Bool). holds t) (sym (unrevoked_has h.0)) h.1
  those_of holds (inr h) = step (must_stand f at) refl where
    step : (t : Bool) → must_stand f at ≡ t → holds t
    step true e = absurd (h.0 (has_unrevoked e))
    step false e = h.1

module _ (f : FactsValue) (at : ℕ) (s : Statement) where
  speaker : (k : Key) → Contains (speakers f k at) s → IsSpeaker f k at s
  speaker key.Primary h = of_those f at (λ stand. IsSpoken f stand at s) (spoken_is f at (must_stand f at) s h)
  speaker (key.Subkey n created) h = (newest_is_newest (good (Bindings n)) at f.statements s).0 h

  is_speaker : (k : Key) → IsSpeaker f k at s → Contains (speakers f k at) s
  is_speaker key.Primary h = is_spoken f at (must_stand f at) s (those_of f at (λ stand. IsSpoken f stand at s) h)
  is_speaker (key.Subkey n created) h = (newest_is_newest (good (Bindings n)) at f.statements s).1 h

  limiter : (k : Key) → Contains (limiters f k at) s → IsLimiter f k at s
  limiter key.Primary h = of_those f at (λ stand. IsLimiting f stand at s) (limiting_is f at (must_stand f at) s h)
  limiter (key.Subkey n created) h = (newest_is_newest (any (Bindings n)) at f.statements s).0 h

  is_limiter : (k : Key) → IsLimiter f k at s → Contains (limiters f k at) s
  is_limiter key.Primary h = is_limiting f at (must_stand f at) s (those_of f at (λ stand. IsLimiting f stand at s) h)
  is_limiter (key.Subkey n created) h = (newest_is_newest (any (Bindings n)) at f.statements s).1 h

  one_heard : (k : Key) → Contains (heard f k at) s → IsHeard f k at s
  one_heard k h = elim (Contains-append_cases (speakers f k at) (limiters f k at) s h) [ inl a ↦ inl (speaker k a) | inr b ↦ inr (limiter k b) ]

  is_heard : (k : Key) → IsHeard f k at s → Contains (heard f k at) s
  is_heard k (inl h) = Contains-append_left (speakers f k at) (limiters f k at) s (is_speaker k h)
  is_heard k (inr h) = Contains-append_right (speakers f k at) (limiters f k at) s (is_limiter k h)

-- ---- what they say
lasts_is : (at created : ℕ) (s : Statement) → has_ended at (end_of created s) ≡ false → Lasts created at s
lasts_is at created s = step (s.key_lasts == 0) refl where
  step : (t : Bool) → (s.key_lasts == 0) ≡ t → has_ended at (cond t None (Some (created + s.key_lasts))) ≡ false → Lasts created at s
  step true e h = inl (eqb-true s.key_lasts 0 e)
  step false e h = inr (leb-false (created + s.key_lasts) at h)

is_lasts : (at created : ℕ) (s : Statement) → Lasts created at s → has_ended at (end_of created s) ≡ false
is_lasts at created s (inl e) = rw (eq-eqb s.key_lasts 0 e) refl
is_lasts at created s (inr l) = step (s.key_lasts == 0) where
  step : (t : Bool) → has_ended at (cond t None (Some (created + s.key_lasts))) ≡ false
  step true = refl
  step false = lt-leb (created + s.key_lasts) at l

each_lasts : (at created : ℕ) (ss : List Statement) → has_ended at (end_in created ss) ≡ false → (s : Statement) → Contains ss s → Lasts created at s
each_lasts at created ss e s h = lasts_is at created s (none_passes (λ r. has_ended at (end_of created r)) ss (sym (ended_some at created ss) ∙ e) s h)

lasts_each : (at created : ℕ) (ss : List Statement) → ((s : Statement) → Contains ss s → Lasts created at s) → has_ended at (end_in created ss) ≡ false
lasts_each at created ss h = ended_some at created ss ∙ passes_none (λ r. has_ended at (end_of created r)) ss (λ s c. is_lasts at created s (h s c))

each_signs : (ss : List Statement) → not (uses_in ss).sign ≡ false → (s : Statement) → Contains ss s → s.uses.sign ≡ true
each_signs ss e s h = signs_is s.uses.sign (none_passes (λ r. not r.uses.sign) ss (sym (not_signing ss) ∙ e) s h)

signs_each : (ss : List Statement) → ((s : Statement) → Contains ss s → s.uses.sign ≡ true) → not (uses_in ss).sign ≡ false
signs_each ss h = not_signing ss ∙ passes_none (λ r. not r.uses.sign) ss (λ s c. ap not (h s c))

module _ (f : FactsValue) (at : ℕ) where
  each_backed : (k : Key) → is_unbacked_at f k at ≡ false → (s : Statement) → IsHeard f k at s → IsBacked k at s
  each_backed key.Primary e s h = tt
  each_backed (key.Subkey n created) e s h =
      let ss : List Statement = heard f (key.Subkey n created) at in
      in_force at s.back (signs_is (has_back at s) (none_passes (λ r. not (has_back at r)) ss (sym (not_all (has_back at) ss) ∙ e) s (is_heard f at s (key.Subkey n created) h)))

  backed_each : (k : Key) → ((s : Statement) → IsHeard f k at s → IsBacked k at s) → is_unbacked_at f k at ≡ false
  backed_each key.Primary h = refl
  backed_each (key.Subkey n created) h =
      let ss : List Statement = heard f (key.Subkey n created) at in
      not_all (has_back at) ss ∙ passes_none (λ r. not (has_back at r)) ss (λ s c. ap not (from_force at s.back (h s (one_heard f at s (key.Subkey n created) c))))

  module _ (k : Key) where
    stands_at : is_unbound_at f k at ≡ false → is_expired_at f k at ≡ false → may_not_sign_at f k at ≡ false → is_unbacked_at f k at ≡ false → StandsAt f k at
    stands_at u e g b =
        let said = or_parts (not (is_nonempty (speakers f key.Primary at))) (not (is_nonempty (speakers f k at))) u in
        let last = or_parts (has_ended at (end_in f.created (heard f key.Primary at))) (has_ended at (end_in (created_of f k) (heard f k at))) e in
        let flags = or_parts (not (list_any (λ s. s.has_flags) (speakers f k at))) (not (uses_in (heard f k at)).sign) g in
        let p = some_said (speakers f key.Primary at) said.0 in
        let o = some_said (speakers f k at) said.1 in
        let q = some_passes (λ s. s.has_flags) (speakers f k at) (signs_is (list_any (λ s. s.has_flags) (speakers f k at)) flags.0) in
        record {
          primary_said = (p.0, speaker f at p.0 key.Primary p.1);
          said = (o.0, speaker f at o.0 k o.1);
          primary_lasts = λ s h. each_lasts at f.created (heard f key.Primary at) last.0 s (is_heard f at s key.Primary h);
          lasts = λ s h. each_lasts at (created_of f k) (heard f k at) last.1 s (is_heard f at s k h);
          flagged = (q.0, speaker f at q.0 k q.1, q.2);
          signs = λ s h. each_signs (heard f k at) flags.1 s (is_heard f at s k h);
          backed = each_backed k b;
        }

    unbound : StandsAt f k at → is_unbound_at f k at ≡ false
    unbound h = or_from _ _ (said_some (speakers f key.Primary at) h.primary_said.0 (is_speaker f at h.primary_said.0 key.Primary h.primary_said.1)) (said_some (speakers f k at) h.said.0 (is_speaker f at h.said.0 k h.said.1))

    unexpired : StandsAt f k at → is_expired_at f k at ≡ false
    unexpired h = or_from _ _ (lasts_each at f.created (heard f key.Primary at) (λ s c. h.primary_lasts s (one_heard f at s key.Primary c))) (lasts_each at (created_of f k) (heard f k at) (λ s c. h.lasts s (one_heard f at s k c)))

    may_sign : StandsAt f k at → may_not_sign_at f k at ≡ false
    may_sign h = or_from _ _ (ap not (passes_some (λ s. s.has_flags) (speakers f k at) h.flagged.0 (is_speaker f at h.flagged.0 k h.flagged.1) h.flagged.2)) (signs_each (heard f k at) (λ s c. h.signs s (one_heard f at s k c)))

-- ---- the first reason
pub first_none : {A : Type 0} (b : Bool) (x : A) (o : Option A) → cond b (Some x) o ≡ None → (b ≡ false) × (o ≡ None)
first_none true x o e = absurd (cc)
first_none false x o e = (refl, e)

pub none_first : {A : Type 0} (b : Bool) (x : A) (o : Option A) → b ≡ false → o ≡ None → cond b (Some x) o ≡ None
none_first b x o e n = rw e n

module _ (f : FactsValue) (k : Key) (made now : ℕ) where
  none_stands : standing_of f k made now ≡ None → Stands f k made now
  none_stands h =
      let a = first_none (applies f k made now Future) Future _ h in
      let b = first_none (applies f k made now Revoked) Revoked _ a.1 in
      let c = first_none (applies f k made now Early) Early _ b.1 in
      let d = first_none (applies f k made now Unbound) Unbound _ c.1 in
      let e = first_none (applies f k made now Expired) Expired _ d.1 in
      let g = first_none (applies f k made now Flags) Flags _ e.1 in
      let i = first_none (applies f k made now Back) Back None g.1 in
      let early = or_parts (nat_lt made f.created) (nat_lt made (created_of f k)) c.0 in
      let u = or_parts (is_unbound_at f k made) (is_unbound_at f k now) d.0 in
      let x = or_parts (is_expired_at f k made) (is_expired_at f k now) e.0 in
      let m = or_parts (may_not_sign_at f k made) (may_not_sign_at f k now) g.0 in
      let n = or_parts (is_unbacked_at f k made) (is_unbacked_at f k now) i.0 in
      record {
        past = ltb-false now made a.0;
        unrevoked = unrevoked f k b.0;
        primary_created = ltb-false made f.created early.0;
        created = ltb-false made (created_of f k) early.1;
        stood = stands_at f made k u.0 x.0 m.0 n.0;
        stands = stands_at f now k u.1 x.1 m.1 n.1;
      }

  stands_none : Stands f k made now → standing_of f k made now ≡ None
  stands_none h =
      none_first _ _ _ (le-ltb now made h.past)
      (none_first _ _ _ (is_unrevoked f k h.unrevoked)
      (none_first _ _ _ (or_from _ _ (le-ltb made f.created h.primary_created) (le-ltb made (created_of f k) h.created))
      (none_first _ _ _ (or_from _ _ (unbound f made k h.stood) (unbound f now k h.stands))
      (none_first _ _ _ (or_from _ _ (unexpired f made k h.stood) (unexpired f now k h.stands))
      (none_first _ _ _ (or_from _ _ (may_sign f made k h.stood) (may_sign f now k h.stands))
      (none_first _ _ _ (or_from _ _ (backed_each f made k h.stood.backed) (backed_each f now k h.stands.backed)) refl))))))

pub standing_is_stands : (f : FactsValue) (k : Key) (made now : ℕ) → (standing_of f k made now ≡ None) ↔ Stands f k made now
standing_is_stands f k made now = (none_stands f k made now, stands_none f k made now)
