-- The newest that speak, by what holds of them.
use Rattle.std.proofs.Common.{◌≡◌, ◌≢◌, ◌∙◌, ◌⊎◌, ◌↔◌, inl, inr, ℕ, ◌+◌, ◌<◌, ◌≤◌, ◌==◌, nat_le, nat_lt, List, Bool, true, false, not, ◌||◌, Option, Some, None, is_none, is_some, refl, sym, ap, arith}
use Rattle.std.specs.List.{Contains}
use Rattle.std.specs.Option.{option_map}
use Rattle.std.proofs.lemmas.Bool.{and_from, and_parts, eq-eqb, eqb-true, false≢true, le-leb, leb-true, lt-ltb, ltb-true, or_cases, or_left, or_right}
use Rattle.opgp_octets.specs.declared.signature_type.SignatureType.{SignatureType}
use Rattle.opgp_octets.specs.declared.signature_type.SignatureType.TheVariants as types
use Rattle.opgp_valid.specs.Group.{binds, certifies, is_certification_on, is_direct, is_direct_on, is_in, is_primary, is_the, on_component, speaks}
use Rattle.opgp_valid.specs.Speaking.{current, is_current, is_same, latest, latest_on, made_at, made_then, newest, newest_current, speakers}
use Rattle.opgp_valid.specs.Stands.{Certifies, IsCertification, IsCurrent, IsDirect, IsInForce, IsNewest, IsNewestCurrent, IsNoLater, IsOf, Speaks}
use Rattle.opgp_valid.specs.Statement.{is_good, lives, lives_if}
use Rattle.opgp_valid.specs.declared.group.Group.{Group}
use Rattle.opgp_valid.specs.declared.group.Sort.{Sort}
use Rattle.opgp_valid.specs.declared.group.Sort.TheVariants.{Direct, UserIds, Certifications, Main, Expiring, Identity, Bindings}
use Rattle.opgp_valid.specs.declared.statement.Author.{Author}
use Rattle.opgp_valid.specs.declared.statement.Author.TheVariants.{Primary, Revoker}
use Rattle.opgp_valid.specs.declared.statement.Life.{Life}
use Rattle.opgp_valid.specs.declared.statement.Statement.{Statement}
use Rattle.opgp_valid.proofs.Alike.{latest_reaches, reaches}
use Rattle.opgp_valid.proofs.Members.{kept_from, kept_in, passes_some, some_passes}

-- ---- in force
pub in_force : (at : ℕ) (o : Option Life) → lives_if at o ≡ true → IsInForce at o
in_force at None e = absurd (false≢true e)
in_force at (Some life) e =
    let h = and_parts (nat_le life.made at) ((life.lasts == 0) || nat_lt at (life.made + life.lasts)) e in
    record { life = life; is = refl; begun = leb-true life.made at h.0; unexpired = elim (or_cases (life.lasts == 0) (nat_lt at (life.made + life.lasts)) h.1) [ inl z ↦ inl (eqb-true life.lasts 0 z) | inr l ↦ inr (ltb-true at (life.made + life.lasts) l) ] }

lives_from : (at : ℕ) (life : Life) → life.made ≤ at → (life.lasts ≡ 0) ⊎ (at < life.made + life.lasts) → lives at life ≡ true
lives_from at life b (inl z) = and_from _ _ (le-leb life.made at b) (or_left (life.lasts == 0) (nat_lt at (life.made + life.lasts)) (eq-eqb life.lasts 0 z))
lives_from at life b (inr l) = and_from _ _ (le-leb life.made at b) (or_right (life.lasts == 0) (nat_lt at (life.made + life.lasts)) (lt-ltb at (life.made + life.lasts) l))

pub from_force : (at : ℕ) (o : Option Life) → IsInForce at o → lives_if at o ≡ true
from_force at o h = ap (lives_if at) h.is ∙ lives_from at h.life h.begun h.unexpired

-- ---- what it is
direct_is : (t : SignatureType) → is_direct t ≡ true → t ≡ types.DirectKey
direct_is types.DirectKey e = refl
direct_is other e = absurd (false≢true e)

binds_is : (t : SignatureType) → binds t ≡ true → t ≡ types.SubkeyBinding
binds_is types.SubkeyBinding e = refl
binds_is other e = absurd (false≢true e)

certifies_is : (t : SignatureType) → certifies t ≡ true → Certifies t
certifies_is types.GenericCertification e = inl refl
certifies_is types.PersonaCertification e = inr (inl refl)
certifies_is types.CasualCertification e = inr (inr (inl refl))
certifies_is types.PositiveCertification e = inr (inr (inr refl))
certifies_is other e = absurd (false≢true e)

is_certifies : (t : SignatureType) → Certifies t → certifies t ≡ true
is_certifies t (inl e) = ap certifies e
is_certifies t (inr (inl e)) = ap certifies e
is_certifies t (inr (inr (inl e))) = ap certifies e
is_certifies t (inr (inr (inr e))) = ap certifies e

none_is : {A : Type 0} (o : Option A) → is_none o ≡ true → o ≡ None
none_is None e = refl
none_is (Some x) e = absurd (false≢true e)

pub the_is : (n : ℕ) (o : Option ℕ) → is_the n o ≡ true → o ≡ Some n
the_is n None e = absurd (false≢true e)
the_is n (Some m) e = ap Some (eqb-true m n e)

pub is_the_one : (n : ℕ) (o : Option ℕ) → o ≡ Some n → is_the n o ≡ true
is_the_one n o e = ap (is_the n) e ∙ eq-eqb n n refl

primary_is : (a : Author) → is_primary a ≡ true → a ≡ Primary
primary_is Primary e = refl
primary_is Revoker e = absurd (false≢true e)

direct_of : (s : Statement) → is_direct_on s ≡ true → IsDirect s
direct_of s e = let h = and_parts (is_direct s.kind) (is_none s.component) e in (direct_is s.kind h.0, none_is s.component h.1)

of_direct : (s : Statement) → IsDirect s → is_direct_on s ≡ true
of_direct s h = and_from _ _ (ap is_direct h.0) (ap is_none h.1)

certification_of : (s : Statement) → is_certification_on s ≡ true → IsCertification s
certification_of s e = let h = and_parts (certifies s.kind) (is_some s.component) e in (certifies_is s.kind h.0, h.1)

of_certification : (s : Statement) → IsCertification s → is_certification_on s ≡ true
of_certification s h = and_from _ _ (is_certifies s.kind h.0) h.1

not_none : (n : ℕ) → not (n == 0) ≡ true → n ≢ 0
not_none n e z = false≢true (sym (ap not (eq-eqb n 0 z)) ∙ e)

none_not : (n : ℕ) → n ≢ 0 → not (n == 0) ≡ true
none_not n h = step (n == 0) refl where
  step : (t : Bool) → (n == 0) ≡ t → not t ≡ true
  step true e = absurd (h (eqb-true n 0 e))
  step false e = refl

is_of : (sort : Sort) (s : Statement) → is_in sort s ≡ true → IsOf sort s
is_of Direct s e = direct_of s e
is_of UserIds s e = let h = and_parts (is_certification_on s) s.is_on_user_id e in (certification_of s h.0, h.1)
is_of Certifications s e = certification_of s e
is_of Main s e = let h = and_parts (is_certification_on s) s.is_main e in (certification_of s h.0, h.1)
is_of Expiring s e = let h = and_parts (is_certification_on s) (not (s.key_lasts == 0)) e in (certification_of s h.0, not_none s.key_lasts h.1)
is_of (Identity n) s e = let h = and_parts (is_certification_on s) (is_the n s.component) e in ((certification_of s h.0).0, the_is n s.component h.1)
is_of (Bindings n) s e = let h = and_parts (binds s.kind) (is_the n s.component) e in (binds_is s.kind h.0, the_is n s.component h.1)

of_is : (sort : Sort) (s : Statement) → IsOf sort s → is_in sort s ≡ true
of_is Direct s h = of_direct s h
of_is UserIds s h = and_from _ _ (of_certification s h.0) h.1
of_is Certifications s h = of_certification s h
of_is Main s h = and_from _ _ (of_certification s h.0) h.1
of_is Expiring s h = and_from _ _ (of_certification s h.0) (none_not s.key_lasts h.1)
of_is (Identity n) s h = and_from _ _ (and_from _ _ (is_certifies s.kind h.0) (ap is_some h.1)) (is_the_one n s.component h.1)
of_is (Bindings n) s h = and_from _ _ (ap binds h.0) (is_the_one n s.component h.1)

-- a group that asks for it has those that are good
asked_good : (m g : Bool) → (not m || g) ≡ true → m ≡ true → g ≡ true
asked_good true g e a = e
asked_good false g e a = absurd (false≢true a)

good_asked : (m g : Bool) → (m ≡ true → g ≡ true) → (not m || g) ≡ true
good_asked true g h = h refl
good_asked false g h = refl

not_true : (b : Bool) → not b ≡ true → b ≡ false
not_true true e = absurd (false≢true e)
not_true false e = refl

-- ---- it speaks
pub speaks_is : (group : Group) (at : ℕ) (s : Statement) → speaks group at s ≡ true → Speaks group at s
speaks_is group at s e =
    let a = and_parts (is_in group.sort s) _ e in
    let b = and_parts (not group.must_be_good || is_good s) _ a.1 in
    let r = and_parts (not group.must_stand || not s.is_revoked) _ b.1 in
    let u = and_parts s.is_understood _ r.1 in
    let c = and_parts (is_primary s.author) (lives_if at s.life) u.1 in
    record {
      of = is_of group.sort s a.0;
      good = λ m. none_is s.doubt (asked_good group.must_be_good (is_good s) b.0 m);
      standing = λ m. not_true s.is_revoked (asked_good group.must_stand (not s.is_revoked) r.0 m);
      understood = u.0;
      own = primary_is s.author c.0;
      in_force = in_force at s.life c.1;
    }

pub is_speaks : (group : Group) (at : ℕ) (s : Statement) → Speaks group at s → speaks group at s ≡ true
is_speaks group at s h =
    and_from _ _ (of_is group.sort s h.of)
    (and_from _ _ (good_asked group.must_be_good (is_good s) (λ m. ap is_none (h.good m)))
    (and_from _ _ (good_asked group.must_stand (not s.is_revoked) (λ m. ap not (h.standing m)))
    (and_from _ _ h.understood (and_from _ _ (ap is_primary h.own) (from_force at s.life h.in_force)))))

-- ---- it is the newest
same_is : (a : ℕ) (o t : Option ℕ) → o ≡ Some a → is_same o t ≡ true → t ≡ Some a
same_is a o t e h = at t (ap (λ x. is_same x t) (sym e) ∙ h) where
  at : (t : Option ℕ) → is_same (Some a) t ≡ true → t ≡ Some a
  at None h = absurd (false≢true h)
  at (Some b) h = ap Some (sym (eqb-true a b h))

reached : (n : ℕ) (o : Option ℕ) → reaches n o ≡ true → (m : ℕ) × (o ≡ Some m) × (n ≤ m)
reached n None e = absurd (false≢true e)
reached n (Some m) e = (m, refl, leb-true n m e)

made_on : (s : Statement) (life : Life) → s.life ≡ Some life → made_at s ≡ Some life.made
made_on s life e = ap (λ o. option_map (λ l. l.made) o) e

pub reached_by : (n : ℕ) (s : Statement) (life : Life) → s.life ≡ Some life → n ≤ life.made → reaches n (made_at s) ≡ true
reached_by n s life e l = ap (reaches n) (made_on s life e) ∙ le-leb n life.made l

-- what one of them reaches, the latest does
latest_after : (n : ℕ) (ss : List Statement) (s : Statement) → Contains ss s → reaches n (made_at s) ≡ true → reaches n (latest ss) ≡ true
latest_after n ss s h e = latest_reaches n ss ∙ passes_some (λ x. reaches n (made_at x)) ss s h e

-- one of them reaches the latest time
latest_of : (m : ℕ) (ss : List Statement) → latest ss ≡ Some m → (s : Statement) × Contains ss s × (reaches m (made_at s) ≡ true)
latest_of m ss e = some_passes (λ x. reaches m (made_at x)) ss (sym (latest_reaches m ss) ∙ ap (reaches m) e ∙ le-leb m m (omega arith))

-- of these, those that were made last
last_is : (xs : List Statement) (s : Statement) → Contains (made_then (latest xs) xs) s → Contains xs s × ((r : Statement) → Contains xs r → IsNoLater r s)
last_is xs s h =
    let k = kept_in (λ r. is_same (made_at r) (latest xs)) xs s h in (
      k.0,
      λ r c a b ra sb.
          let t : reaches a.made (latest xs) ≡ true = latest_after a.made xs r c (reached_by a.made r a ra (omega arith)) in
          let e : latest xs ≡ Some b.made = same_is b.made (made_at s) (latest xs) (made_on s b sb) k.1 in
          leb-true a.made b.made (sym (ap (reaches a.made) e) ∙ t),
    )

is_last : (at : ℕ) (xs : List Statement) (s : Statement) → ((r : Statement) → Contains xs r → IsInForce at r.life) → Contains xs s → ((r : Statement) → Contains xs r → IsNoLater r s) → Contains (made_then (latest xs) xs) s
is_last at xs s forced u last =
    let f : IsInForce at s.life = forced s u in
    let b : Life = f.life in
    let sb : s.life ≡ Some b = f.is in
    let t : reaches b.made (latest xs) ≡ true = latest_after b.made xs s u (reached_by b.made s b sb (omega arith)) in
    let m = reached b.made (latest xs) t in
    let w = latest_of m.0 xs m.1 in
    let r : IsInForce at w.0.life = forced w.0 w.1 in
    let a : Life = r.life in
    let x : m.0 ≤ a.made = leb-true m.0 a.made (sym (ap (reaches m.0) (made_on w.0 a r.is)) ∙ w.2) in
    let y : a.made ≤ b.made = last w.0 w.1 a b r.is sb in
    let z : b.made ≤ m.0 = m.2 in
    let same : b.made ≡ m.0 = omega arith in
    kept_from (λ r. is_same (made_at r) (latest xs)) xs s u
    (ap (λ o. is_same o (latest xs)) (made_on s b sb) ∙ ap (is_same (Some b.made)) m.1 ∙ eq-eqb b.made m.0 same)

module _ (group : Group) (at : ℕ) (ss : List Statement) where
  -- those that speak
  one_speaks : (s : Statement) → Contains (speakers group at ss) s → Contains ss s × Speaks group at s
  one_speaks s h = let m = kept_in (speaks group at) ss s h in (m.0, speaks_is group at s m.1)

  speaks_one : (s : Statement) → Contains ss s → Speaks group at s → Contains (speakers group at ss) s
  speaks_one s h w = kept_from (speaks group at) ss s h (is_speaks group at s w)

  one_way : (s : Statement) → Contains (newest group at ss) s → IsNewest group at ss s
  one_way s h =
      let k = last_is (speakers group at ss) s h in
      let m = one_speaks s k.0 in
      record { among = m.0; speaks = m.1; newest = λ r c w. k.1 r (speaks_one r c w) }

  other_way : (s : Statement) → IsNewest group at ss s → Contains (newest group at ss) s
  other_way s h = is_last at (speakers group at ss) s (λ r c. (one_speaks r c).1.in_force) (speaks_one s h.among h.speaks) (λ r c. let q = one_speaks r c in h.newest r q.0 q.1)

pub newest_is_newest : (group : Group) (at : ℕ) (ss : List Statement) (s : Statement) → Contains (newest group at ss) s ↔ IsNewest group at ss s
newest_is_newest group at ss s = (one_way group at ss s, other_way group at ss s)

-- ---- it is a newest one of its component
same_none : (o : Option ℕ) → is_same o None ≡ true → ⊥
same_none None e = false≢true e
same_none (Some a) e = false≢true e

-- of a group of certifications
module _ (group : Group) (certified : (s : Statement) → is_in group.sort s ≡ true → is_certification_on s ≡ true) (at : ℕ) (ss : List Statement) where
  speaks_on : (n : ℕ) (s : Statement) → s.component ≡ Some n → speaks group at s ≡ true → speaks (on_component n group) at s ≡ true
  speaks_on n s o e = let a = and_parts (is_in group.sort s) _ e in and_from _ _ (and_from _ _ (certified s a.0) (is_the_one n s.component o)) a.1

  current_is : (s : Statement) → Contains ss s → Speaks group at s → is_current group at ss s ≡ true → IsCurrent group at ss s
  current_is s h w e = step s.component refl e where
    step : (o : Option ℕ) → s.component ≡ o → is_same (made_at s) (latest_on group at ss o) ≡ true → IsCurrent group at ss s
    step None o e = absurd (same_none (made_at s) e)
    step (Some n) o e =
        let there : Contains (speakers (on_component n group) at ss) s = kept_from (speaks (on_component n group) at) ss s h (speaks_on n s o (is_speaks group at s w)) in
        (n, one_way (on_component n group) at ss s (kept_from (λ r. is_same (made_at r) (latest (speakers (on_component n group) at ss))) (speakers (on_component n group) at ss) s there e))

  is_current_one : (s : Statement) → IsCurrent group at ss s → is_current group at ss s ≡ true
  is_current_one s h =
      let n : ℕ = h.0 in
      let new : IsNewest (on_component n group) at ss s = h.1 in
      let k = kept_in (λ r. is_same (made_at r) (latest (speakers (on_component n group) at ss))) (speakers (on_component n group) at ss) s (other_way (on_component n group) at ss s new) in
      ap (λ o. is_same (made_at s) (latest_on group at ss o)) new.speaks.of.1 ∙ k.1

  one_current : (s : Statement) → Contains (current group at ss) s → Contains ss s × Speaks group at s × IsCurrent group at ss s
  one_current s h =
      let k = kept_in (is_current group at ss) (speakers group at ss) s h in
      let m = one_speaks group at ss s k.0 in
      (m.0, m.1, current_is s m.0 m.1 k.1)

  current_one : (s : Statement) → Contains ss s → Speaks group at s → IsCurrent group at ss s → Contains (current group at ss) s
  current_one s h w i = kept_from (is_current group at ss) (speakers group at ss) s (speaks_one group at ss s h w) (is_current_one s i)

  pub newest_current_is : (s : Statement) → Contains (newest_current group at ss) s → IsNewestCurrent group at ss s
  newest_current_is s h =
      let k = last_is (current group at ss) s h in
      let m = one_current s k.0 in
      record { among = m.0; speaks = m.1; current = m.2; newest = λ r c w i. k.1 r (current_one r c w i) }

  pub is_newest_current : (s : Statement) → IsNewestCurrent group at ss s → Contains (newest_current group at ss) s
  is_newest_current s h = is_last at (current group at ss) s (λ r c. (one_current r c).1.in_force) (current_one s h.among h.speaks h.current) (λ r c. let q = one_current r c in h.newest r q.0 q.1 q.2)
