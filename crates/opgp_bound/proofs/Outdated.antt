-- The newest signatures stay the newest, where some go that newer ones outdate.
use Rattle.std.proofs.Common.{◌≡◌, ◌∙◌, ℕ, ◌≤◌, ◌==◌, nat_lt, List, [], ◌∷◌, Bool, true, false, not, ◌&&◌, ◌||◌, cond, Option, Some, None, is_none, is_some, refl, sym, ap, subst, arith, All}
use Rattle.std.specs.List.{filter, list_any}
use Rattle.std.proofs.lemmas.Bool.{and_parts, eqb-true, false≢true, leb-true, le-leb, true≢false}
use Rattle.std.proofs.lemmas.Bool.Decides.{nat_tests}
use Rattle.std.proofs.lemmas.List.Elements.{All-cons, All-head, All-nil, All-tail, All-weaker, filter_agree}
use Rattle.opgp_octets.specs.declared.signature_type.SignatureType.{SignatureType}
use Rattle.opgp_octets.specs.declared.signature_type.SignatureType.TheVariants as types
use Rattle.opgp_valid.specs.Group.{any, binds, certifies, is_certification_on, is_direct, is_direct_on, is_in, is_primary, is_the, on_component, speaks}
use Rattle.opgp_valid.specs.Speaking.{current, is_current, is_same, later, latest, latest_on, made_at, made_then, newest, newest_current}
use Rattle.opgp_valid.specs.Speaking as speaking
use Rattle.opgp_valid.specs.Statement.{is_alive, is_good}
use Rattle.opgp_valid.specs.Told.{is_same_number}
use Rattle.opgp_valid.specs.declared.statement.Statement.{Statement}
use Rattle.opgp_valid.proofs.Alike.{any_filter, latest_reaches, reaches}
use Rattle.opgp_bound.specs.Newest.{counts, is_before, is_rival, is_same_sort}
use Rattle.opgp_bound.specs.Outdated.{AreOnParts, AreOutdated, is_outdated, without}

-- ---- which times are before others
or_false : (b : Bool) → b ≡ (b || false)
or_false true = refl
or_false false = refl

before_later : (a x y : Option ℕ) → is_before a (later x y) ≡ (is_before a x || is_before a y)
before_later None x y = refl
before_later (Some a) None y = refl
before_later (Some a) (Some b) None = or_false (nat_lt a b)
before_later (Some a) (Some b) (Some c) = grind (arith, nat_tests)

pub never_before : (a : Option ℕ) → is_before a None ≡ false
never_before None = refl
never_before (Some a) = refl

before_latest : (a : Option ℕ) (ss : List Statement) → is_before a (latest ss) ≡ list_any (λ s. is_before a (made_at s)) ss
before_latest a [] = never_before a
before_latest a (s ∷ ss) = before_later a (made_at s) (latest ss) ∙ ap (λ (b : Bool). is_before a (made_at s) || b) (before_latest a ss)

any_more : (b p q : Statement → Bool) (ss : List Statement) → All (λ r. p r ≡ true → q r ≡ true) ss → list_any (λ s. p s && b s) ss ≡ true → list_any (λ s. q s && b s) ss ≡ true
any_more b p q [] h e = e
any_more b p q (s ∷ ss) h e = step (p s) (q s) (b s) (All-head (λ r. p r ≡ true → q r ≡ true) s ss h) (any_more b p q ss (All-tail (λ r. p r ≡ true → q r ≡ true) s ss h)) e where
  step : (t u v : Bool) → (t ≡ true → u ≡ true) → (list_any (λ r. p r && b r) ss ≡ true → list_any (λ r. q r && b r) ss ≡ true) → ((t && v) || list_any (λ r. p r && b r) ss) ≡ true → ((u && v) || list_any (λ r. q r && b r) ss) ≡ true
  step true true true f g k = refl
  step true true false f g k = g k
  step true false v f g k = absurd (false≢true (f refl))
  step false true true f g k = refl
  step false true false f g k = g k
  step false false v f g k = g k

-- what is before the latest of some, is before the latest of more
before_more : (a : Option ℕ) (p q : Statement → Bool) (ss : List Statement) → All (λ r. p r ≡ true → q r ≡ true) ss → is_before a (latest (filter p ss)) ≡ true → is_before a (latest (filter q ss)) ≡ true
before_more a p q ss h e =
    before_latest a (filter q ss) ∙ any_filter q (λ s. is_before a (made_at s)) ss
    ∙ any_more (λ s. is_before a (made_at s)) p q ss h (sym (before_latest a (filter p ss) ∙ any_filter p (λ s. is_before a (made_at s)) ss) ∙ e)

before_not_same : (a m : Option ℕ) → is_before a m ≡ true → is_same a m ≡ false
before_not_same None m e = absurd (false≢true e)
before_not_same (Some a) None e = absurd (false≢true e)
before_not_same (Some a) (Some m) e = grind (arith, nat_tests)

-- ---- where some go that were made before the latest
module _ (q : Statement → Bool) where
  -- it stays, or was made before this time
  abbrev Late : Option ℕ → Statement → Type 0
  Late m s = q s ≡ false → is_before (made_at s) m ≡ true

  at_latest : (n : ℕ) (o : Option ℕ) (t : Bool) → (t ≡ false → is_before o (Some n) ≡ true) → reaches n o ≡ (t && reaches n o)
  at_latest n o true h = refl
  at_latest n None false h = refl
  at_latest n (Some k) false h = let e : nat_lt k n ≡ true = h refl in grind (arith, nat_tests)

  reached : (n : ℕ) (xs : List Statement) → All (Late (Some n)) xs → reaches n (latest (filter q xs)) ≡ reaches n (latest xs)
  reached n xs h = latest_reaches n (filter q xs) ∙ any_filter q (λ s. reaches n (made_at s)) xs ∙ sym (same xs h) ∙ sym (latest_reaches n xs) where
    same : (ys : List Statement) → All (Late (Some n)) ys → list_any (λ s. reaches n (made_at s)) ys ≡ list_any (λ s. q s && reaches n (made_at s)) ys
    same [] k = refl
    same (s ∷ ys) k =
        ap (λ (b : Bool). b || list_any (λ r. reaches n (made_at r)) ys) (at_latest n (made_at s) (q s) (All-head (Late (Some n)) s ys k))
        ∙ ap (λ (b : Bool). (q s && reaches n (made_at s)) || b) (same ys (All-tail (Late (Some n)) s ys k))

  less : (n : ℕ) (xs : List Statement) → reaches n (latest (filter q xs)) ≡ true → reaches n (latest xs) ≡ true
  less n xs e = latest_reaches n xs ∙ part xs (sym (latest_reaches n (filter q xs) ∙ any_filter q (λ s. reaches n (made_at s)) xs) ∙ e) where
    part : (ys : List Statement) → list_any (λ s. q s && reaches n (made_at s)) ys ≡ true → list_any (λ s. reaches n (made_at s)) ys ≡ true
    part [] k = k
    part (s ∷ ys) k = step (q s) (reaches n (made_at s)) (part ys) k where
      step : (t u : Bool) → (list_any (λ r. q r && reaches n (made_at r)) ys ≡ true → list_any (λ r. reaches n (made_at r)) ys ≡ true) → ((t && u) || list_any (λ r. q r && reaches n (made_at r)) ys) ≡ true → (u || list_any (λ r. reaches n (made_at r)) ys) ≡ true
      step true true f g = refl
      step true false f g = f g
      step false true f g = refl
      step false false f g = f g

  same_latest : (xs : List Statement) → All (Late (latest xs)) xs → latest (filter q xs) ≡ latest xs
  same_latest xs h = step (latest (filter q xs)) (latest xs) refl refl where
    step : (a b : Option ℕ) → latest (filter q xs) ≡ a → latest xs ≡ b → a ≡ b
    step None None e f = refl
    step (Some k) None e f = absurd (false≢true (sym (ap (reaches k) f) ∙ less k xs (ap (reaches k) e ∙ le-leb k k (omega arith))))
    step None (Some m) e f =
        let all : All (Late (Some m)) xs = subst (λ (o : Option ℕ). All (Late o) xs) f h in
        absurd (false≢true (sym (ap (reaches m) e) ∙ reached m xs all ∙ ap (reaches m) f ∙ le-leb m m (omega arith)))
    step (Some k) (Some m) e f =
        let all : All (Late (Some m)) xs = subst (λ (o : Option ℕ). All (Late o) xs) f h in
        let x : m ≤ k = leb-true m k (sym (ap (reaches m) e) ∙ reached m xs all ∙ ap (reaches m) f ∙ le-leb m m (omega arith)) in
        let y : k ≤ m = leb-true k m (sym (ap (reaches k) f) ∙ less k xs (ap (reaches k) e ∙ le-leb k k (omega arith))) in
        ap Some (omega arith)

  -- what doesn't pass a test goes
  dropped : (p : Statement → Bool) (xs : List Statement) → All (λ s. q s ≡ false → p s ≡ false) xs → filter p (filter q xs) ≡ filter p xs
  dropped p [] h = refl
  dropped p (s ∷ xs) h = step (q s) refl (dropped p xs (All-tail (λ r. q r ≡ false → p r ≡ false) s xs h)) where
    step : (t : Bool) → q s ≡ t → filter p (filter q xs) ≡ filter p xs → filter p (cond t (s ∷ filter q xs) (filter q xs)) ≡ cond (p s) (s ∷ filter p xs) (filter p xs)
    step true e r = ap (λ (l : List Statement). cond (p s) (s ∷ l) l) r
    step false e r = r ∙ sym (ap (λ (b : Bool). cond b (s ∷ filter p xs) (filter p xs)) (All-head (λ r. q r ≡ false → p r ≡ false) s xs h e))

  same_newest : (xs : List Statement) → All (Late (latest xs)) xs → made_then (latest (filter q xs)) (filter q xs) ≡ made_then (latest xs) xs
  same_newest xs h =
      ap (λ (m : Option ℕ). made_then m (filter q xs)) (same_latest xs h)
      ∙ dropped (λ s. is_same (made_at s) (latest xs)) xs (All-weaker (Late (latest xs)) (λ s. q s ≡ false → is_same (made_at s) (latest xs) ≡ false) (λ s l e. before_not_same (made_at s) (latest xs) (l e)) xs h)

  -- two tests, one after the other
  swapped : (p : Statement → Bool) (xs : List Statement) → filter p (filter q xs) ≡ filter q (filter p xs)
  swapped p [] = refl
  swapped p (s ∷ xs) = step (p s) (q s) refl refl (swapped p xs) where
    step : (t u : Bool) → p s ≡ t → q s ≡ u → filter p (filter q xs) ≡ filter q (filter p xs) → filter p (cond u (s ∷ filter q xs) (filter q xs)) ≡ filter q (cond t (s ∷ filter p xs) (filter p xs))
    step true true e f r = rw (e, f) (ap (λ (l : List Statement). s ∷ l) r)
    step true false e f r = rw f r
    step false true e f r = rw e r
    step false false e f r = r

kept_all : (P : Statement → Type 0) (p : Statement → Bool) (xs : List Statement) → All (λ s. p s ≡ true → P s) xs → All P (filter p xs)
kept_all P p [] h = All-nil P
kept_all P p (s ∷ xs) h = step (p s) refl (kept_all P p xs (All-tail (λ r. p r ≡ true → P r) s xs h)) where
  step : (t : Bool) → p s ≡ t → All P (filter p xs) → All P (cond t (s ∷ filter p xs) (filter p xs))
  step true e r = All-cons P s (filter p xs) (All-head (λ r. p r ≡ true → P r) s xs h e) r
  step false e r = r

-- ---- of one sort
sort_direct : (a b : SignatureType) → is_direct a ≡ true → is_same_sort a b ≡ true → is_direct b ≡ true
sort_direct types.DirectKey b e h = h
sort_direct other b e h = absurd (false≢true e)

sort_certifies : (a b : SignatureType) → certifies a ≡ true → is_same_sort a b ≡ true → certifies b ≡ true
sort_certifies types.GenericCertification b e h = h
sort_certifies types.PersonaCertification b e h = h
sort_certifies types.CasualCertification b e h = h
sort_certifies types.PositiveCertification b e h = h
sort_certifies other b e h = absurd (false≢true e)

sort_binds : (a b : SignatureType) → binds a ≡ true → is_same_sort a b ≡ true → binds b ≡ true
sort_binds types.SubkeyBinding b e h = h
sort_binds other b e h = absurd (false≢true e)

same_number_is : (a b : Option ℕ) → is_same_number a b ≡ true → a ≡ b
same_number_is None None e = refl
same_number_is None (Some b) e = absurd (false≢true e)
same_number_is (Some a) None e = absurd (false≢true e)
same_number_is (Some a) (Some b) e = ap Some (eqb-true a b e)

both : (a b : Bool) → a ≡ true → b ≡ true → (a && b) ≡ true
both a b e f = rw (e, f) refl

-- what a test of one sort and one part passes, its rivals pass
abbrev pub IsPlain : (Statement → Bool) → Type 0
IsPlain inn = (s r : Statement) → r.is_on_user_id ≡ s.is_on_user_id → r.component ≡ s.component → is_same_sort s.kind r.kind ≡ true → inn s ≡ true → inn r ≡ true

pub plain_direct : IsPlain is_direct_on
plain_direct s r u c h e = let p = and_parts (is_direct s.kind) (is_none s.component) e in both (is_direct r.kind) (is_none r.component) (sort_direct s.kind r.kind p.0 h) (ap is_none c ∙ p.1)

pub plain_certification : IsPlain is_certification_on
plain_certification s r u c h e =
    let o = and_parts (certifies s.kind) (is_some s.component) e in
    both (certifies r.kind) (is_some r.component) (sort_certifies s.kind r.kind o.0 h) (ap is_some c ∙ o.1)

pub plain_user_id : IsPlain (λ s. is_certification_on s && s.is_on_user_id)
plain_user_id s r u c h e =
    let p = and_parts (is_certification_on s) s.is_on_user_id e in
    both (is_certification_on r) r.is_on_user_id (plain_certification s r u c h p.0) (u ∙ p.1)

pub plain_identity : (n : ℕ) → IsPlain (λ s. is_certification_on s && is_the n s.component)
plain_identity n s r u c h e =
    let p = and_parts (is_certification_on s) (is_the n s.component) e in
    both (is_certification_on r) (is_the n r.component) (plain_certification s r u c h p.0) (ap (is_the n) c ∙ p.1)

pub plain_binding : (n : ℕ) → IsPlain (λ s. binds s.kind && is_the n s.component)
plain_binding n s r u c h e =
    let p = and_parts (binds s.kind) (is_the n s.component) e in
    both (binds r.kind) (is_the n r.component) (sort_binds s.kind r.kind p.0 h) (ap (is_the n) c ∙ p.1)

-- a signature speaks at a time that passes a test
abbrev pub speaks_by : (Statement → Bool) → Bool → Bool → ℕ → Statement → Bool
speaks_by inn b m at s = inn s && ((not b || is_good s) && ((not m || not s.is_revoked) && (s.is_understood && (is_primary s.author && is_alive at s))))

abbrev pub newest_by : (Statement → Bool) → Bool → Bool → ℕ → List Statement → List Statement
newest_by inn b m at ss = made_then (latest (filter (speaks_by inn b m at) ss)) (filter (speaks_by inn b m at) ss)

-- what counts, speaks for each group that it is in
speaks_in : (b m t g v w : Bool) → t ≡ true → (g && (v && w)) ≡ true → (t && ((not b || g) && ((not m || v) && w))) ≡ true
speaks_in b m false g v w e f = absurd (false≢true e)
speaks_in b m true false v w e f = absurd (false≢true f)
speaks_in b m true true false w e f = absurd (false≢true f)
speaks_in true true true true true w e f = f
speaks_in true false true true true w e f = f
speaks_in false true true true true w e f = f
speaks_in false false true true true w e f = f

-- a rival of one that speaks, speaks
rival_speaks : (inn : Statement → Bool) (b m : Bool) (at : ℕ) (is_user_id : Option ℕ → Bool) (s r : Statement) → IsPlain inn → s.is_on_user_id ≡ is_user_id s.component → r.is_on_user_id ≡ is_user_id r.component → speaks_by inn b m at s ≡ true → is_rival at s.component s.kind r ≡ true → speaks_by inn b m at r ≡ true
rival_speaks inn b m at is_user_id s r k u v e h =
    let p = and_parts (counts at r) (is_same_number r.component s.component && is_same_sort s.kind r.kind) h in
    let q = and_parts (is_same_number r.component s.component) (is_same_sort s.kind r.kind) p.1 in
    let c : r.component ≡ s.component = same_number_is r.component s.component q.0 in
    let same : r.is_on_user_id ≡ s.is_on_user_id = v ∙ ap is_user_id c ∙ sym u in
    speaks_in b m (inn r) (is_good r) (not r.is_revoked) (r.is_understood && (is_primary r.author && is_alive at r))
    (k s r same c q.1 (and_parts (inn s) _ e).0) p.0

pub all_both : {A : Type 0} (P Q : A → Type 0) (xs : List A) → All P xs → All Q xs → All (λ x. P x × Q x) xs
all_both P Q [] h k = All-nil (λ x. P x × Q x)
all_both P Q (x ∷ xs) h k = All-cons (λ y. P y × Q y) x xs (All-head P x xs h, All-head Q x xs k) (all_both P Q xs (All-tail P x xs h) (All-tail Q x xs k))

not_false : (b : Bool) → not b ≡ false → b ≡ true
not_false true e = refl
not_false false e = absurd (true≢false e)

same_eq : (n : ℕ) → (n == n) ≡ true
same_eq n = grind (arith, nat_tests)

-- the type of what a function gives
abbrev pub Of : {A B : Type 0} → (A → B) → Type 0
Of {A} {B} f = B

-- ---- what is said without those that go
module _ (at : ℕ) (ss : List Statement) (goes : Statement → Bool) (out : AreOutdated at ss goes) (is_user_id : Option ℕ → Bool) (users : AreOnParts is_user_id ss) where
  abbrev OnPart : Statement → Type 0
  OnPart s = s.is_on_user_id ≡ is_user_id s.component

  abbrev Goes : Statement → Type 0
  Goes s = goes s ≡ true → is_outdated at ss s ≡ true

  abbrev Each : Statement → Type 0
  Each s = OnPart s × Goes s

  each : All Each ss
  each = all_both OnPart Goes ss users out

  abbrev stays : Statement → Bool
  stays s = not (goes s)

  module _ (inn : Statement → Bool) (b m : Bool) (k : IsPlain inn) where
    abbrev speaking_by : List Statement → List Statement
    speaking_by l = filter (speaks_by inn b m at) l

    before_group : (s : Statement) → OnPart s → is_outdated at ss s ≡ true → speaks_by inn b m at s ≡ true → is_before (made_at s) (latest (speaking_by ss)) ≡ true
    before_group s u e h =
        before_more (made_at s) (is_rival at s.component s.kind) (speaks_by inn b m at) ss
        (All-weaker OnPart (λ r. is_rival at s.component s.kind r ≡ true → speaks_by inn b m at r ≡ true) (λ r v f. rival_speaks inn b m at is_user_id s r k u v h f) ss users) e

    late : All (Late stays (latest (speaking_by ss))) (speaking_by ss)
    late =
        kept_all (Late stays (latest (speaking_by ss))) (speaks_by inn b m at) ss
        (All-weaker Each (λ s. speaks_by inn b m at s ≡ true → Late stays (latest (speaking_by ss)) s) (λ s u h n. before_group s u.0 (u.1 (not_false (goes s) n)) h) ss each)

    pub newest_same : newest_by inn b m at (without goes ss) ≡ newest_by inn b m at ss
    newest_same =
        ap (λ (l : List Statement). made_then (latest l) l) (swapped stays (speaks_by inn b m at) ss)
        ∙ same_newest stays (speaking_by ss) late

    pub latest_same : latest (speaking_by (without goes ss)) ≡ latest (speaking_by ss)
    latest_same = ap latest (swapped stays (speaks_by inn b m at) ss) ∙ same_latest stays (speaking_by ss) late

  -- ---- the newest certifications of each component
  module _ (group : Of any) where
    latest_on_same : (o : Option ℕ) → latest_on group at (without goes ss) o ≡ latest_on group at ss o
    latest_on_same None = refl
    latest_on_same (Some n) = latest_same (λ s. is_certification_on s && is_the n s.component) group.must_be_good group.must_stand (plain_identity n)

    module _ (certified : (s : Statement) → is_in group.sort s ≡ true → is_certification_on s ≡ true) where
      not_current : (s : Statement) → Each s → speaks group at s ≡ true → stays s ≡ false → is_current group at ss s ≡ false
      not_current s u h n = step s.component refl where
        step : (o : Option ℕ) → s.component ≡ o → is_current group at ss s ≡ false
        step None q =
            let p = and_parts (is_in group.sort s) _ h in
            absurd (false≢true (sym (ap is_some q) ∙ (and_parts (certifies s.kind) (is_some s.component) (certified s p.0)).1))
        step (Some m) q =
            let p = and_parts (is_in group.sort s) _ h in
            let speaks_on : speaks_by (λ r. is_certification_on r && is_the m r.component) group.must_be_good group.must_stand at s ≡ true = both _ _ (both (is_certification_on s) (is_the m s.component) (certified s p.0) (ap (is_the m) q ∙ same_eq m)) p.1 in
            ap (λ (o : Option ℕ). is_same (made_at s) (latest_on group at ss o)) q
            ∙ before_not_same (made_at s) (latest (speaking.speakers (on_component m group) at ss)) (before_group (λ r. is_certification_on r && is_the m r.component) group.must_be_good group.must_stand (plain_identity m) s u.0 (u.1 (not_false (goes s) n)) speaks_on)

      pub current_same : current group at (without goes ss) ≡ current group at ss
      current_same =
          filter_agree (is_current group at (without goes ss)) (is_current group at ss) (λ s. ap (is_same (made_at s)) (latest_on_same s.component)) (speaking.speakers group at (without goes ss))
          ∙ ap (filter (is_current group at ss)) (swapped stays (speaks group at) ss)
          ∙ dropped stays (is_current group at ss) (speaking.speakers group at ss)
          (kept_all (λ s. stays s ≡ false → is_current group at ss s ≡ false) (speaks group at) ss (All-weaker Each (λ s. speaks group at s ≡ true → stays s ≡ false → is_current group at ss s ≡ false) not_current ss each))

      pub newest_current_same : newest_current group at (without goes ss) ≡ newest_current group at ss
      newest_current_same = ap (λ (l : List Statement). made_then (latest l) l) current_same
