-- What is judged of a key rests on who speaks, whatever the numbers of the components.
use Rattle.std.proofs.Common.{◌≡◌, ◌∙◌, ◌⊎◌, ◌++◌, ℕ, max, ◌==◌, nat_lt, List, [], ◌∷◌, map, Bool, true, false, not, ◌&&◌, ◌||◌, cond, Option, Some, None, is_none, is_some, refl, sym, ap}
use Rattle.std.specs.List.{filter, list_all, list_any}
use Rattle.std.proofs.lemmas.Bool.{and_left, eq-eqb, eqb-true, or_parts, true≢false}
use Rattle.std.proofs.lemmas.List.{map-append}
use Rattle.opgp_valid.specs.Facts.{FactsValue}
use Rattle.opgp_valid.specs.Group.{binds, certifies, is_certification_on, is_direct, is_direct_on, is_the, speaks}
use Rattle.opgp_valid.specs.Laws.{with_statements}
use Rattle.opgp_valid.specs.Saying.{is_nonempty}
use Rattle.opgp_valid.specs.Speaking.{current, end_in, is_current, is_same, latest, latest_on, made_at, made_then, newest_current, sooner, uses_in}
use Rattle.opgp_valid.specs.Standing.{applies, created_of, has_ended, heard, is_expired_at, is_subkey, is_unbacked_at, is_unbound_at, limiters, limiting, may_not_sign_at, must_stand, revokes, speakers, spoken, standing_of}
use Rattle.opgp_valid.specs.State.{end_at, state_of, unusable, uses_at, uses_heard, without_signing}
use Rattle.opgp_valid.specs.Statement.{has_back}
use Rattle.opgp_valid.specs.Stands.{IsLimiting, IsNewestCurrent}
use Rattle.opgp_valid.specs.Told.{is_revoked_among, is_revoked_by, with_revocations, with_revoked}
use Rattle.opgp_valid.specs.Uses.{no_use}
use Rattle.opgp_valid.specs.declared.facts.Key.{Key}
use Rattle.opgp_valid.specs.declared.facts.Key.TheVariants as key
use Rattle.opgp_valid.specs.declared.state.KeyState.{KeyState}
use Rattle.opgp_valid.specs.declared.statement.Statement.{Statement}
use Rattle.opgp_valid.specs.declared.uses.Uses.{Uses}
use Rattle.opgp_valid.specs.declared.why.Why.{Why}
use Rattle.opgp_valid.specs.declared.why.Why.TheVariants.{Future, Revoked, Early, Unbound, Expired, Flags, Back}
use Rattle.opgp_valid.proofs.Alike.{find_agree, or_same}
use Rattle.opgp_valid.proofs.Renumbered.{any_map, rekey, renumber, renumbered, revocations_same}
use Rattle.opgp_bound.specs.Before.{without_reason}
use Rattle.opgp_bound.specs.Role.{is_self_type}
use Rattle.opgp_bound.proofs.Fitting.{counts_at}
use Rattle.opgp_bound.proofs.Placed.{moved, on}

-- ---- statements with other numbers
pub same_number : (o : Option ℕ) → renumbered (λ n. n) o ≡ o
same_number None = refl
same_number (Some n) = refl

pub kept_map : {A B : Type 0} (h : A → B) (p : B → Bool) (r : A → Bool) → ((x : A) → p (h x) ≡ r x) → (xs : List A) → filter p (map h xs) ≡ map h (filter r xs)
kept_map h p r same [] = refl
kept_map {A} {B} h p r same (x ∷ xs) = ap (λ (t : Bool). cond t (h x ∷ filter p (map h xs)) (filter p (map h xs))) (same x) ∙ step (r x) (kept_map h p r same xs) where
  step : (t : Bool) → filter p (map h xs) ≡ map h (filter r xs) → cond t (h x ∷ filter p (map h xs)) (filter p (map h xs)) ≡ map h (cond t (x ∷ filter r xs) (filter r xs))
  step true e = ap (λ (l : List B). h x ∷ l) e
  step false e = e

abbrev first_hang : Statement → Statement
first_hang s = record s { hang = 0 }

module _ (q : ℕ → ℕ) where
  moved_is : (ss : List Statement) → map (moved q) ss ≡ map first_hang (map (renumber q) ss)
  moved_is [] = refl
  moved_is (s ∷ ss) = ap (λ (l : List Statement). moved q s ∷ l) (moved_is ss)

marks_hang : (all ss : List Statement) → map first_hang (map (λ s. with_revoked (is_revoked_among all s) s) ss) ≡ map (λ s. with_revoked (is_revoked_among (map first_hang all) s) s) (map first_hang ss)
marks_hang all [] = refl
marks_hang all (s ∷ ss) =
    ap (λ (t : Bool). with_revoked (is_certification_on s && t) (first_hang s) ∷ map first_hang (map (λ r. with_revoked (is_revoked_among all r) r) ss))
    (sym (any_map first_hang (is_revoked_by (first_hang s)) (is_revoked_by s) (λ r. refl) all))
    ∙ ap (λ (l : List Statement). with_revoked (is_revoked_among (map first_hang all) (first_hang s)) (first_hang s) ∷ l) (marks_hang all ss)

pub revocations_moved : (q : ℕ → ℕ) → ((m n : ℕ) → q m ≡ q n → m ≡ n) → (ss : List Statement) → map (moved q) (with_revocations ss) ≡ with_revocations (map (moved q) ss)
revocations_moved q once ss =
    moved_is q (with_revocations ss)
    ∙ ap (map first_hang) (revocations_same q once ss)
    ∙ marks_hang (map (renumber q) ss) (map (renumber q) ss)
    ∙ ap with_revocations (sym (moved_is q ss))

-- ---- what is read of them
same_latest : (q : ℕ → ℕ) (ss : List Statement) → latest (map (moved q) ss) ≡ latest ss
same_latest q [] = refl
same_latest q (s ∷ ss) = rw (same_latest q ss) refl

newest_moved : (q : ℕ → ℕ) (ss : List Statement) → map (moved q) (made_then (latest ss) ss) ≡ made_then (latest (map (moved q) ss)) (map (moved q) ss)
newest_moved q ss =
    sym (kept_map (moved q) (λ s. is_same (made_at s) (latest ss)) (λ s. is_same (made_at s) (latest ss)) (λ s. refl) ss)
    ∙ ap (λ (t : Option ℕ). made_then t (map (moved q) ss)) (sym (same_latest q ss))

same_nonempty : (q : ℕ → ℕ) (ss : List Statement) → is_nonempty (map (moved q) ss) ≡ is_nonempty ss
same_nonempty q [] = refl
same_nonempty q (s ∷ ss) = refl

same_end : (created : ℕ) (q : ℕ → ℕ) (ss : List Statement) → end_in created (map (moved q) ss) ≡ end_in created ss
same_end created q [] = refl
same_end created q (s ∷ ss) = rw (same_end created q ss) refl

same_uses : (q : ℕ → ℕ) (ss : List Statement) → uses_in (map (moved q) ss) ≡ uses_in ss
same_uses q [] = refl
same_uses q (s ∷ ss) = rw (same_uses q ss) refl

same_backed : (at : ℕ) (q : ℕ → ℕ) (ss : List Statement) → list_all (has_back at) (map (moved q) ss) ≡ list_all (has_back at) ss
same_backed at q [] = refl
same_backed at q (s ∷ ss) = rw (same_backed at q ss) refl

same_flags : (q : ℕ → ℕ) (ss : List Statement) → list_any (λ s. s.has_flags) (map (moved q) ss) ≡ list_any (λ s. s.has_flags) ss
same_flags q ss = any_map (moved q) (λ s. s.has_flags) (λ s. s.has_flags) (λ s. refl) ss

-- ---- other numbers, each for one component
module _ (q : ℕ → ℕ) (once : (m n : ℕ) → q m ≡ q n → m ≡ n) where
  same_test : (m n : ℕ) → (q m == q n) ≡ (m == n)
  same_test m n = step (q m == q n) (m == n) refl refl where
    step : (t u : Bool) → (q m == q n) ≡ t → (m == n) ≡ u → t ≡ u
    step true true a b = refl
    step false false a b = refl
    step true false a b = absurd (true≢false (sym (eq-eqb m n (once m n (eqb-true (q m) (q n) a))) ∙ b))
    step false true a b = absurd (true≢false (sym (eq-eqb (q m) (q n) (ap q (eqb-true m n b))) ∙ a))

  no_component : (o : Option ℕ) → is_none (renumbered q o) ≡ is_none o
  no_component None = refl
  no_component (Some n) = refl

  some_component : (o : Option ℕ) → is_some (renumbered q o) ≡ is_some o
  some_component None = refl
  some_component (Some n) = refl

  pub the_same : (n : ℕ) (o : Option ℕ) → is_the (q n) (renumbered q o) ≡ is_the n o
  the_same n None = refl
  the_same n (Some m) = same_test m n

  -- ---- sorts
  -- what is of the first sort, with other numbers, is what is of the second; and it certifies or binds
  pub record SortMoved (sort old : Statement → Bool) : Type 0 where
    pub self : (s : Statement) → is_self_type s.kind ≡ false → sort s ≡ false
    pub hung : (s : Statement) → sort (moved (λ n. n) s) ≡ sort s
    pub counted : (s : Statement) → sort (moved q s) ≡ old s

  module _ (s : Statement) (e : is_self_type s.kind ≡ false) where
    no_self : (certifies s.kind ≡ false) × (binds s.kind ≡ false) × (is_direct s.kind ≡ false)
    no_self =
        let one = or_parts (certifies s.kind) (binds s.kind || is_direct s.kind) e in
        let two = or_parts (binds s.kind) (is_direct s.kind) one.1 in
        (one.0, two.0, two.1)

    no_certification : is_certification_on s ≡ false
    no_certification = and_left (certifies s.kind) (is_some s.component) no_self.0

  hung_certification : (s : Statement) → is_certification_on (moved (λ n. n) s) ≡ is_certification_on s
  hung_certification s = ap (λ (o : Option ℕ). certifies s.kind && is_some o) (same_number s.component)

  moved_certification : (s : Statement) → is_certification_on (moved q s) ≡ is_certification_on s
  moved_certification s = ap (λ (t : Bool). certifies s.kind && t) (some_component s.component)

  pub direct_moved : SortMoved is_direct_on is_direct_on
  direct_moved = record {
    self = λ s e. and_left (is_direct s.kind) (is_none s.component) (no_self s e).2;
    hung = λ s. ap (λ (o : Option ℕ). is_direct s.kind && is_none o) (same_number s.component);
    counted = λ s. ap (λ (t : Bool). is_direct s.kind && t) (no_component s.component);
  }

  pub certification_moved : SortMoved is_certification_on is_certification_on
  certification_moved = record { self = no_certification; hung = hung_certification; counted = moved_certification }

  -- certifications of which something holds, wherever they are
  pub some_moved : (p : Statement → Bool) → ((o : Option ℕ) (s : Statement) → p (on o s) ≡ p s) → SortMoved (λ s. is_certification_on s && p s) (λ s. is_certification_on s && p s)
  some_moved p same = record {
    self = λ s e. and_left (is_certification_on s) (p s) (no_certification s e);
    hung = λ s. ap (λ (t : Bool). t && p (moved (λ n. n) s)) (hung_certification s) ∙ ap (λ (t : Bool). is_certification_on s && t) (same (renumbered (λ n. n) s.component) s);
    counted = λ s. ap (λ (t : Bool). t && p (moved q s)) (moved_certification s) ∙ ap (λ (t : Bool). is_certification_on s && t) (same (renumbered q s.component) s);
  }

  pub identity_moved : (n : ℕ) → SortMoved (λ s. is_certification_on s && is_the (q n) s.component) (λ s. is_certification_on s && is_the n s.component)
  identity_moved n = record {
    self = λ s e. and_left (is_certification_on s) (is_the (q n) s.component) (no_certification s e);
    hung = λ s. ap (λ (t : Bool). t && is_the (q n) (renumbered (λ i. i) s.component)) (hung_certification s) ∙ ap (λ (o : Option ℕ). is_certification_on s && is_the (q n) o) (same_number s.component);
    counted = λ s. ap (λ (t : Bool). t && is_the (q n) (renumbered q s.component)) (moved_certification s) ∙ ap (λ (t : Bool). is_certification_on s && t) (the_same n s.component);
  }

  pub bindings_moved : (n : ℕ) → SortMoved (λ s. binds s.kind && is_the (q n) s.component) (λ s. binds s.kind && is_the n s.component)
  bindings_moved n = record {
    self = λ s e. and_left (binds s.kind) (is_the (q n) s.component) (no_self s e).1;
    hung = λ s. ap (λ (o : Option ℕ). binds s.kind && is_the (q n) o) (same_number s.component);
    counted = λ s. ap (λ (t : Bool). binds s.kind && t) (the_same n s.component);
  }

-- ---- the newest on a component
-- when the newest certifications of a component were made, good or not
abbrev latest_by : Bool → Bool → ℕ → List Statement → Option ℕ → Option ℕ
latest_by must stand at ss None = None
latest_by must stand at ss (Some n) = latest (filter (counts_at (λ s. is_certification_on s && is_the n s.component) must stand at) ss)

latest_is : (group : _) (at : ℕ) (ss : List Statement) (o : Option ℕ) → latest_on group at ss o ≡ latest_by group.must_be_good group.must_stand at ss o
latest_is group at ss None = refl
latest_is group at ss (Some n) = refl

-- ---- the same count
-- the same of each sort count in both lists at each time, but for the numbers
abbrev pub CountMoved : (q : ℕ → ℕ) → ((m n : ℕ) → q m ≡ q n → m ≡ n) → List Statement → List Statement → Type 0
CountMoved q once a b = (sort old : Statement → Bool) (must stand : Bool) (at : ℕ) → SortMoved q once sort old
    → map (moved (λ n. n)) (filter (counts_at sort must stand at) a) ≡ map (moved q) (filter (counts_at old must stand at) b)

module _ (q : ℕ → ℕ) (once : (m n : ℕ) → q m ≡ q n → m ≡ n) (a b : List Statement) (same : CountMoved q once a b) where
  -- two lists that differ in the numbers alone
  abbrev Same : List Statement → List Statement → Type 0
  Same x y = map (moved (λ n. n)) x ≡ map (moved q) y

  through : {Y : Type 0} (f : List Statement → Y) → ((p : ℕ → ℕ) (ss : List Statement) → f (map (moved p) ss) ≡ f ss) → (x y : List Statement) → Same x y → f x ≡ f y
  through f h x y e = sym (h (λ n. n) x) ∙ ap f e ∙ h q y

  joined : (x y z w : List Statement) → Same x y → Same z w → Same (x ++ z) (y ++ w)
  joined x y z w e h =
      map-append (moved (λ n. n)) x z
      ∙ ap (λ (l : List Statement). l ++ map (moved (λ n. n)) z) e
      ∙ ap (λ (l : List Statement). map (moved q) y ++ l) h
      ∙ sym (map-append (moved q) y w)

  newest_in : (x y : List Statement) → Same x y → Same (made_then (latest x) x) (made_then (latest y) y)
  newest_in x y e = newest_moved (λ n. n) x ∙ ap (λ (l : List Statement). made_then (latest l) l) e ∙ sym (newest_moved q y)

  latest_same : (must stand : Bool) (at : ℕ) (o : Option ℕ) → latest_by must stand at a (renumbered q o) ≡ latest_by must stand at b o
  latest_same must stand at None = refl
  latest_same must stand at (Some n) =
      through latest same_latest (filter (counts_at (λ s. is_certification_on s && is_the (q n) s.component) must stand at) a) (filter (counts_at (λ s. is_certification_on s && is_the n s.component) must stand at) b)
      (same (λ s. is_certification_on s && is_the (q n) s.component) (λ s. is_certification_on s && is_the n s.component) must stand at (identity_moved q once n))

  -- the newest of a sort, and of those that are the newest of their components
  abbrev newest_by : (Statement → Bool) → Bool → Bool → ℕ → List Statement → List Statement
  newest_by sort must stand at ss = made_then (latest (filter (counts_at sort must stand at) ss)) (filter (counts_at sort must stand at) ss)

  newest_same : (sort old : Statement → Bool) (must stand : Bool) (at : ℕ) → SortMoved q once sort old → Same (newest_by sort must stand at a) (newest_by old must stand at b)
  newest_same sort old must stand at m = newest_in (filter (counts_at sort must stand at) a) (filter (counts_at old must stand at) b) (same sort old must stand at m)

  -- of those that are the newest of their components
  newest_current_same : (group : _) (at : ℕ) → Same (filter (speaks group at) a) (filter (speaks group at) b) → Same (newest_current group at a) (newest_current group at b)
  newest_current_same group at e = newest_in (current group at a) (current group at b) here where
    test : Statement → Bool
    test s = is_same (made_at s) (latest_by group.must_be_good group.must_stand at a s.component)

    here : Same (current group at a) (current group at b)
    here =
        sym (kept_map (moved (λ n. n)) test (is_current group at a) (λ s. ap (λ (o : Option ℕ). is_same (made_at s) (latest_by group.must_be_good group.must_stand at a o)) (same_number s.component) ∙ ap (is_same (made_at s)) (sym (latest_is group at a s.component))) (filter (speaks group at) a))
        ∙ ap (filter test) e
        ∙ kept_map (moved q) test (is_current group at b) (λ s. ap (is_same (made_at s)) (latest_same group.must_be_good group.must_stand at s.component ∙ sym (latest_is group at b s.component))) (filter (speaks group at) b)

  -- ---- what is judged
  module _ (version created : ℕ) where
    abbrev f : FactsValue
    f = with_statements version created a

    abbrev g : FactsValue
    g = with_statements version created b

    user_ids_moved : SortMoved q once (λ s. is_certification_on s && s.is_on_user_id) (λ s. is_certification_on s && s.is_on_user_id)
    user_ids_moved = some_moved q once (λ s. s.is_on_user_id) (λ o s. refl)

    certified_same : (stand : Bool) (at : ℕ) (t : Bool) → Same (cond t (newest_by (λ s. is_certification_on s && s.is_on_user_id) true stand at a) []) (cond t (newest_by (λ s. is_certification_on s && s.is_on_user_id) true stand at b) [])
    certified_same stand at true = newest_same (λ s. is_certification_on s && s.is_on_user_id) (λ s. is_certification_on s && s.is_on_user_id) true stand at user_ids_moved
    certified_same stand at false = refl

    spoken_same : (stand : Bool) (at : ℕ) → Same (spoken f stand at) (spoken g stand at)
    spoken_same stand at =
        joined (newest_by is_direct_on true false at a) (newest_by is_direct_on true false at b)
        (cond (version == 4) (newest_by (λ s. is_certification_on s && s.is_on_user_id) true stand at a) []) (cond (version == 4) (newest_by (λ s. is_certification_on s && s.is_on_user_id) true stand at b) [])
        (newest_same is_direct_on is_direct_on true false at (direct_moved q once)) (certified_same stand at (version == 4))

    must_same : (at : ℕ) → must_stand f at ≡ must_stand g at
    must_same at = through is_nonempty same_nonempty (spoken f true at) (spoken g true at) (spoken_same true at)

    main_moved : SortMoved q once (λ s. is_certification_on s && s.is_main) (λ s. is_certification_on s && s.is_main)
    main_moved = some_moved q once (λ s. s.is_main) (λ o s. refl)

    expiring_moved : SortMoved q once (λ s. is_certification_on s && not (s.key_lasts == 0)) (λ s. is_certification_on s && not (s.key_lasts == 0))
    expiring_moved = some_moved q once (λ s. not (s.key_lasts == 0)) (λ o s. refl)

    -- of the two groups of current ones that limit a key, which the rule in the facts names
    with_current : (one two : _) (direct certified : Statement → Type 0) (stand : Bool) (at : ℕ)
        → ((s : Statement) → IsLimiting f stand at s → direct s ⊎ (certified s ⊎ (IsNewestCurrent one at a s ⊎ IsNewestCurrent two at a s))) → Same (filter (speaks one at) a) (filter (speaks one at) b) → Same (filter (speaks two at) a) (filter (speaks two at) b)
        → Same (newest_by is_direct_on false false at a ++ (newest_by is_certification_on false stand at a ++ (newest_current one at a ++ newest_current two at a)))
        (newest_by is_direct_on false false at b ++ (newest_by is_certification_on false stand at b ++ (newest_current one at b ++ newest_current two at b)))
    with_current one two direct certified stand at named e h =
        joined (newest_by is_direct_on false false at a) (newest_by is_direct_on false false at b) _ _ (newest_same is_direct_on is_direct_on false false at (direct_moved q once))
        (joined (newest_by is_certification_on false stand at a) (newest_by is_certification_on false stand at b) _ _ (newest_same is_certification_on is_certification_on false stand at (certification_moved q once))
        (joined (newest_current one at a) (newest_current one at b) (newest_current two at a) (newest_current two at b) (newest_current_same one at e) (newest_current_same two at h)))

    limiting_same : (stand : Bool) (at : ℕ) → Same (limiting f stand at) (limiting g stand at)
    limiting_same stand at =
        with_current _ _ _ _ stand at (λ s h. h)
        (same (λ s. is_certification_on s && s.is_main) (λ s. is_certification_on s && s.is_main) false stand at main_moved)
        (same (λ s. is_certification_on s && not (s.key_lasts == 0)) (λ s. is_certification_on s && not (s.key_lasts == 0)) false stand at expiring_moved)

    speakers_same : (l : Key) (at : ℕ) → Same (speakers f (rekey q l) at) (speakers g l at)
    speakers_same key.Primary at = ap (λ (t : Bool). map (moved (λ n. n)) (spoken f t at)) (must_same at) ∙ spoken_same (must_stand g at) at
    speakers_same (key.Subkey n begin) at = newest_same (λ s. binds s.kind && is_the (q n) s.component) (λ s. binds s.kind && is_the n s.component) true false at (bindings_moved q once n)

    limiters_same : (l : Key) (at : ℕ) → Same (limiters f (rekey q l) at) (limiters g l at)
    limiters_same key.Primary at = ap (λ (t : Bool). map (moved (λ n. n)) (limiting f t at)) (must_same at) ∙ limiting_same (must_stand g at) at
    limiters_same (key.Subkey n begin) at = newest_same (λ s. binds s.kind && is_the (q n) s.component) (λ s. binds s.kind && is_the n s.component) false false at (bindings_moved q once n)

    heard_same : (l : Key) (at : ℕ) → Same (heard f (rekey q l) at) (heard g l at)
    heard_same l at = joined (speakers f (rekey q l) at) (speakers g l at) (limiters f (rekey q l) at) (limiters g l at) (speakers_same l at) (limiters_same l at)

    created_same : (l : Key) → created_of f (rekey q l) ≡ created_of g l
    created_same key.Primary = refl
    created_same (key.Subkey n begin) = refl

    subkey_same : (l : Key) → is_subkey (rekey q l) ≡ is_subkey l
    subkey_same key.Primary = refl
    subkey_same (key.Subkey n begin) = refl

    said_same : (l : Key) (at : ℕ) → is_nonempty (speakers f (rekey q l) at) ≡ is_nonempty (speakers g l at)
    said_same l at = through is_nonempty same_nonempty (speakers f (rekey q l) at) (speakers g l at) (speakers_same l at)

    ends_same : (begin : ℕ) (l : Key) (at : ℕ) → end_in begin (heard f (rekey q l) at) ≡ end_in begin (heard g l at)
    ends_same begin l at = through (end_in begin) (same_end begin) (heard f (rekey q l) at) (heard g l at) (heard_same l at)

    own_ends_same : (l : Key) (at : ℕ) → end_in (created_of f (rekey q l)) (heard f (rekey q l) at) ≡ end_in (created_of g l) (heard g l at)
    own_ends_same l at = ap (λ (n : ℕ). end_in n (heard f (rekey q l) at)) (created_same l) ∙ ends_same (created_of g l) l at

    module _ (l : Key) (at : ℕ) where
      unbound_same : is_unbound_at f (rekey q l) at ≡ is_unbound_at g l at
      unbound_same = or_same _ _ _ _ (ap not (said_same key.Primary at)) (ap not (said_same l at))

      expired_same : is_expired_at f (rekey q l) at ≡ is_expired_at g l at
      expired_same = or_same _ _ _ _ (ap (has_ended at) (ends_same created key.Primary at)) (ap (has_ended at) (own_ends_same l at))

      any_flags_same : list_any (λ s. s.has_flags) (speakers f (rekey q l) at) ≡ list_any (λ s. s.has_flags) (speakers g l at)
      any_flags_same = through (list_any (λ s. s.has_flags)) same_flags (speakers f (rekey q l) at) (speakers g l at) (speakers_same l at)

      all_uses_same : uses_in (heard f (rekey q l) at) ≡ uses_in (heard g l at)
      all_uses_same = through uses_in same_uses (heard f (rekey q l) at) (heard g l at) (heard_same l at)

      flags_same : may_not_sign_at f (rekey q l) at ≡ may_not_sign_at g l at
      flags_same = or_same _ _ _ _ (ap not any_flags_same) (ap (λ u. not u.sign) all_uses_same)

      unbacked_same : is_unbacked_at f (rekey q l) at ≡ is_unbacked_at g l at
      unbacked_same =
          ap (λ (t : Bool). t && not (list_all (has_back at) (heard f (rekey q l) at))) (subkey_same l)
          ∙ ap (λ (t : Bool). is_subkey l && not t) (through (list_all (has_back at)) (same_backed at) (heard f (rekey q l) at) (heard g l at) (heard_same l at))

      uses_heard_same : uses_heard f (rekey q l) at ≡ uses_heard g l at
      uses_heard_same =
          ap (λ (t : Bool). cond t (uses_in (heard f (rekey q l) at)) no_use) any_flags_same
          ∙ ap (λ (u : Uses). cond (list_any (λ s. s.has_flags) (speakers g l at)) u no_use) all_uses_same

      uses_same : uses_at f (rekey q l) at ≡ uses_at g l at
      uses_same =
          ap (λ (t : Bool). cond t (without_signing (uses_heard f (rekey q l) at)) (uses_heard f (rekey q l) at)) unbacked_same
          ∙ ap (λ (u : Uses). cond (is_unbacked_at g l at) (without_signing u) u) uses_heard_same

      end_same : end_at f (rekey q l) at ≡ end_at g l at
      end_same =
          ap (λ (t : Option ℕ). sooner t (end_in (created_of f (rekey q l)) (heard f (rekey q l) at))) (ends_same created key.Primary at)
          ∙ ap (λ (t : Option ℕ). sooner (end_in created (heard g key.Primary at)) t) (own_ends_same l at)

    module _ (l : Key) (revoked : list_any (revokes (rekey q l)) a ≡ list_any (revokes l) b) where
      applies_same : (made now : ℕ) (why : Why) → applies f (rekey q l) made now why ≡ applies g l made now why
      applies_same made now Future = refl
      applies_same made now Revoked = revoked
      applies_same made now Early = ap (λ (n : ℕ). nat_lt made created || nat_lt made n) (created_same l)
      applies_same made now Unbound = or_same _ _ _ _ (unbound_same l made) (unbound_same l now)
      applies_same made now Expired = or_same _ _ _ _ (expired_same l made) (expired_same l now)
      applies_same made now Flags = or_same _ _ _ _ (flags_same l made) (flags_same l now)
      applies_same made now Back = or_same _ _ _ _ (unbacked_same l made) (unbacked_same l now)

      pub stands_same : (made now : ℕ) → standing_of f (rekey q l) made now ≡ standing_of g l made now
      stands_same made now = find_agree (applies f (rekey q l) made now) (applies g l made now) (applies_same made now) (Future ∷ Revoked ∷ Early ∷ Unbound ∷ Expired ∷ Flags ∷ Back ∷ [])

      abbrev state_by : Option Why → Uses → ℕ → Option ℕ → KeyState
      state_by why uses begin end = record { why = why; uses = uses; begin = begin; end = end; reason = None }

      pub state_same : (at : ℕ) → without_reason (state_of f (rekey q l) at) ≡ without_reason (state_of g l at)
      state_same at =
          let k : Key = rekey q l in
          ap (λ (x : Option Why). state_by x (uses_at f k at) (max created (created_of f k)) (end_at f k at))
          (find_agree (applies f k at at) (applies g l at at) (applies_same at at) (Revoked ∷ Early ∷ Unbound ∷ Expired ∷ []))
          ∙ ap (λ (x : Uses). state_by (unusable g l at) x (max created (created_of f k)) (end_at f k at)) (uses_same l at)
          ∙ ap (λ (x : ℕ). state_by (unusable g l at) (uses_at g l at) (max created x) (end_at f k at)) (created_same l)
          ∙ ap (λ (x : Option ℕ). state_by (unusable g l at) (uses_at g l at) (max created (created_of g l)) x) (end_same l at)
