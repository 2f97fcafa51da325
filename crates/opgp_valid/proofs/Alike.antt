-- Lists of statements that no test tells apart, and what is judged of them.
use Rattle.std.proofs.Common.{◌≡◌, ◌∙◌, ◌++◌, ℕ, ◌≤◌, ◌==◌, nat_le, nat_lt, List, [], ◌∷◌, Bool, true, false, not, ◌&&◌, ◌||◌, cond, Option, Some, None, refl, sym, ap, arith}
use Rattle.std.specs.List.{filter, find, list_all, list_any}
use Rattle.std.proofs.lemmas.Bool.{leb-true, le-leb, true≢false, false≢true}
use Rattle.std.proofs.lemmas.Bool.Decides.{nat_tests}
use Rattle.std.proofs.lemmas.List.Elements.{filter_agree}
use Rattle.std.proofs.lemmas.List.Folds.{list_any-append}
use Rattle.opgp_valid.specs.Group.{any, good, kept, on_component, speaks}
use Rattle.opgp_valid.specs.Laws.{IsAmong}
use Rattle.opgp_valid.specs.Saying.{is_nonempty}
use Rattle.opgp_valid.specs.Speaking.{current, end_in, is_current, is_same, later, latest, latest_on, made_at, made_then, newest, newest_current, sooner, uses_in}
use Rattle.opgp_valid.specs.Speaking as speaking
use Rattle.opgp_valid.specs.Standing.{applies, created_of, has_ended, heard, is_expired_at, is_unbacked_at, is_unbound_at, limiters, limiting, may_not_sign_at, must_stand, revokes, speakers, spoken, standing_of}
use Rattle.opgp_valid.specs.Statement.{end_of, has_back}
use Rattle.opgp_valid.specs.Facts.{FactsValue}
use Rattle.opgp_valid.specs.declared.facts.Key.{Key}
use Rattle.opgp_valid.specs.declared.facts.Key.TheVariants as key
use Rattle.opgp_valid.specs.declared.group.Group.{Group}
use Rattle.opgp_valid.specs.declared.group.Sort.TheVariants.{Direct, UserIds, Certifications, Main, Expiring, Bindings}
use Rattle.opgp_valid.specs.declared.statement.Statement.{Statement}
use Rattle.opgp_valid.specs.declared.why.Why.{Why}
use Rattle.opgp_valid.specs.declared.why.Why.TheVariants.{Future, Revoked, Early, Unbound, Expired, Flags, Back}
use Rattle.opgp_valid.proofs.Among.{passed_among}

-- ---- tests of a list
pub any_filter : {A : Type 0} (p q : A → Bool) (xs : List A) → list_any q (filter p xs) ≡ list_any (λ x. p x && q x) xs
any_filter p q [] = refl
any_filter {A} p q (x ∷ xs) = step (p x) (any_filter p q xs) where
  step : (t : Bool) → list_any q (filter p xs) ≡ list_any (λ y. p y && q y) xs → list_any q (cond t (x ∷ filter p xs) (filter p xs)) ≡ ((t && q x) || list_any (λ y. p y && q y) xs)
  step true e = ap (λ b. q x || b) e
  step false e = e

pub or_same : (a b c d : Bool) → a ≡ b → c ≡ d → (a || c) ≡ (b || d)
or_same a b c d e f = rw (e, f) refl

pub find_agree : {A : Type 0} (p q : A → Bool) → ((x : A) → p x ≡ q x) → (xs : List A) → find p xs ≡ find q xs
find_agree p q h [] = refl
find_agree p q h (x ∷ xs) = rw (h x, find_agree p q h xs) refl

-- ---- the latest time
abbrev pub reaches : ℕ → Option ℕ → Bool
reaches n None = false
reaches n (Some m) = nat_le n m

pub later_reaches : (n : ℕ) (a b : Option ℕ) → reaches n (later a b) ≡ (reaches n a || reaches n b)
later_reaches n None b = refl
later_reaches n (Some a) None = grind (arith, nat_tests)
later_reaches n (Some a) (Some b) = grind (arith, nat_tests)

pub latest_reaches : (n : ℕ) (ss : List Statement) → reaches n (latest ss) ≡ list_any (λ s. reaches n (made_at s)) ss
latest_reaches n [] = refl
latest_reaches n (s ∷ ss) = later_reaches n (made_at s) (latest ss) ∙ ap (λ b. reaches n (made_at s) || b) (latest_reaches n ss)

same_time : (a b : Option ℕ) → ((n : ℕ) → reaches n a ≡ reaches n b) → a ≡ b
same_time None None h = refl
same_time None (Some b) h = absurd (false≢true (h b ∙ le-leb b b (omega arith)))
same_time (Some a) None h = absurd (true≢false (sym (le-leb a a (omega arith)) ∙ h a))
same_time (Some a) (Some b) h =
    let x : a ≤ b = leb-true a b (sym (h a) ∙ le-leb a a (omega arith)) in
    let y : b ≤ a = leb-true b a (h b ∙ le-leb b b (omega arith)) in
    ap Some (omega arith)

-- ---- what some of a list do
pub ended_some : (at created : ℕ) (ss : List Statement) → has_ended at (end_in created ss) ≡ list_any (λ s. has_ended at (end_of created s)) ss
ended_some at created [] = refl
ended_some at created (s ∷ ss) = first (end_of created s) (end_in created ss) ∙ ap (λ b. has_ended at (end_of created s) || b) (ended_some at created ss) where
  first : (a b : Option ℕ) → has_ended at (sooner a b) ≡ (has_ended at a || has_ended at b)
  first None b = refl
  first (Some a) None = grind (arith, nat_tests)
  first (Some a) (Some b) = grind (arith, nat_tests)

not_and : (a b : Bool) → not (a && b) ≡ (not a || not b)
not_and true b = refl
not_and false b = refl

pub not_all : {A : Type 0} (p : A → Bool) (xs : List A) → not (list_all p xs) ≡ list_any (λ x. not (p x)) xs
not_all p [] = refl
not_all p (x ∷ xs) = not_and (p x) (list_all p xs) ∙ ap (λ b. not (p x) || b) (not_all p xs)

pub not_signing : (ss : List Statement) → not (uses_in ss).sign ≡ list_any (λ s. not s.uses.sign) ss
not_signing [] = refl
not_signing (s ∷ ss) = not_and s.uses.sign (uses_in ss).sign ∙ ap (λ b. not s.uses.sign || b) (not_signing ss)

pub nonempty_some : (ss : List Statement) → is_nonempty ss ≡ list_any (λ s. true) ss
nonempty_some [] = refl
nonempty_some (s ∷ ss) = refl

-- ---- lists that no test tells apart
abbrev pub Alike : List Statement → List Statement → Type 0
Alike a b = (p : Statement → Bool) → list_any p a ≡ list_any p b

same_bool : (a b : Bool) → (a ≡ true → b ≡ true) → (b ≡ true → a ≡ true) → a ≡ b
same_bool true b f g = sym (f refl)
same_bool false true f g = g refl
same_bool false false f g = refl

pub alike_from_among : (a b : List Statement) → IsAmong a b → IsAmong b a → Alike a b
alike_from_among a b f g p = same_bool (list_any p a) (list_any p b) (passed_among p a b f) (passed_among p b a g)

alike_filter : (q : Statement → Bool) (a b : List Statement) → Alike a b → Alike (filter q a) (filter q b)
alike_filter q a b h p = any_filter q p a ∙ h (λ s. q s && p s) ∙ sym (any_filter q p b)

alike_append : (a b c d : List Statement) → Alike a b → Alike c d → Alike (a ++ c) (b ++ d)
alike_append a b c d h k p = list_any-append p a c ∙ or_same (list_any p a) (list_any p b) (list_any p c) (list_any p d) (h p) (k p) ∙ sym (list_any-append p b d)

same_latest : (a b : List Statement) → Alike a b → latest a ≡ latest b
same_latest a b h = same_time (latest a) (latest b) (λ n. latest_reaches n a ∙ h (λ s. reaches n (made_at s)) ∙ sym (latest_reaches n b))

alike_made : (a b : List Statement) → Alike a b → Alike (made_then (latest a) a) (made_then (latest b) b)
alike_made a b k p =
    ap (λ (t : Option ℕ). list_any p (made_then t a)) (same_latest a b k)
    ∙ alike_filter (λ s. is_same (made_at s) (latest b)) a b k p

alike_newest : (group : Group) (at : ℕ) (a b : List Statement) → Alike a b → Alike (newest group at a) (newest group at b)
alike_newest group at a b h = alike_made (speaking.speakers group at a) (speaking.speakers group at b) (alike_filter (speaks group at) a b h)

-- the newest certification of each component is made at the same time
same_latest_on : (group : Group) (at : ℕ) (a b : List Statement) → Alike a b → (o : Option ℕ) → latest_on group at a o ≡ latest_on group at b o
same_latest_on group at a b h None = refl
same_latest_on group at a b h (Some n) = same_latest (speaking.speakers (on_component n group) at a) (speaking.speakers (on_component n group) at b) (alike_filter (speaks (on_component n group) at) a b h)

alike_current : (group : Group) (at : ℕ) (a b : List Statement) → Alike a b → Alike (current group at a) (current group at b)
alike_current group at a b h p =
    ap (list_any p) (filter_agree (is_current group at a) (is_current group at b) (λ s. ap (is_same (made_at s)) (same_latest_on group at a b h s.component)) (speaking.speakers group at a))
    ∙ alike_filter (is_current group at b) (speaking.speakers group at a) (speaking.speakers group at b) (alike_filter (speaks group at) a b h) p

alike_newest_current : (group : Group) (at : ℕ) (a b : List Statement) → Alike a b → Alike (newest_current group at a) (newest_current group at b)
alike_newest_current group at a b h = alike_made (current group at a) (current group at b) (alike_current group at a b h)

-- ---- what is judged of them
module _ (f g : FactsValue) (v : f.version ≡ g.version) (c : f.created ≡ g.created) (h : Alike f.statements g.statements) where
  alike_group : (group : Group) (at : ℕ) → Alike (newest group at f.statements) (newest group at g.statements)
  alike_group group at = alike_newest group at f.statements g.statements h

  alike_certified : (stand : Bool) (at : ℕ) (t : Bool) → Alike (cond t (newest (kept stand (good UserIds)) at f.statements) []) (cond t (newest (kept stand (good UserIds)) at g.statements) [])
  alike_certified stand at true = alike_group (kept stand (good UserIds)) at
  alike_certified stand at false = λ p. refl

  alike_spoken : (stand : Bool) (at : ℕ) → Alike (spoken f stand at) (spoken g stand at)
  alike_spoken stand at = rw v (alike_append (newest (good Direct) at f.statements) (newest (good Direct) at g.statements) _ _ (alike_group (good Direct) at) (alike_certified stand at (g.version == 4)))

  nonempty_same : (a b : List Statement) → Alike a b → is_nonempty a ≡ is_nonempty b
  nonempty_same a b e = nonempty_some a ∙ e (λ s. true) ∙ sym (nonempty_some b)

  must_same : (at : ℕ) → must_stand f at ≡ must_stand g at
  must_same at = nonempty_same (spoken f true at) (spoken g true at) (alike_spoken true at)

  alike_speakers : (k : Key) (at : ℕ) → Alike (speakers f k at) (speakers g k at)
  alike_speakers key.Primary at p = ap (λ (t : Bool). list_any p (spoken f t at)) (must_same at) ∙ alike_spoken (must_stand g at) at p
  alike_speakers (key.Subkey n created) at p = alike_group (good (Bindings n)) at p

  alike_limiting : (stand : Bool) (at : ℕ) → Alike (limiting f stand at) (limiting g stand at)
  alike_limiting stand at =
      alike_append (newest (any Direct) at f.statements) (newest (any Direct) at g.statements) _ _ (alike_group (any Direct) at)
      (alike_append (newest (kept stand (any Certifications)) at f.statements) (newest (kept stand (any Certifications)) at g.statements) _ _ (alike_group (kept stand (any Certifications)) at)
      (alike_append (newest_current (kept stand (any Main)) at f.statements) (newest_current (kept stand (any Main)) at g.statements) _ _ (alike_newest_current (kept stand (any Main)) at f.statements g.statements h)
      (alike_newest_current (kept stand (any Expiring)) at f.statements g.statements h)))

  alike_limiters : (k : Key) (at : ℕ) → Alike (limiters f k at) (limiters g k at)
  alike_limiters key.Primary at p = ap (λ (t : Bool). list_any p (limiting f t at)) (must_same at) ∙ alike_limiting (must_stand g at) at p
  alike_limiters (key.Subkey n created) at p = alike_group (any (Bindings n)) at p

  alike_heard : (k : Key) (at : ℕ) → Alike (heard f k at) (heard g k at)
  alike_heard k at = alike_append (speakers f k at) (speakers g k at) (limiters f k at) (limiters g k at) (alike_speakers k at) (alike_limiters k at)

  same_created : (k : Key) → created_of f k ≡ created_of g k
  same_created key.Primary = c
  same_created (key.Subkey n created) = refl

  unbound_same : (k : Key) (at : ℕ) → is_unbound_at f k at ≡ is_unbound_at g k at
  unbound_same k at = or_same _ _ _ _ (ap not (nonempty_same (speakers f key.Primary at) (speakers g key.Primary at) (alike_speakers key.Primary at))) (ap not (nonempty_same (speakers f k at) (speakers g k at) (alike_speakers k at)))

  ended_same : (at created : ℕ) (a b : List Statement) → Alike a b → has_ended at (end_in created a) ≡ has_ended at (end_in created b)
  ended_same at created a b e = ended_some at created a ∙ e (λ s. has_ended at (end_of created s)) ∙ sym (ended_some at created b)

  expired_same : (k : Key) (at : ℕ) → is_expired_at f k at ≡ is_expired_at g k at
  expired_same k at = or_same _ _ _ _
      (ap (λ n. has_ended at (end_in n (heard f key.Primary at))) c ∙ ended_same at g.created (heard f key.Primary at) (heard g key.Primary at) (alike_heard key.Primary at))
      (ap (λ n. has_ended at (end_in n (heard f k at))) (same_created k) ∙ ended_same at (created_of g k) (heard f k at) (heard g k at) (alike_heard k at))

  flags_same : (k : Key) (at : ℕ) → may_not_sign_at f k at ≡ may_not_sign_at g k at
  flags_same k at = or_same _ _ _ _ (ap not (alike_speakers k at (λ s. s.has_flags)))
      (not_signing (heard f k at) ∙ alike_heard k at (λ s. not s.uses.sign) ∙ sym (not_signing (heard g k at)))

  unbacked_same : (k : Key) (at : ℕ) → is_unbacked_at f k at ≡ is_unbacked_at g k at
  unbacked_same key.Primary at = refl
  unbacked_same (key.Subkey n created) at =
      let k : Key = key.Subkey n created in
      not_all (has_back at) (heard f k at) ∙ alike_heard k at (λ s. not (has_back at s)) ∙ sym (not_all (has_back at) (heard g k at))

  applies_same : (k : Key) (made now : ℕ) (why : Why) → applies f k made now why ≡ applies g k made now why
  applies_same k made now Future = refl
  applies_same k made now Revoked = h (revokes k)
  applies_same k made now Early = or_same _ _ _ _ (ap (λ n. nat_lt made n) c) (ap (λ n. nat_lt made n) (same_created k))
  applies_same k made now Unbound = or_same _ _ _ _ (unbound_same k made) (unbound_same k now)
  applies_same k made now Expired = or_same _ _ _ _ (expired_same k made) (expired_same k now)
  applies_same k made now Flags = or_same _ _ _ _ (flags_same k made) (flags_same k now)
  applies_same k made now Back = or_same _ _ _ _ (unbacked_same k made) (unbacked_same k now)

  pub stands_same : (k : Key) (made now : ℕ) → standing_of f k made now ≡ standing_of g k made now
  stands_same k made now = find_agree (applies f k made now) (applies g k made now) (applies_same k made now) (Future ∷ Revoked ∷ Early ∷ Unbound ∷ Expired ∷ Flags ∷ Back ∷ [])
