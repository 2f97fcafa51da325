-- Causes of one key, by some of the statements.
use Rattle.std.proofs.Common.{◌≡◌, ◌∙◌, ℕ, ◌+◌, List, [], ◌∷◌, ◌++◌, append_assoc, Bool, true, false, not, cond, ◌&&◌, ◌||◌, Option, Some, None, refl, sym, ap, subst}
use Rattle.std.specs.List.{filter, find, list_any}
use Rattle.std.specs.Option.{option_map}
use Rattle.opgp_octets.specs.declared.packet_type.PacketType.TheVariants as packet
use Rattle.opgp_frame.specs.Header.{is_type}
use Rattle.opgp_frame.specs.Packet.{PacketValue}
use Rattle.opgp_keyring.specs.Keyring.{ComponentValue}
use Rattle.opgp_valid.specs.Cause.{cause_by, ends_it, expired_at, expired_by, expired_key, has_lack, is_lacking, is_so_at, lack_of, lacking_by, only_now, revoked_by, spot_of, time_of, unbound_at, unbound_by, unbound_key}
use Rattle.opgp_valid.specs.KeyCauses.{AreEnoughFor, causes_from, expired_shared, part_cause, revoked_with, unbound_shared, unusable_cause}
use Rattle.opgp_valid.specs.Facts.{FactsValue}
use Rattle.opgp_valid.specs.Group.{binds, is_primary, is_the}
use Rattle.opgp_valid.specs.Judgement.{subkey_at}
use Rattle.opgp_valid.specs.Policy as policy
use Rattle.opgp_valid.specs.Saying.{is_nonempty}
use Rattle.opgp_valid.specs.Speaking.{end_in}
use Rattle.opgp_valid.specs.Standing.{applies, created_of, has_ended, heard, is_expired_at, is_unbound_at, revokes, speakers}
use Rattle.opgp_valid.specs.State.{revocation_in, unusable}
use Rattle.opgp_valid.specs.Walk.{all_on, is_on}
use Rattle.opgp_valid.specs.declared.cause.Cause.{Cause}
use Rattle.opgp_valid.specs.declared.doubt.Lack.{Lack}
use Rattle.opgp_valid.specs.declared.doubt.Lack.TheVariants.{Newer, Lapsed, Weak, Malformed, Undated, Young, Critical}
use Rattle.opgp_valid.specs.declared.facts.Key.{Key}
use Rattle.opgp_valid.specs.declared.facts.Key.TheVariants as key
use Rattle.opgp_valid.specs.declared.statement.Statement.{Statement}
use Rattle.opgp_valid.specs.declared.why.Why.{Why}
use Rattle.opgp_valid.specs.declared.why.Why.TheVariants.{Revoked, Early, Unbound, Expired}
use Rattle.opgp_valid.proofs.Parts.{same_found}

-- ---- the first of some, where only what is on a component passes
module _ (p q : Statement → Bool) (h : (s : Statement) → q s ≡ false → p s ≡ false) where
  first : (ss : List Statement) → find p (filter q ss) ≡ find p ss
  first [] = refl
  first (s ∷ ss) = step (q s) refl (first ss) where
    step : (t : Bool) → q s ≡ t → find p (filter q ss) ≡ find p ss → find p (cond t (s ∷ filter q ss) (filter q ss)) ≡ cond (p s) (Some s) (find p ss)
    step true e r = ap (λ o. cond (p s) (Some s) o) r
    step false e r = r ∙ sym (ap (λ b. cond b (Some s) (find p ss)) (h s e))

  same_first : (a b : List Statement) → filter q a ≡ filter q b → find p a ≡ find p b
  same_first a b e = sym (first a) ∙ ap (find p) e ∙ first b

-- the same test finds the same
same_test : {A : Type 0} (p q : A → Bool) → ((x : A) → p x ≡ q x) → (xs : List A) → find p xs ≡ find q xs
same_test p q h [] = refl
same_test {A} p q h (x ∷ xs) = ap (λ b. cond b (Some x) (find p xs)) (h x) ∙ ap (λ o. cond (q x) (Some x) o) (same_test p q h xs)

-- ---- of a subkey
bound_elsewhere : (a b c r : Bool) → c ≡ false → ((a && (b && c)) && r) ≡ false
bound_elsewhere true true c r e = ap (λ x. x && r) e
bound_elsewhere true false c r e = refl
bound_elsewhere false b c r e = refl

module _ (n created at : ℕ) (f g : FactsValue) (e : all_on n g.statements ≡ all_on n f.statements) where
  abbrev subkey : Key
  subkey = key.Subkey n created

  elsewhere : (lack : Lack) (s : Statement) → is_on n s ≡ false → is_lacking f subkey at lack s ≡ false
  elsewhere lack s h = bound_elsewhere (is_primary s.author) (binds s.kind) (is_the n s.component) _ h

  same_lack : (lack : Lack) → has_lack g subkey at lack ≡ has_lack f subkey at lack
  unfolding has_lack
  same_lack lack = same_found (is_lacking f subkey at lack) (is_on n) (elsewhere lack) g.statements f.statements e

  same_lacking : (lack : Lack) → find (is_lacking g subkey at lack) g.statements ≡ find (is_lacking f subkey at lack) f.statements
  same_lacking lack = same_first (is_lacking f subkey at lack) (is_on n) (elsewhere lack) g.statements f.statements e

  same_lack_of : lack_of g subkey at ≡ lack_of f subkey at
  unfolding lack_of
  same_lack_of = same_test (has_lack g subkey at) (has_lack f subkey at) same_lack (Newer ∷ Lapsed ∷ Weak ∷ Malformed ∷ Undated ∷ Young ∷ Critical ∷ [])

  same_unbound_by : (o : Option Lack) → unbound_by g subkey false at o ≡ unbound_by f subkey false at o
  same_unbound_by None = refl
  same_unbound_by (Some lack) = ap (lacking_by subkey false lack) (same_lacking lack)

  same_unbound : unbound_at g subkey false at ≡ unbound_at f subkey false at
  unfolding unbound_at
  same_unbound = ap (unbound_by g subkey false at) same_lack_of ∙ same_unbound_by (lack_of f subkey at)

  same_expired : (end : Option ℕ) → expired_by g subkey false at end ≡ expired_by f subkey false at end
  same_expired end = ap (λ o. expired_with o) (same_first (ends_it subkey created end at) (is_on n) out g.statements f.statements e) where
    out : (s : Statement) → is_on n s ≡ false → ends_it subkey created end at s ≡ false
    out s h = bound_elsewhere (is_primary s.author) (binds s.kind) (is_the n s.component) _ h

    expired_with : Option Statement → Cause
    expired_with o = record { why = Expired; key = subkey; is_now = false; lack = None; date = end; spot = option_map spot_of o }

  pub enough : AreEnoughFor f subkey at g
  enough = record { unbound = same_unbound; expired = same_expired }

-- ---- by the first revocation
pub revoked_shown : (k : Key) (o : Option Statement) → revoked_with k (option_map revocation_in o) ≡ revoked_by k o
revoked_shown k None = refl
revoked_shown k (Some s) = refl

-- ---- a reason that is found applies
found_passes : {A : Type 0} (p : A → Bool) (xs : List A) (x : A) → find p xs ≡ Some x → p x ≡ true
found_passes p [] x e = cc e
found_passes {A} p (y ∷ ys) x e = step (p y) refl (found_passes p ys x) e where
  step : (t : Bool) → p y ≡ t → (find p ys ≡ Some x → p x ≡ true) → cond t (Some y) (find p ys) ≡ Some x → p x ≡ true
  step true h later k = let same : y ≡ x = cc k in subst (λ (z : A). p z ≡ true) same h
  step false h later k = later k

once : (a : Bool) → (a || a) ≡ true → a ≡ true
once true e = refl
once false e = e

module _ (f : FactsValue) (k : Key) (at : ℕ) where
  is_unbound : unusable f k at ≡ Some Unbound → is_unbound_at f k at ≡ true
  is_unbound e = once (is_unbound_at f k at) (found_passes (applies f k at at) (Revoked ∷ Early ∷ Unbound ∷ Expired ∷ []) Unbound e)

  has_expired : unusable f k at ≡ Some Expired → is_expired_at f k at ≡ true
  has_expired e = once (is_expired_at f k at) (found_passes (applies f k at at) (Revoked ∷ Early ∷ Unbound ∷ Expired ∷ []) Expired e)

  -- at one time it isn't so only now
  pub unbound_once : unusable f k at ≡ Some Unbound → unbound_at f (unbound_key f k at) false at ≡ cause_by f k at at Unbound
  unfolding only_now
  unbound_once e = ap (λ (b : Bool). unbound_at f (unbound_key f k (cond (not b) at at)) (not b) (cond (not b) at at)) (sym (is_unbound e))

  pub expired_once : unusable f k at ≡ Some Expired → expired_at f (expired_key f k at) false at ≡ cause_by f k at at Expired
  unfolding only_now
  expired_once e = ap (λ (b : Bool). expired_at f (expired_key f k (cond (not b) at at)) (not b) (cond (not b) at at)) (sym (has_expired e))

  -- ---- of the primary key, or of the key itself
  pub unbound_there : (c : Cause) → unbound_shared f at ≡ Some c → c ≡ unbound_at f (unbound_key f k at) false at
  unfolding unbound_key
  unbound_there c e = step (is_nonempty (speakers f key.Primary at)) e where
    step : (t : Bool) → cond t None (Some (unbound_at f key.Primary false at)) ≡ Some c → c ≡ unbound_at f (cond t k key.Primary) false at
    step true h = cc h
    step false h = cc h

  pub unbound_here : unbound_shared f at ≡ None → unbound_at f k false at ≡ unbound_at f (unbound_key f k at) false at
  unfolding unbound_key
  unbound_here e = step (is_nonempty (speakers f key.Primary at)) e where
    step : (t : Bool) → cond t None (Some (unbound_at f key.Primary false at)) ≡ None → unbound_at f k false at ≡ unbound_at f (cond t k key.Primary) false at
    step true h = refl
    step false h = cc h

  pub expired_there : (c : Cause) → expired_shared f at ≡ Some c → c ≡ expired_at f (expired_key f k at) false at
  unfolding expired_key
  expired_there c e = step (has_ended at (end_in f.created (heard f key.Primary at))) e where
    step : (t : Bool) → cond t (Some (expired_at f key.Primary false at)) None ≡ Some c → c ≡ expired_at f (cond t key.Primary k) false at
    step true h = cc h
    step false h = cc h

  pub expired_here : expired_shared f at ≡ None → expired_by f k false at (end_in (created_of f k) (heard f k at)) ≡ expired_at f (expired_key f k at) false at
  unfolding expired_key expired_at
  expired_here e = step (has_ended at (end_in f.created (heard f key.Primary at))) e where
    step : (t : Bool) → cond t (Some (expired_by f key.Primary false at (end_in (created_of f key.Primary) (heard f key.Primary at)))) None ≡ None
        → expired_by f k false at (end_in (created_of f k) (heard f k at)) ≡ expired_by f (cond t key.Primary k) false at (end_in (created_of f (cond t key.Primary k)) (heard f (cond t key.Primary k) at))
    step true h = cc h
    step false h = refl

-- the end that has come is told
pub expired_found : (f : FactsValue) (at : ℕ) (end : Option ℕ) (c : Cause) → end ≡ end_in f.created (heard f key.Primary at) → has_ended at end ≡ true → c ≡ expired_by f key.Primary false at end → Some c ≡ expired_shared f at
unfolding expired_at
expired_found f at end c e h g =
    let come : has_ended at (end_in f.created (heard f key.Primary at)) ≡ true = subst (λ (o : Option ℕ). has_ended at o ≡ true) e h in
    ap Some g
    ∙ ap (λ (o : Option ℕ). Some (expired_by f key.Primary false at o)) e
    ∙ sym (ap (λ (b : Bool). cond b (Some (expired_by f key.Primary false at (end_in (created_of f key.Primary) (heard f key.Primary at)))) None) come)

-- ---- the causes of components
-- of a component that is a subkey
pub subkey_there : (f : FactsValue) (at n created kind : ℕ) (head : PacketValue) (body : List ℕ) (x : Option Cause) → 14 ≡ kind → kind ≡ head.kind → body ≡ head.body → created ≡ policy.created_of body
    → x ≡ unusable_cause f (key.Subkey n created) at
    → x ≡ part_cause f at (cond (is_type packet.PublicSubkey head.kind) (Some (key.Subkey n (policy.created_of head.body))) None)
subkey_there f at n created kind head body x is same octets made e =
    e
    ∙ ap (λ (m : ℕ). unusable_cause f (key.Subkey n m) at) (made ∙ ap policy.created_of octets)
    ∙ sym (ap (λ (m : ℕ). part_cause f at (cond (is_type packet.PublicSubkey m) (Some (key.Subkey n (policy.created_of head.body))) None)) (sym same ∙ sym is))

-- the cause of the next component, added to those so far
pub added : (f : FactsValue) (at n : ℕ) (before after : List (Option Cause)) (x : Option Cause) (c : ComponentValue) (left more : List ComponentValue) (all : List (Option Cause))
    → left ≡ c ∷ more → x ≡ part_cause f at (subkey_at n (Some c)) → after ≡ before ++ x ∷ [] → before ++ causes_from f at n left ≡ all → after ++ causes_from f at (n + 1) more ≡ all
added f at n before after x c left more all here cause pushed e =
    ap (λ l. l ++ causes_from f at (n + 1) more) pushed
    ∙ append_assoc before (x ∷ []) (causes_from f at (n + 1) more)
    ∙ ap (λ y. before ++ y ∷ causes_from f at (n + 1) more) cause
    ∙ ap (λ l. before ++ causes_from f at n l) (sym here) ∙ e
