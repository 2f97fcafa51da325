-- What is said of one component, by the statements on it.
use Rattle.std.proofs.Common.{◌≡◌, ◌∙◌, ℕ, ◌+◌, ◌≤◌, length, length-append, arith, ◌&&◌, ◌||◌, List, [], ◌∷◌, ◌++◌, append_assoc, Some, Bool, true, false, cond, refl, sym, ap}
use Rattle.std.specs.List.{filter, flat_map, list_any}
use Rattle.opgp_keyring.specs.Keyring.{ComponentValue, component_packets}
use Rattle.opgp_valid.specs.Facts.{FactsValue}
use Rattle.opgp_valid.specs.Group.{any, good, is_the, on_component, speaks}
use Rattle.opgp_valid.specs.Judgement.{subkey_at}
use Rattle.opgp_valid.specs.Moment.{subkey_saying_of}
use Rattle.opgp_valid.specs.Saying.{heard_of}
use Rattle.opgp_valid.specs.Speaking.{latest, latest_on, made_then, newest}
use Rattle.opgp_valid.specs.State.{identity_of, revokes_identity, vouches}
use Rattle.opgp_valid.specs.States.{part_state, states_from}
use Rattle.opgp_valid.specs.Walk.{all_on, is_on}
use Rattle.opgp_valid.specs.declared.group.Group.{Group}
use Rattle.opgp_valid.specs.declared.group.Sort.TheVariants.{Bindings}
use Rattle.opgp_valid.specs.declared.state.IdentityState.{IdentityState}
use Rattle.opgp_valid.specs.declared.state.IdentityState.TheVariants as identity
use Rattle.opgp_valid.specs.declared.statement.Statement.{Statement}
use Rattle.opgp_valid.specs.declared.states.PartState.{PartState}

-- ---- tests that only what is on a component passes
module _ (p q : Statement → Bool) (h : (s : Statement) → q s ≡ false → p s ≡ false) where
  kept : (ss : List Statement) → filter p (filter q ss) ≡ filter p ss
  kept [] = refl
  kept (s ∷ ss) = step (q s) refl (kept ss) where
    step : (t : Bool) → q s ≡ t → filter p (filter q ss) ≡ filter p ss → filter p (cond t (s ∷ filter q ss) (filter q ss)) ≡ cond (p s) (s ∷ filter p ss) (filter p ss)
    step true e r = ap (λ l. cond (p s) (s ∷ l) l) r
    step false e r = r ∙ sym (ap (λ b. cond b (s ∷ filter p ss) (filter p ss)) (h s e))

  found : (ss : List Statement) → list_any p (filter q ss) ≡ list_any p ss
  found [] = refl
  found (s ∷ ss) = step (q s) refl (found ss) where
    step : (t : Bool) → q s ≡ t → list_any p (filter q ss) ≡ list_any p ss → list_any p (cond t (s ∷ filter q ss) (filter q ss)) ≡ (p s || list_any p ss)
    step true e r = ap (λ b. p s || b) r
    step false e r = r ∙ sym (ap (λ b. b || list_any p ss) (h s e))

  pub same_kept : (a b : List Statement) → filter q a ≡ filter q b → filter p a ≡ filter p b
  same_kept a b e = sym (kept a) ∙ ap (filter p) e ∙ kept b

  pub same_found : (a b : List Statement) → filter q a ≡ filter q b → list_any p a ≡ list_any p b
  same_found a b e = sym (found a) ∙ ap (list_any p) e ∙ found b

-- ---- a test with a part that fails
first_fails : (b c r : Bool) → c ≡ false → ((b && c) && r) ≡ false
first_fails true c r e = ap (λ x. x && r) e
first_fails false c r e = refl

pub then_fails : (b c r : Bool) → c ≡ false → (b && (c && r)) ≡ false
then_fails true c r e = ap (λ x. x && r) e
then_fails false c r e = refl

-- ---- of the subkey
module _ (n at : ℕ) (a b : List Statement) (e : all_on n a ≡ all_on n b) where
  same_newest : (group : Group) → group.sort ≡ Bindings n → newest group at a ≡ newest group at b
  same_newest group s = ap (λ l. made_then (latest l) l) (same_kept (speaks group at) (is_on n) out a b e) where
    out : (x : Statement) → is_on n x ≡ false → speaks group at x ≡ false
    out x f = rw s (first_fails _ (is_the n x.component) _ f)

  pub same_saying : (created : ℕ) → subkey_saying_of a n created at ≡ subkey_saying_of b n created at
  same_saying created =
      ap (λ l. heard_of created at l (newest (any (Bindings n)) at a)) (same_newest (good (Bindings n)) refl)
      ∙ ap (λ l. heard_of created at (newest (good (Bindings n)) at b) l) (same_newest (any (Bindings n)) refl)

-- ---- of the user ID or user attribute
-- when the newest certifications of it were made
pub same_latest_on : (group : Group) (n at : ℕ) (a b : List Statement) → all_on n a ≡ all_on n b → latest_on group at a (Some n) ≡ latest_on group at b (Some n)
same_latest_on group n at a b e = ap latest (same_kept (speaks (on_component n group) at) (is_on n) out a b e) where
  out : (x : Statement) → is_on n x ≡ false → speaks (on_component n group) at x ≡ false
  out x f = first_fails _ (is_the n x.component) _ f

pub same_identity : (n at : ℕ) (f g : FactsValue) → all_on n f.statements ≡ all_on n g.statements → identity_of f n at ≡ identity_of g n at
same_identity n at f g e =
    ap (λ t. state t (list_any (revokes_identity n) f.statements)) (same_found (vouches n at) (is_on n) (λ s h. then_fails _ (is_the n s.component) _ h) f.statements g.statements e)
    ∙ ap (λ t. state (list_any (vouches n at) g.statements) t) (same_found (revokes_identity n) (is_on n) (λ s h. then_fails _ (is_the n s.component) _ h) f.statements g.statements e) where
      state : Bool → Bool → IdentityState
      state t u = cond t identity.Certified (cond u identity.Revoked identity.Unbound)

-- ---- the states of components
-- the state of the next component, added to those so far
pub added : (f : FactsValue) (at n : ℕ) (before after : List PartState) (x : PartState) (c : ComponentValue) (left more : List ComponentValue) (all : List PartState)
    → left ≡ c ∷ more → x ≡ part_state f at (subkey_at n (Some c)) n → after ≡ before ++ x ∷ [] → before ++ states_from f at n left ≡ all → after ++ states_from f at (n + 1) more ≡ all
added f at n before after x c left more all here state pushed e =
    ap (λ l. l ++ states_from f at (n + 1) more) pushed
    ∙ append_assoc before (x ∷ []) (states_from f at (n + 1) more)
    ∙ ap (λ y. before ++ y ∷ states_from f at (n + 1) more) state
    ∙ ap (λ l. before ++ states_from f at n l) (sym here) ∙ e

-- there are fewer components than packets
pub counted : (n : ℕ) (c : ComponentValue) (left more : List ComponentValue) (most : ℕ) → left ≡ c ∷ more → n + length (flat_map component_packets left) ≤ most → n + 1 + length (flat_map component_packets more) ≤ most
counted n c left more most here e =
    let one : 1 ≤ length (component_packets c) = omega arith in
    let all : length (flat_map component_packets left) ≡ length (component_packets c) + length (flat_map component_packets more) = ap (λ l. length (flat_map component_packets l)) here ∙ length-append (component_packets c) (flat_map component_packets more) in
    omega arith
