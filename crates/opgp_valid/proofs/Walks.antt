-- Walks through statements, component by component.
use Rattle.std.proofs.Common.{◌≡◌, ◌∙◌, ℕ, ◌+◌, ◌-◌, ◌<◌, ◌≤◌, nat_le, ◌==◌, List, [], ◌∷◌, ◌++◌, length, take, append-nil, Bool, true, false, ◌&&◌, ◌||◌, cond, Option, Some, None, refl, sym, ap, subst, arith}
use Rattle.std.specs.List.{find, list_any}
use Rattle.std.specs.Option.{option_map, option_or}
use Rattle.std.proofs.lemmas.Bool.{and_parts, false≢true, le-leb, leb-true, ltb-true}
use Rattle.std.proofs.lemmas.Bool.Decides.{nat_tests}
use Rattle.std.proofs.lemmas.Grind.{common_steps}
use Rattle.std.proofs.lemmas.List.Elements.{filter-append}
use Rattle.std.proofs.lemmas.List.Folds.{find-append}
use Rattle.opgp_octets.specs.declared.signature_type.SignatureType.{SignatureType}
use Rattle.opgp_octets.specs.declared.signature_type.SignatureType.TheVariants as types
use Rattle.opgp_valid.specs.Group.{is_the}
use Rattle.opgp_valid.specs.Standing.{is_revocation_of, revokes}
use Rattle.opgp_valid.specs.State.{first_revocation, revocation_in}
use Rattle.opgp_valid.specs.Walk.{all_on, behind, in_order, is_at_or_behind, is_behind, is_from, is_on, up_to}
use Rattle.opgp_valid.specs.declared.facts.Key.{Key}
use Rattle.opgp_valid.specs.declared.facts.Key.TheVariants as key
use Rattle.opgp_valid.specs.declared.state.Revocation.{Revocation}
use Rattle.opgp_valid.specs.declared.statement.Statement.{Statement}

-- ---- the two halves
pub joined : (n : ℕ) (xs : List Statement) → up_to n xs ++ behind n xs ≡ xs
joined n [] = refl
joined n (s ∷ ss) = step (is_behind n s.component) (joined n ss) where
  step : (t : Bool) → up_to n ss ++ behind n ss ≡ ss → cond t [] (s ∷ up_to n ss) ++ cond t (s ∷ ss) (behind n ss) ≡ s ∷ ss
  step true e = refl
  step false e = ap (λ l. s ∷ l) e

taken : (a b : List Statement) → take (length (a ++ b) - length b) (a ++ b) ≡ a
taken a b = grind (arith, common_steps)

pub front : (n : ℕ) (xs : List Statement) → take (length xs - length (behind n xs)) xs ≡ up_to n xs
front n xs = subst (λ (l : List Statement). take (length l - length (behind n xs)) l ≡ up_to n xs) (joined n xs) (taken (up_to n xs) (behind n xs))

lengths : (a b xs : List Statement) → a ++ b ≡ xs → length b ≤ length xs
lengths a b xs e = subst (λ (l : List Statement). length b ≤ length l) e (grind (arith, common_steps))

pub fits : (n : ℕ) (xs : List Statement) → length (behind n xs) ≤ length xs
fits n xs = lengths (up_to n xs) (behind n xs) xs (joined n xs)

-- ---- none on a component
either_false : (a b : Bool) → (a || b) ≡ false → (a ≡ false) × (b ≡ false)
either_false true b e = absurd (false≢true (sym e))
either_false false b e = (refl, e)

none_on : (n : ℕ) (xs : List Statement) → list_any (is_on n) xs ≡ false → all_on n xs ≡ []
none_on n [] e = refl
none_on n (s ∷ ss) e = let h = either_false (is_on n s) (list_any (is_on n) ss) e in ap (λ t. cond t (s ∷ all_on n ss) (all_on n ss)) h.0 ∙ none_on n ss h.1

other_first : (n c : ℕ) (t : SignatureType) (o : Option ℕ) → is_the n o ≡ false → is_revocation_of (key.Subkey n c) t o ≡ is_revocation_of key.Primary t o
other_first n c types.KeyRevocation o e = refl
other_first n c types.SubkeyRevocation o e = e
other_first n c other o e = refl

first_none : (n c : ℕ) (xs : List Statement) → list_any (is_on n) xs ≡ false → first_revocation (key.Subkey n c) xs ≡ first_revocation key.Primary xs
first_none n c [] e = refl
first_none n c (s ∷ ss) e = step (revokes (key.Subkey n c) s) (revokes key.Primary s) (other_first n c s.kind s.component h.0) (first_none n c ss h.1) where
  h : (is_on n s ≡ false) × (list_any (is_on n) ss ≡ false)
  h = either_false (is_on n s) (list_any (is_on n) ss) e

  step : (t u : Bool) → t ≡ u → first_revocation (key.Subkey n c) ss ≡ first_revocation key.Primary ss → option_map revocation_in (cond t (Some s) (find (revokes (key.Subkey n c)) ss)) ≡ option_map revocation_in (cond u (Some s) (find (revokes key.Primary) ss))
  step true true e r = refl
  step false false e r = r
  step true false e r = absurd (false≢true (sym e))
  step false true e r = absurd (false≢true e)

-- what revokes the primary key, revokes the subkeys
less : (n c : ℕ) (t : SignatureType) (o : Option ℕ) → is_revocation_of (key.Subkey n c) t o ≡ false → is_revocation_of key.Primary t o ≡ false
less n c types.KeyRevocation o e = e
less n c types.SubkeyRevocation o e = refl
less n c other o e = refl

absorbed : (n c : ℕ) (xs : List Statement) → option_or (first_revocation (key.Subkey n c) xs) (first_revocation key.Primary xs) ≡ first_revocation (key.Subkey n c) xs
absorbed n c [] = refl
absorbed n c (s ∷ ss) = step (revokes (key.Subkey n c) s) (revokes key.Primary s) (less n c s.kind s.component) (absorbed n c ss) where
  step : (t u : Bool) → (t ≡ false → u ≡ false) → option_or (first_revocation (key.Subkey n c) ss) (first_revocation key.Primary ss) ≡ first_revocation (key.Subkey n c) ss → option_or (option_map revocation_in (cond t (Some s) (find (revokes (key.Subkey n c)) ss))) (option_map revocation_in (cond u (Some s) (find (revokes key.Primary) ss))) ≡ option_map revocation_in (cond t (Some s) (find (revokes (key.Subkey n c)) ss))
  step true u h r = refl
  step false true h r = absurd (false≢true (sym (h refl)))
  step false false h r = r

-- ---- in order
none_before : (n m : ℕ) (xs : List Statement) → n < m → in_order (Some m) xs ≡ true → list_any (is_on n) xs ≡ false
none_before n m [] l e = refl
none_before n m (s ∷ ss) l e = step s.component e (λ k h o. none_before n k ss h o) where
  step : (o : Option ℕ) → (is_at_or_behind (Some m) o && in_order o ss) ≡ true → ((k : ℕ) → n < k → in_order (Some k) ss ≡ true → list_any (is_on n) ss ≡ false) → (is_the n o || list_any (is_on n) ss) ≡ false
  step None e f = absurd (false≢true e)
  step (Some k) e f =
      let h = and_parts (nat_le m k) (in_order (Some k) ss) e in
      let le : m ≤ k = leb-true m k h.0 in
      let r : list_any (is_on n) ss ≡ false = f k (omega arith) h.1 in
      let u : (k == n) ≡ false = grind (arith, nat_tests) in
      rw (u, r) refl

pub relaxed : (o : Option ℕ) (xs : List Statement) → in_order o xs ≡ true → in_order None xs ≡ true
relaxed o [] e = refl
relaxed o (s ∷ ss) e = (and_parts (is_at_or_behind o s.component) (in_order s.component ss) e).1

pub ordered_behind : (n : ℕ) (xs : List Statement) → in_order None xs ≡ true → in_order None (behind n xs) ≡ true
ordered_behind n [] e = refl
ordered_behind n (s ∷ ss) e = step (is_behind n s.component) (ordered_behind n ss (relaxed s.component ss e)) where
  step : (t : Bool) → in_order None (behind n ss) ≡ true → in_order None (cond t (s ∷ ss) (behind n ss)) ≡ true
  step true r = e
  step false r = r

none_behind : (n : ℕ) (xs : List Statement) → in_order None xs ≡ true → list_any (is_on n) (behind n xs) ≡ false
none_behind n [] e = refl
none_behind n (s ∷ ss) e = step s.component (is_behind n s.component) refl refl e (none_behind n ss (relaxed s.component ss e)) where
  step : (o : Option ℕ) (t : Bool) → s.component ≡ o → is_behind n o ≡ t → in_order o ss ≡ true → list_any (is_on n) (behind n ss) ≡ false → list_any (is_on n) (cond t (s ∷ ss) (behind n ss)) ≡ false
  step o false q l i r = r
  step None true q l i r = absurd (false≢true l)
  step (Some k) true q l i r =
      let h : n < k = ltb-true n k l in
      let u : (k == n) ≡ false = grind (arith, nat_tests) in
      let v : is_the n s.component ≡ (k == n) = ap (is_the n) q in
      rw (v, u) (none_before n k ss h i)

none_up_to : (n k : ℕ) (xs : List Statement) → n < k → list_any (is_on k) (up_to n xs) ≡ false
none_up_to n k [] l = refl
none_up_to n k (s ∷ ss) l = step s.component (is_behind n s.component) refl refl (none_up_to n k ss l) where
  step : (o : Option ℕ) (t : Bool) → s.component ≡ o → is_behind n o ≡ t → list_any (is_on k) (up_to n ss) ≡ false → list_any (is_on k) (cond t [] (s ∷ up_to n ss)) ≡ false
  step o true q u r = refl
  step None false q u r = let v : is_the k s.component ≡ false = ap (is_the k) q in rw v r
  step (Some m) false q u r =
      let w : (m == k) ≡ false = grind (arith, nat_tests) in
      let v : is_the k s.component ≡ (m == k) = ap (is_the k) q in
      rw (v, w) r

-- ---- what is enough, and what is to come
first_append : (k : Key) (a b : List Statement) → first_revocation k (a ++ b) ≡ option_or (first_revocation k a) (first_revocation k b)
first_append k a b = ap (option_map revocation_in) (find-append (revokes k) a b) ∙ mapped (find (revokes k) a) (find (revokes k) b) where
  mapped : (o p : Option Statement) → option_map revocation_in (option_or o p) ≡ option_or (option_map revocation_in o) (option_map revocation_in p)
  mapped None p = refl
  mapped (Some s) p = refl

or_assoc : (a b c : Option Revocation) → option_or (option_or a b) c ≡ option_or a (option_or b c)
or_assoc None b c = refl
or_assoc (Some r) b c = refl

first_joined : (k : Key) (n : ℕ) (xs : List Statement) → first_revocation k xs ≡ option_or (first_revocation k (up_to n xs)) (first_revocation k (behind n xs))
first_joined k n xs = ap (first_revocation k) (sym (joined n xs)) ∙ first_append k (up_to n xs) (behind n xs)

all_joined : (k n : ℕ) (xs : List Statement) → all_on k xs ≡ all_on k (up_to n xs) ++ all_on k (behind n xs)
all_joined k n xs = ap (all_on k) (sym (joined n xs)) ∙ filter-append (is_on k) (up_to n xs) (behind n xs)

-- all that are to come are enough
pub all_first : (ss xs : List Statement) (e : Option Revocation) (n c : ℕ) → first_revocation key.Primary ss ≡ option_or e (first_revocation key.Primary xs) → first_revocation (key.Subkey n c) ss ≡ option_or e (first_revocation (key.Subkey n c) xs) → first_revocation (key.Subkey n c) ss ≡ option_or e (option_or (first_revocation (key.Subkey n c) xs) (first_revocation key.Primary ss))
all_first ss xs None n c p q = q ∙ sym (absorbed n c xs) ∙ ap (option_or (first_revocation (key.Subkey n c) xs)) (sym p)
all_first ss xs (Some r) n c p q = q

-- in order, those up to the next component are
pub run_same : (n : ℕ) (xs : List Statement) → in_order None xs ≡ true → all_on n (up_to n xs) ≡ all_on n xs
run_same n xs i = sym (append-nil (all_on n (up_to n xs))) ∙ ap (λ l. all_on n (up_to n xs) ++ l) (sym (none_on n (behind n xs) (none_behind n xs i))) ∙ sym (all_joined n n xs)

pub run_first : (ss xs : List Statement) (e : Option Revocation) (n c : ℕ) → in_order None xs ≡ true → first_revocation key.Primary ss ≡ option_or e (first_revocation key.Primary xs) → first_revocation (key.Subkey n c) ss ≡ option_or e (first_revocation (key.Subkey n c) xs) → first_revocation (key.Subkey n c) ss ≡ option_or e (option_or (first_revocation (key.Subkey n c) (up_to n xs)) (first_revocation key.Primary ss))
run_first ss xs (Some r) n c i p q = q
run_first ss xs None n c i p q =
    let run = first_revocation (key.Subkey n c) (up_to n xs) in
    let rest = first_revocation key.Primary (behind n xs) in
    q ∙ first_joined (key.Subkey n c) n xs
    ∙ ap (option_or run) (first_none n c (behind n xs) (none_behind n xs i))
    ∙ ap (λ o. option_or o rest) (sym (absorbed n c (up_to n xs)))
    ∙ or_assoc run (first_revocation key.Primary (up_to n xs)) rest
    ∙ ap (option_or run) (sym (p ∙ first_joined key.Primary n xs))

-- and those from there on are to come
pub rest_same : (n k : ℕ) (xs : List Statement) → n < k → all_on k (behind n xs) ≡ all_on k xs
rest_same n k xs l = ap (λ a. a ++ all_on k (behind n xs)) (sym (none_on k (up_to n xs) (none_up_to n k xs l))) ∙ sym (all_joined k n xs)

passed : (k : Key) (n : ℕ) (xs : List Statement) → is_from (n + 1) k ≡ true → first_revocation k (up_to n xs) ≡ first_revocation key.Primary (up_to n xs)
passed key.Primary n xs l = refl
passed (key.Subkey m c) n xs l = let h : n + 1 ≤ m = leb-true (n + 1) m l in first_none m c (up_to n xs) (none_up_to n m xs (omega arith))

pub rest_first : (ss xs : List Statement) (e : Option Revocation) (n : ℕ) (k : Key) → is_from (n + 1) k ≡ true → first_revocation k ss ≡ option_or e (first_revocation k xs) → first_revocation k ss ≡ option_or (option_or e (first_revocation key.Primary (up_to n xs))) (first_revocation k (behind n xs))
rest_first ss xs e n k l q =
    q ∙ ap (option_or e) (first_joined k n xs ∙ ap (λ o. option_or o (first_revocation k (behind n xs))) (passed k n xs l))
    ∙ sym (or_assoc e (first_revocation key.Primary (up_to n xs)) (first_revocation k (behind n xs)))

-- from a component on, and so from the one before it
pub from_before : (n : ℕ) (k : Key) → is_from (n + 1) k ≡ true → is_from n k ≡ true
from_before n key.Primary l = refl
from_before n (key.Subkey m c) l = let h : n + 1 ≤ m = leb-true (n + 1) m l in le-leb n m (omega arith)
