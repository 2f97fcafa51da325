-- Ways through statements, step by step.
use Rattle.std.proofs.Common.{◌≡◌, ◌∙◌, ℕ, ◌<◌, ◌≤◌, ◌==◌, List, [], ◌∷◌, ◌++◌, append_assoc, append-nil, Bool, true, false, cond, Option, Some, None, refl, sym, ap, arith}
use Rattle.std.proofs.lemmas.Bool.{and_parts, eqb-true, false≢true, leb-true, lt-ltb, ltb-true}
use Rattle.std.proofs.lemmas.Bool.Decides.{nat_tests}
use Rattle.std.proofs.lemmas.Option.{same_Some}
use Rattle.opgp_valid.specs.Group.{is_the}
use Rattle.opgp_valid.specs.Steps.{ArePast, HasAllAhead, HasAllOn, IsAhead, is_past}
use Rattle.opgp_valid.specs.Told.{is_same_number}
use Rattle.opgp_valid.specs.Walk.{all_on, in_order, is_at_or_behind, up_to}
use Rattle.opgp_valid.specs.declared.statement.Statement.{Statement}
use Rattle.opgp_valid.specs.declared.steps.Steps.{Steps}
use Rattle.opgp_valid.proofs.Walks.{relaxed, run_same}

-- ---- components
past_on : (o c : Option ℕ) (k : ℕ) → is_at_or_behind o c ≡ true → is_past c k ≡ true → is_past o k ≡ true
past_on None c k a p = refl
past_on (Some m) None k a p = absurd (false≢true a)
past_on (Some m) (Some n) k a p =
    let x : m ≤ n = leb-true m n a in
    let y : n < k = ltb-true n k p in
    lt-ltb m k (omega arith)

past_other : (c : Option ℕ) (k : ℕ) → is_past c k ≡ true → is_the k c ≡ false
past_other None k p = refl
past_other (Some n) k p = let l : n < k = ltb-true n k p in grind (arith, nat_tests)

past_new : (o c : Option ℕ) (k : ℕ) → is_at_or_behind o c ≡ true → is_same_number c o ≡ false → c ≡ Some k → is_past o k ≡ true
past_new None c k a d e = refl
past_new (Some m) None k a d e = absurd (false≢true a)
past_new (Some m) (Some n) k a d e =
    let x : m ≤ n = leb-true m n a in
    let y : n ≡ k = same_Some n k e in
    lt-ltb m k (less m n k x y d) where
      less : (m n k : ℕ) → m ≤ n → n ≡ k → (n == m) ≡ false → m < k
      less m n k x y d = grind (arith, nat_tests)

pub same_component : (a b : Option ℕ) → is_same_number a b ≡ true → a ≡ b
same_component None None e = refl
same_component (Some a) (Some b) e = ap Some (eqb-true a b e)
same_component None (Some b) e = absurd (false≢true e)
same_component (Some a) None e = absurd (false≢true e)

-- ---- a step
module _ (ss done : List Statement) (from : Steps) (h : ArePast ss done from) where
  -- at the end
  pub at_end : from.rest.now ≡ [] → done ≡ ss
  at_end e = sym (append-nil done) ∙ ap (λ (l : List Statement). done ++ l) (sym e) ∙ h.passed

  -- at a statement
  module _ (s : Statement) (more : List Statement) (here : from.rest.now ≡ s ∷ more) where
    in_turn : from.is_ordered ≡ true → (is_at_or_behind from.component s.component ≡ true) × (in_order s.component more ≡ true)
    in_turn o = and_parts (is_at_or_behind from.component s.component) (in_order s.component more) (ap (in_order from.component) (sym here) ∙ h.ordered o)

    pub is_ahead : IsAhead from s.component
    is_ahead o = (in_turn o).0

    pub stepped : (to : Steps) → to.all.now ≡ from.all.now → to.rest.now ≡ more → to.is_ordered ≡ from.is_ordered → to.component ≡ s.component → ArePast ss (done ++ s ∷ []) to
    stepped to all rest ordered component = record {
      all = all ∙ h.all;
      passed = ap (λ (l : List Statement). (done ++ s ∷ []) ++ l) rest ∙ append_assoc done (s ∷ []) more ∙ ap (λ (l : List Statement). done ++ l) (sym here) ∙ h.passed;
      ordered = λ o. ap (λ c. in_order c to.rest.now) component ∙ ap (in_order s.component) rest ∙ (in_turn (sym ordered ∙ o)).1;
      same = λ o k p.
          let q : is_past s.component k ≡ true = ap (λ c. is_past c k) (sym component) ∙ p in
          h.same (sym ordered ∙ o) k (past_on from.component s.component k (in_turn (sym ordered ∙ o)).0 q)
          ∙ ap (all_on k) here
          ∙ ap (λ (t : Bool). cond t (s ∷ all_on k more) (all_on k more)) (past_other s.component k q)
          ∙ ap (all_on k) (sym rest);
    }

  -- ---- the statements on a component
  pub all_there : (component : Option ℕ) → HasAllAhead ss from component from.all.now
  all_there component k e p = ap (all_on k) h.all

  pub run_there : (n : ℕ) (part : List Statement) → from.is_ordered ≡ true → part ≡ up_to n from.rest.now → HasAllAhead ss from (Some n) part
  run_there n part o is k e p =
      ap (all_on k) is
      ∙ ap (λ (m : ℕ). all_on k (up_to m from.rest.now)) (same_Some n k e)
      ∙ run_same k from.rest.now (relaxed from.component from.rest.now (h.ordered o))
      ∙ sym (h.same o k (p o))

  pub ahead_there : (component : Option ℕ) (part : List Statement) → IsAhead from component → is_same_number component from.component ≡ false → HasAllAhead ss from component part → HasAllOn ss component part
  ahead_there component part a d w k e = w k e (λ o. past_new from.component component k (a o) d e)
