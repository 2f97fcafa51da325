-- What the newest of some signatures say, gathered one by one.
use Rattle.std.proofs.Common.{◌≡◌, ◌∙◌, ℕ, ◌≤◌, ◌==◌, nat_le, List, [], ◌∷◌, ◌++◌, Bool, true, false, ◌&&◌, cond, Option, Some, None, refl, sym, ap, subst, arith, max, append-nil}
use Rattle.std.specs.List.{filter}
use Rattle.std.proofs.lemmas.Bool.{eqb-true, or_parts}
use Rattle.std.proofs.lemmas.Bool.Decides.{nat_tests}
use Rattle.std.proofs.lemmas.List.Elements.{filter-append}
use Rattle.opgp_valid.specs.Current.{IsNewestOf, latest_at, latest_in, said_then, said_too, with_current, with_one}
use Rattle.opgp_valid.specs.Group.{speaks}
use Rattle.opgp_valid.specs.Saying.{merged, saying_of}
use Rattle.opgp_valid.specs.Speaking.{is_current, is_same, later, latest, latest_on, made_at, made_then, newest_current, speakers}
use Rattle.opgp_valid.specs.Steps.{ArePast, HasPart, HasStep, part_shown}
use Rattle.opgp_valid.specs.declared.current.Newest.{Newest}
use Rattle.opgp_valid.specs.declared.group.Group.{Group}
use Rattle.opgp_valid.specs.declared.saying.Saying.{Saying}
use Rattle.opgp_valid.specs.declared.statement.Statement.{Statement}
use Rattle.opgp_valid.specs.declared.steps.Step.{Step}
use Rattle.opgp_valid.specs.declared.steps.Steps.{Steps}
use Rattle.opgp_valid.proofs.Alike.{later_reaches, reaches}
use Rattle.opgp_valid.proofs.Parts.{same_latest_on}
use Rattle.opgp_valid.proofs.Sayings.{later_assoc, said_both}

-- ---- when they were made
later_none : (a : Option ℕ) → later a None ≡ a
later_none None = refl
later_none (Some a) = refl

latest_append : (a b : List Statement) → latest (a ++ b) ≡ later (latest a) (latest b)
latest_append [] b = refl
latest_append (s ∷ a) b = ap (later (made_at s)) (latest_append a b) ∙ sym (later_assoc (made_at s) (latest a) (latest b))

latest_more : (ss : List Statement) (s : Statement) → latest (ss ++ s ∷ []) ≡ later (latest ss) (made_at s)
latest_more ss s = latest_append ss (s ∷ []) ∙ ap (later (latest ss)) (later_none (made_at s))

-- none was made at a time that none reaches
not_then : (n : ℕ) (o : Option ℕ) → reaches n o ≡ false → is_same o (Some n) ≡ false
not_then n None e = refl
not_then n (Some m) e = grind (arith, nat_tests)

none_then : (n : ℕ) (ss : List Statement) → reaches n (latest ss) ≡ false → made_then (Some n) ss ≡ []
none_then n [] e = refl
none_then n (s ∷ ss) e =
    let h = or_parts (reaches n (made_at s)) (reaches n (latest ss)) (sym (later_reaches n (made_at s) (latest ss)) ∙ e) in
    ap (λ (t : Bool). cond t (s ∷ made_then (Some n) ss) (made_then (Some n) ss)) (not_then n (made_at s) h.0) ∙ none_then n ss h.1

never_same : (o : Option ℕ) → is_same o None ≡ false
never_same None = refl
never_same (Some a) = refl

none_never : (ss : List Statement) → made_then None ss ≡ []
none_never [] = refl
none_never (s ∷ ss) = ap (λ (t : Bool). cond t (s ∷ made_then None ss) (made_then None ss)) (never_same (made_at s)) ∙ none_never ss

-- those that were made at a time that isn't before the latest
then_latest : (ss : List Statement) (m : Option ℕ) → made_then (later (latest ss) m) ss ≡ cond (is_same (later (latest ss) m) (latest ss)) (made_then (latest ss) ss) []
then_latest ss m = step (latest ss) m refl where
  one : (n : ℕ) (l : Option ℕ) → latest ss ≡ l → (t : Bool) → is_same (Some n) l ≡ t → (t ≡ true → l ≡ Some n) → (t ≡ false → reaches n l ≡ false) → made_then (Some n) ss ≡ cond t (made_then l ss) []
  one n l e true q f g = ap (λ (o : Option ℕ). made_then o ss) (sym (f refl))
  one n l e false q f g = none_then n ss (ap (reaches n) e ∙ g refl)

  same_at : (n k : ℕ) → (n == k) ≡ true → Some k ≡ Some n
  same_at n k e = ap Some (sym (eqb-true n k e))

  lower : (n k : ℕ) → k ≤ n → (n == k) ≡ false → nat_le n k ≡ false
  lower n k l e = grind (arith, nat_tests)

  step : (l m : Option ℕ) → latest ss ≡ l → made_then (later l m) ss ≡ cond (is_same (later l m) l) (made_then l ss) []
  step None None e = none_never ss
  step None (Some n) e = one n None e false refl (λ f. absurd (cc f)) (λ g. refl)
  step (Some k) None e = one k (Some k) e (k == k) refl (λ f. refl) (λ g. lower k k (omega arith) g)
  step (Some k) (Some n) e = one (max k n) (Some k) e (max k n == k) refl (same_at (max k n) k) (λ g. lower (max k n) k (omega arith) g)

-- ---- one more
module _ (created at : ℕ) (ss : List Statement) (newest : Newest) (s : Statement) (h : IsNewestOf created at ss newest) where
  abbrev time : Option ℕ
  time = latest (ss ++ s ∷ [])

  same_last : later newest.last (made_at s) ≡ time
  same_last = ap (λ (t : Option ℕ). later t (made_at s)) h.last ∙ sym (latest_more ss s)

  pushed : (t : Bool) (a : List Statement) → cond t (saying_of created at a) (saying_of created at []) ≡ saying_of created at (cond t a [])
  pushed true a = refl
  pushed false a = refl

  then_now : made_then time ss ≡ cond (is_same time (latest ss)) (made_then (latest ss) ss) []
  then_now = subst (λ (t : Option ℕ). made_then t ss ≡ cond (is_same t (latest ss)) (made_then (latest ss) ss) []) (sym (latest_more ss s)) (then_latest ss (made_at s))

  said : said_then created at newest time ≡ saying_of created at (made_then time ss)
  said =
      ap (λ (t : Option ℕ). cond (is_same time t) newest.saying (saying_of created at [])) h.last
      ∙ ap (λ (x : Saying). cond (is_same time (latest ss)) x (saying_of created at [])) h.saying
      ∙ pushed (is_same time (latest ss)) (made_then (latest ss) ss)
      ∙ ap (saying_of created at) (sym then_now)

  added : (t : Bool) → cond t (merged (saying_of created at (made_then time ss)) (saying_of created at (s ∷ []))) (saying_of created at (made_then time ss)) ≡ saying_of created at (made_then time ss ++ cond t (s ∷ []) [])
  added true = sym (said_both created at (made_then time ss) (s ∷ []))
  added false = ap (saying_of created at) (sym (append-nil (made_then time ss)))

  pub one_more : IsNewestOf created at (ss ++ s ∷ []) (with_one created at newest s)
  one_more = record {
    last = same_last;
    saying =
        ap (λ (t : Option ℕ). said_too created at (said_then created at newest t) s t) same_last
        ∙ ap (λ (x : Saying). said_too created at x s time) said
        ∙ added (is_same (made_at s) time)
        ∙ ap (saying_of created at) (sym (filter-append (λ (r : Statement). is_same (made_at r) time) ss (s ∷ [])));
  }

-- ---- on the way
-- those that were passed are gathered: when the newest certifications of the component that was
-- come to were made, and what the newest say of all that are the newest of their components
pub record IsGathered (group : Group) (created at : ℕ) (ss : List Statement) (steps : Steps) (last : Option ℕ) (newest : Newest) : Type 0 where
  pub done : List Statement
  pub past : ArePast ss done steps
  pub here : last ≡ latest_on group at ss steps.component
  pub newest_of : IsNewestOf created at (filter (is_current group at ss) (speakers group at done)) newest

module _ (group : Group) (created at : ℕ) (ss : List Statement) where
  pub gathered_none : (steps : Steps) (newest : Newest) → ArePast ss [] steps → steps.component ≡ None → IsNewestOf created at [] newest → IsGathered group created at ss steps None newest
  gathered_none steps newest past none said = record { done = []; past = past; here = sym (ap (latest_on group at ss) none); newest_of = said }

  latest_of_part : (before component : Option ℕ) (part : Option (List Statement)) → HasPart ss before component part → latest_in group at (latest_on group at ss before) component part ≡ latest_on group at ss component
  latest_of_part before component None h = ap (latest_on group at ss) (sym h)
  latest_of_part before None (Some part) h = refl
  latest_of_part before (Some n) (Some part) h = same_latest_on group n at part ss (h n refl)

  module _ (s : Statement) where
    one_kept : (t : Bool) → filter (is_current group at ss) (cond t (s ∷ []) []) ≡ cond (t && is_current group at ss s) (s ∷ []) []
    one_kept true = refl
    one_kept false = refl

    kept_more : (done : List Statement) → filter (is_current group at ss) (speakers group at (done ++ s ∷ [])) ≡ filter (is_current group at ss) (speakers group at done) ++ cond (speaks group at s && is_current group at ss s) (s ∷ []) []
    kept_more done =
        ap (filter (is_current group at ss)) (filter-append (speaks group at) done (s ∷ []))
        ∙ filter-append (is_current group at ss) (speakers group at done) (filter (speaks group at) (s ∷ []))
        ∙ ap (λ (l : List Statement). filter (is_current group at ss) (speakers group at done) ++ l) (one_kept (speaks group at s))

    perhaps_more : (t : Bool) (l : List Statement) (newest : Newest) → IsNewestOf created at l newest → IsNewestOf created at (l ++ cond t (s ∷ []) []) (cond t (with_one created at newest s) newest)
    perhaps_more true l newest h = one_more created at l newest s h
    perhaps_more false l newest h = subst (λ (x : List Statement). IsNewestOf created at x newest) (sym (append-nil l)) h

  pub gathered_more : (from to : Steps) (step : Step) (last : Option ℕ) (newest : Newest) → IsGathered group created at ss from last newest → ((all done : List Statement) → ArePast all done from → HasStep all done from step to) → IsGathered group created at ss to (latest_at group at last step) (with_current created at group (latest_at group at last step) newest step.statement.now)
  gathered_more from to step last newest h stepped =
      let s : Statement = step.statement.now in
      let w : HasStep ss h.done from step to = stepped ss h.done h.past in
      let l : List Statement = filter (is_current group at ss) (speakers group at h.done) in
      let time : latest_at group at last step ≡ latest_on group at ss s.component = ap (λ (t : Option ℕ). latest_in group at t s.component (part_shown step)) h.here ∙ latest_of_part from.component s.component (part_shown step) w.part in
      record {
        done = h.done ++ s ∷ [];
        past = w.passed;
        here = time ∙ ap (latest_on group at ss) (sym w.component);
        newest_of =
            subst (λ (x : List Statement). IsNewestOf created at x (with_current created at group (latest_at group at last step) newest s)) (sym (kept_more s h.done))
            (subst (λ (t : Option ℕ). IsNewestOf created at (l ++ cond (speaks group at s && is_current group at ss s) (s ∷ []) []) (with_current created at group t newest s)) (sym time)
            (perhaps_more s (speaks group at s && is_current group at ss s) l newest h.newest_of));
      }

  pub gathered_all : (steps : Steps) (last : Option ℕ) (newest : Newest) → IsGathered group created at ss steps last newest → ((all done : List Statement) → ArePast all done steps → done ≡ all) → newest.saying ≡ saying_of created at (newest_current group at ss)
  gathered_all steps last newest h ended =
      h.newest_of.saying ∙ ap (λ (done : List Statement). saying_of created at (made_then (latest (filter (is_current group at ss) (speakers group at done))) (filter (is_current group at ss) (speakers group at done)))) (ended ss h.done h.past)
