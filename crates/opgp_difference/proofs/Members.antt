-- Entries among those that pass a test, or that stand first.
use Rattle.std.proofs.Common.{◌≡◌, ◌∙◌, Bool, true, false, cond, not, List, [], ◌∷◌, ◌++◌, refl, sym, ap}
use Rattle.std.specs.Prelude.{◌&&◌, ◌||◌}
use Rattle.std.specs.List.{filter}
use Rattle.std.proofs.lemmas.List.Elements.{filter-append}
use Rattle.opgp_difference.specs.Difference.{firsts}
use Rattle.opgp_difference.specs.Entries.{Entry, Standing, is_in, same_entry}
use Rattle.opgp_difference.proofs.Same.{entries_decide}

-- ---- lists one behind the other
or_grouped : (a b c : Bool) → (a || (b || c)) ≡ ((a || b) || c)
or_grouped true b c = refl
or_grouped false b c = refl

pub or_false : (b : Bool) → (b || false) ≡ b
or_false true = refl
or_false false = refl

pub and_false : (b : Bool) → (b && false) ≡ false
and_false true = refl
and_false false = refl

pub and_true : (b : Bool) → (b && true) ≡ b
and_true true = refl
and_true false = refl

pub in_append : (xs ys : List Standing) (e : Entry) → is_in (xs ++ ys) e ≡ (is_in xs e || is_in ys e)
in_append [] ys e = refl
in_append (x ∷ xs) ys e = ap (λ (b : Bool). same_entry e x.entry || b) (in_append xs ys e) ∙ or_grouped (same_entry e x.entry) (is_in xs e) (is_in ys e)

pub in_more : (xs : List Standing) (x : Standing) (e : Entry) → is_in (xs ++ x ∷ []) e ≡ (is_in xs e || same_entry e x.entry)
in_more xs x e = in_append xs (x ∷ []) e ∙ ap (λ (b : Bool). is_in xs e || b) (or_false (same_entry e x.entry))

-- ---- those that pass
passed : (same passes other : Bool) → (same ≡ true → other ≡ passes) → (rest more : Bool) → more ≡ (rest && passes)
    → cond other (same || more) more ≡ ((same || rest) && passes)
passed true true other f rest more is = ap (λ (b : Bool). cond b true more) (f refl)
passed true false other f rest more is = ap (λ (b : Bool). cond b true more) (f refl) ∙ is ∙ and_false rest
passed false passes true f rest more is = is
passed false passes false f rest more is = is

pub in_filter : (test : Entry → Bool) (all : List Standing) (e : Entry) → is_in (filter (λ s. test s.entry) all) e ≡ (is_in all e && test e)
in_filter test [] e = refl
in_filter test (s ∷ ss) e =
    split (test s.entry) ∙ passed (same_entry e s.entry) (test e) (test s.entry)
    (λ h. ap test (sym ((entries_decide e s.entry).0 h))) (is_in ss e) (is_in (filter (λ t. test t.entry) ss) e) (in_filter test ss e)
  where
    split : (b : Bool) → is_in (cond b (s ∷ filter (λ t. test t.entry) ss) (filter (λ t. test t.entry) ss)) e ≡ cond b (same_entry e s.entry || is_in (filter (λ t. test t.entry) ss) e) (is_in (filter (λ t. test t.entry) ss) e)
    split true = refl
    split false = refl

-- ---- those that stand first
first_or : (same rest : Bool) → (same || (rest && not same)) ≡ (same || rest)
first_or true rest = refl
first_or false rest = and_true rest

pub in_firsts : (all : List Standing) (e : Entry) → is_in (firsts all) e ≡ is_in all e
in_firsts [] e = refl
in_firsts (s ∷ ss) e =
    ap (λ (b : Bool). same_entry e s.entry || b)
    (in_filter (λ x. not (same_entry x s.entry)) (firsts ss) e ∙ ap (λ (b : Bool). b && not (same_entry e s.entry)) (in_firsts ss e))
    ∙ first_or (same_entry e s.entry) (is_in ss e)

first_step : (same known : Bool) (s x : Standing) (rest : List Standing)
    → s ∷ cond known rest (rest ++ cond (not same) (x ∷ []) []) ≡ cond (same || known) (s ∷ rest) (s ∷ (rest ++ x ∷ []))
first_step true true s x rest = refl
first_step true false s x rest = ap (λ (l : List Standing). s ∷ l) (nothing rest)
  where
    nothing : (l : List Standing) → l ++ [] ≡ l
    nothing [] = refl
    nothing (y ∷ ys) = ap (λ (k : List Standing). y ∷ k) (nothing ys)
first_step false true s x rest = refl
first_step false false s x rest = refl

pub firsts_more : (all : List Standing) (x : Standing) → firsts (all ++ x ∷ []) ≡ cond (is_in all x.entry) (firsts all) (firsts all ++ x ∷ [])
firsts_more [] x = refl
firsts_more (s ∷ ss) x =
    ap (λ (l : List Standing). s ∷ filter (λ t. not (same_entry t.entry s.entry)) l) (firsts_more ss x)
    ∙ ap (λ (l : List Standing). s ∷ l) (spread (is_in ss x.entry))
    ∙ first_step (same_entry x.entry s.entry) (is_in ss x.entry) s x (filter (λ t. not (same_entry t.entry s.entry)) (firsts ss))
  where
    spread : (b : Bool) → filter (λ t. not (same_entry t.entry s.entry)) (cond b (firsts ss) (firsts ss ++ x ∷ []))
        ≡ cond b (filter (λ t. not (same_entry t.entry s.entry)) (firsts ss)) (filter (λ t. not (same_entry t.entry s.entry)) (firsts ss) ++ cond (not (same_entry x.entry s.entry)) (x ∷ []) [])
    spread true = refl
    spread false = filter-append (λ t. not (same_entry t.entry s.entry)) (firsts ss) (x ∷ [])

-- one more is kept if it passes and isn't there
pub passing_more : (test : Entry → Bool) (all : List Standing) (x : Standing)
    → filter (λ s. test s.entry) (firsts (all ++ x ∷ []))
    ≡ cond (test x.entry && not (is_in (filter (λ s. test s.entry) (firsts all)) x.entry)) (filter (λ s. test s.entry) (firsts all) ++ x ∷ []) (filter (λ s. test s.entry) (firsts all))
passing_more test all x =
    ap (filter (λ s. test s.entry)) (firsts_more all x)
    ∙ by (is_in all x.entry) (test x.entry) refl
    ∙ ap (λ (b : Bool). cond (test x.entry && not b) (filter (λ s. test s.entry) (firsts all) ++ x ∷ []) (filter (λ s. test s.entry) (firsts all)))
    (sym (in_filter test (firsts all) x.entry ∙ ap (λ (b : Bool). b && test x.entry) (in_firsts all x.entry)))
  where
    by : (known passes : Bool) → test x.entry ≡ passes
        → filter (λ s. test s.entry) (cond known (firsts all) (firsts all ++ x ∷ []))
        ≡ cond (test x.entry && not (known && test x.entry)) (filter (λ s. test s.entry) (firsts all) ++ x ∷ []) (filter (λ s. test s.entry) (firsts all))
    by true true is = ap (λ (b : Bool). cond (b && not b) (filter (λ s. test s.entry) (firsts all) ++ x ∷ []) (filter (λ s. test s.entry) (firsts all))) (sym is)
    by true false is = ap (λ (b : Bool). cond (b && not b) (filter (λ s. test s.entry) (firsts all) ++ x ∷ []) (filter (λ s. test s.entry) (firsts all))) (sym is)
    by false passes is =
        filter-append (λ s. test s.entry) (firsts all) (x ∷ [])
        ∙ ap (λ (b : Bool). filter (λ s. test s.entry) (firsts all) ++ cond b (x ∷ []) []) is
        ∙ last passes
        ∙ ap (λ (b : Bool). cond (b && true) (filter (λ s. test s.entry) (firsts all) ++ x ∷ []) (filter (λ s. test s.entry) (firsts all))) (sym is)
      where
        nothing : (l : List Standing) → l ++ [] ≡ l
        nothing [] = refl
        nothing (y ∷ ys) = ap (λ (k : List Standing). y ∷ k) (nothing ys)

        last : (b : Bool) → filter (λ s. test s.entry) (firsts all) ++ cond b (x ∷ []) [] ≡ cond (b && true) (filter (λ s. test s.entry) (firsts all) ++ x ∷ []) (filter (λ s. test s.entry) (firsts all))
        last true = refl
        last false = nothing (filter (λ s. test s.entry) (firsts all))
