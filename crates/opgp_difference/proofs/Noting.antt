-- A tree of packets, with one more.
use denote.Ref.{Bor}
use Rattle.std.proofs.Common.{◌≡◌, ◌∙◌, ℕ, ◌+◌, ◌<◌, ◌≤◌, Bool, true, false, cond, List, [], ◌∷◌, ◌++◌, Option, Some, None, refl, sym, ap, arith, ◌⊎◌, inl, inr, ⊎_elim, is_some}
use Rattle.std.specs.Prelude.{◌&&◌, ◌||◌, ◌==◌, nat_lt}
use Rattle.std.specs.BTreeMap.{btree_map_len}
use Rattle.std.specs.Cmp.{both_tied}
use Rattle.std.specs.Cmp.Lexicographic.{slice_cmp}
use Rattle.std.specs.Option.{option_and_then}
use Rattle.std.specs.declared.cmp.Ordering.TheVariants.{Less, Equal, Greater}
use Rattle.std.specs.Ordering.{is_eq, nat_cmp, ordering_then}
use Rattle.std.specs.Str.{bytes_eq}
use borrow.Author.Tests.{ltb-true}
use Rattle.std.proofs.lemmas.Bool.{eqb-true}
use Rattle.std.proofs.lemmas.Map.Text.{is_eq-slice_cmp}
use Rattle.opgp_difference.specs.Entries.{Entry, Name, Standing, is_in, same_entry, same_name, stands_at, PlacedValue}
use Rattle.opgp_difference.specs.Tree.{HasEntries, IsTree, Tree, child, key_cmp, node_of}
use Rattle.opgp_difference.proofs.Same.{agree, both_true, entries_decide, fails_by, left_true, names_decide, not_itself, right_true, true_false}

some_inj : (m n : ℕ) → Some m ≡ Some n → m ≡ n
some_inj m n e = cc

none_some : {A : Type 0} (n : ℕ) → None ≡ Some n → A
none_some n e = absurd (cc)

-- ---- keys that tie
tied_step : (lt eq : Bool) → (lt ≡ true → eq ≡ true → ⊥) → eq ≡ is_eq (cond lt Less (cond eq Equal Greater))
tied_step true true h = absurd (h refl refl)
tied_step true false h = refl
tied_step false true h = refl
tied_step false false h = refl

number_tied : (a b : ℕ) → (a == b) ≡ is_eq (nat_cmp a b)
number_tied a b = tied_step (nat_lt a b) (a == b) (λ e f. let lt : a < b = ltb-true a b e in let eq : a ≡ b = eqb-true a b f in absurd (omega arith))

abbrev pub same_key : ℕ → Name → ℕ → Name → Bool
same_key p n q m = (p == q) && same_name n m

abbrev pub bor : List ℕ → Bor (List ℕ)
bor xs = record { ref_ptr = (0, 0); now = xs }

pub keys_tied : (p q : ℕ) (n m : Name) → is_eq (key_cmp p n (q, m.0, bor m.1)) ≡ same_key p n q m
keys_tied p q n m =
    let front : ((p == q) && (n.0 == m.0)) ≡ is_eq (ordering_then (nat_cmp p q) (nat_cmp n.0 m.0)) = both_tied (p == q) (n.0 == m.0) (nat_cmp p q) (nat_cmp n.0 m.0) (number_tied p q) (number_tied n.0 m.0) in
    sym (both_tied ((p == q) && (n.0 == m.0)) (bytes_eq n.1 m.1) (ordering_then (nat_cmp p q) (nat_cmp n.0 m.0)) (slice_cmp nat_cmp n.1 m.1) front (sym (is_eq-slice_cmp n.1 m.1)))
    ∙ grouped (p == q) (n.0 == m.0) (bytes_eq n.1 m.1)
  where
    grouped : (a b c : Bool) → ((a && b) && c) ≡ (a && (b && c))
    grouped true b c = refl
    grouped false b c = refl

pub same_key_is : (p q : ℕ) (n m : Name) → same_key p n q m ≡ true → (p ≡ q) × (n ≡ m)
same_key_is p q n m e = (eqb-true p q (left_true (p == q) (same_name n m) e), (names_decide n m).0 (right_true (p == q) (same_name n m) e))

-- ---- what a tree knows
pub through : (h : ℕ → Option ℕ) (o : Option ℕ) (v : ℕ) → option_and_then h o ≡ Some v → (r : ℕ) × (o ≡ Some r) × (h r ≡ Some v)
through h None v e = none_some v e
through h (Some r) v e = (r, refl, e)

module _ (t : Tree) (tree : IsTree t) where
  pub node_most : (f : Entry) (q : ℕ) → node_of t f ≡ Some q → q ≤ btree_map_len t
  node_most [] q e = let z : 0 ≡ q = some_inj 0 q e in omega arith
  node_most (m ∷ g) q e = let r = through (λ above. child t above m) (node_of t g) q e in tree.most r.0 q m r.2

  pub one_node : (f g : Entry) (q : ℕ) → node_of t f ≡ Some q → node_of t g ≡ Some q → f ≡ g
  one_node [] [] q e h = refl
  one_node [] (m ∷ g) q e h =
      let z : 0 ≡ q = some_inj 0 q e in
      let r = through (λ above. child t above m) (node_of t g) q h in
      let l : r.0 < q = tree.above r.0 q m r.2 in absurd (omega arith)
  one_node (k ∷ f) [] q e h =
      let z : 0 ≡ q = some_inj 0 q h in
      let r = through (λ above. child t above k) (node_of t f) q e in
      let l : r.0 < q = tree.above r.0 q k r.2 in absurd (omega arith)
  one_node (k ∷ f) (m ∷ g) q e h =
      let r = through (λ above. child t above k) (node_of t f) q e in
      let s = through (λ above. child t above m) (node_of t g) q h in
      let both = tree.alone r.0 s.0 q k m r.2 s.2 in
      let rest : f ≡ g = one_node f g r.0 r.1 (s.1 ∙ ap (λ (x : ℕ). Some x) (sym both.0)) in
      λ i. both.1 i ∷ rest i

  pub tail_same : (p : ℕ) (n : Name) (e : Entry) → node_of t e ≡ Some p → (m : Name) (g : Entry) (q : ℕ) → node_of t g ≡ Some q → same_key p n q m ≡ same_entry (m ∷ g) (n ∷ e)
  tail_same p n e stands m g q is = agree (same_key p n q m) (same_entry (m ∷ g) (n ∷ e))
      (λ k.
      let both = same_key_is p q n m k in
      let rest : g ≡ e = one_node g e p (is ∙ ap (λ (x : ℕ). Some x) (sym both.0)) stands in
      let name : m ≡ n = sym both.1 in
      (entries_decide (m ∷ g) (n ∷ e)).1 (λ i. name i ∷ rest i))
      (λ k.
      let name : m ≡ n = (names_decide m n).0 (left_true (same_name m n) (same_entry g e) k) in
      let rest : g ≡ e = (entries_decide g e).0 (right_true (same_name m n) (same_entry g e) k) in
      let number : p ≡ q = some_inj p q (sym stands ∙ ap (λ (x : Entry). node_of t x) (sym rest) ∙ is) in
      both_true (p == q) (same_name n m) (number_same p q number) ((names_decide n m).1 (sym name)))
    where
      number_same : (a b : ℕ) → a ≡ b → (a == b) ≡ true
      number_same a b k = grind arith

-- ---- one more entry
is_in_more : (met : List Standing) (f x : Entry) (place : PlacedValue) → is_in (met ++ stands_at x place ∷ []) f ≡ (is_in met f || same_entry f x)
is_in_more [] f x place = or_false (same_entry f x)
  where
    or_false : (b : Bool) → (b || false) ≡ b
    or_false true = refl
    or_false false = refl
is_in_more (s ∷ ss) f x place = ap (λ (b : Bool). same_entry f s.entry || b) (is_in_more ss f x place) ∙ or_right (same_entry f s.entry) (is_in ss f) (same_entry f x)
  where
    or_right : (a b c : Bool) → (a || (b || c)) ≡ ((a || b) || c)
    or_right true b c = refl
    or_right false b c = refl

or_known : (b c : Bool) → (c ≡ true → b ≡ true) → b ≡ (b || c)
or_known true c f = refl
or_known false true f = f refl
or_known false false f = refl

-- one that is there
pub again : (t : Tree) (met : List Standing) (p v : ℕ) (n : Name) (e : Entry) (place : PlacedValue) → HasEntries t met → node_of t e ≡ Some p → child t p n ≡ Some v
    → HasEntries t (met ++ stands_at (n ∷ e) place ∷ [])
again t met p v n e place has stands found = record {
  tree = has.tree;
  entries = λ m g.
      let there : is_in met (n ∷ e) ≡ true = sym (has.entries n e) ∙ ap (λ (o : Option ℕ). is_some (option_and_then (λ above. child t above n) o)) stands ∙ ap (λ (o : Option ℕ). is_some o) found in
      has.entries m g ∙ or_known (is_in met (m ∷ g)) (same_entry (m ∷ g) (n ∷ e)) (λ h. ap (λ (x : Entry). is_in met x) ((entries_decide (m ∷ g) (n ∷ e)).0 h) ∙ there) ∙ sym (is_in_more met (m ∷ g) (n ∷ e) place);
}

module _ (t u : Tree) (met : List Standing) (has : HasEntries t met) (p v : ℕ) (n : Name) (e : Entry) (stands : node_of t e ≡ Some p) (absent : child t p n ≡ None)
    (fresh : v ≡ btree_map_len t + 1) (len : btree_map_len u ≡ btree_map_len t + 1)
    (updates : (q : ℕ) (m : Name) → child u q m ≡ cond (same_key p n q m) (Some v) (child t q m)) where
  below : p < v
  below = let l : p ≤ btree_map_len t = node_most t has.tree e p stands in omega arith

  old_absent : node_of t (n ∷ e) ≡ None
  old_absent = ap (option_and_then (λ above. child t above n)) stands ∙ absent

  came : (q w : ℕ) (m : Name) → child u q m ≡ Some w → ((p ≡ q) × (n ≡ m) × (w ≡ v)) ⊎ (child t q m ≡ Some w)
  came q w m h = by (same_key p n q m) refl
    where
      by : (b : Bool) → same_key p n q m ≡ b → ((p ≡ q) × (n ≡ m) × (w ≡ v)) ⊎ (child t q m ≡ Some w)
      by true k =
          let is = same_key_is p q n m k in
          inl (is.0, is.1, some_inj w v (sym h ∙ updates q m ∙ ap (λ (b : Bool). cond b (Some v) (child t q m)) k))
      by false k = inr (sym (ap (λ (b : Bool). cond b (Some v) (child t q m)) k) ∙ sym (updates q m) ∙ h)

  -- nothing hangs on a number that is new
  none_above : (m : Name) → child u v m ≡ None
  none_above m = updates v m ∙ ap (λ (b : Bool). cond b (Some v) (child t v m)) apart ∙ none (child t v m) refl
    where
      apart : same_key p n v m ≡ false
      apart = fails_by (same_key p n v m) (λ k. let is = same_key_is p v n m k in let same : p ≡ v = is.0 in let l : p < v = below in absurd (omega arith))

      none : (o : Option ℕ) → child t v m ≡ o → child t v m ≡ None
      none None k = k
      none (Some w) k =
          let l : v < w = has.tree.above v w m k in
          let h : w ≤ btree_map_len t = has.tree.most v w m k in absurd (omega arith)

  pub node_new : (f : Entry) → node_of u f ≡ cond (same_entry f (n ∷ e)) (Some v) (node_of t f)
  node_new [] = refl
  node_new (m ∷ g) = by (node_new g) (same_entry g (n ∷ e)) refl (node_of t g) refl
    where
      by : node_of u g ≡ cond (same_entry g (n ∷ e)) (Some v) (node_of t g) → (b : Bool) → same_entry g (n ∷ e) ≡ b → (o : Option ℕ) → node_of t g ≡ o → node_of u (m ∷ g) ≡ cond (same_entry (m ∷ g) (n ∷ e)) (Some v) (node_of t (m ∷ g))
      by before true k o is =
          let same : g ≡ n ∷ e = (entries_decide g (n ∷ e)).0 k in
          let left : node_of u (m ∷ g) ≡ None = ap (option_and_then (λ above. child u above m)) (before ∙ ap (λ (b : Bool). cond b (Some v) (node_of t g)) k) ∙ none_above m in
          let other : same_entry (m ∷ g) (n ∷ e) ≡ false = fails_by (same_entry (m ∷ g) (n ∷ e)) (λ h.
          true_false (sym (right_true (same_name m n) (same_entry g e) h) ∙ ap (λ (x : Entry). same_entry x e) same ∙ longer)) in
          let right : node_of t (m ∷ g) ≡ None = ap (option_and_then (λ above. child t above m)) (ap (node_of t) same ∙ old_absent) in
          left ∙ sym right ∙ ap (λ (b : Bool). cond b (Some v) (node_of t (m ∷ g))) (sym other)
        where
          longer : same_entry (n ∷ e) e ≡ false
          longer = fails_by (same_entry (n ∷ e) e) (λ h. true_false (sym ((entries_decide e (n ∷ e)).1 (sym ((entries_decide (n ∷ e) e).0 h))) ∙ not_itself n e))
      by before false k None is =
          let left : node_of u (m ∷ g) ≡ None = ap (option_and_then (λ above. child u above m)) (before ∙ ap (λ (b : Bool). cond b (Some v) (node_of t g)) k ∙ is) in
          let right : node_of t (m ∷ g) ≡ None = ap (option_and_then (λ above. child t above m)) is in
          let other : same_entry (m ∷ g) (n ∷ e) ≡ false = fails_by (same_entry (m ∷ g) (n ∷ e)) (λ h.
          let rest : g ≡ e = (entries_decide g e).0 (right_true (same_name m n) (same_entry g e) h) in
          none_some p (sym is ∙ ap (node_of t) rest ∙ stands)) in
          left ∙ sym right ∙ ap (λ (b : Bool). cond b (Some v) (node_of t (m ∷ g))) (sym other)
      by before false k (Some q) is =
          let left : node_of u (m ∷ g) ≡ child u q m = ap (option_and_then (λ above. child u above m)) (before ∙ ap (λ (b : Bool). cond b (Some v) (node_of t g)) k ∙ is) in
          let right : node_of t (m ∷ g) ≡ child t q m = ap (option_and_then (λ above. child t above m)) is in
          left ∙ updates q m ∙ ap (λ (b : Bool). cond b (Some v) (child t q m)) (tail_same t has.tree p n e stands m g q is) ∙ ap (λ (o : Option ℕ). cond (same_entry (m ∷ g) (n ∷ e)) (Some v) o) (sym right)

  pub new_node : node_of u (n ∷ e) ≡ Some v
  new_node = node_new (n ∷ e) ∙ ap (λ (b : Bool). cond b (Some v) (node_of t (n ∷ e))) ((entries_decide (n ∷ e) (n ∷ e)).1 refl)

  pub nodes_stay : (f : Entry) (q : ℕ) → node_of t f ≡ Some q → node_of u f ≡ Some q
  nodes_stay f q is = node_new f ∙ ap (λ (b : Bool). cond b (Some v) (node_of t f)) other ∙ is
    where
      other : same_entry f (n ∷ e) ≡ false
      other = fails_by (same_entry f (n ∷ e)) (λ h. none_some q (sym old_absent ∙ ap (node_of t) (sym ((entries_decide f (n ∷ e)).0 h)) ∙ is))

  grown_tree : IsTree u
  grown_tree = record {
    above = λ q w m h. ⊎_elim
        (λ (c : (p ≡ q) × (n ≡ m) × (w ≡ v)). let a : p ≡ q = c.0 in let b : w ≡ v = c.2 in let l : p < v = below in omega arith)
        (λ (c : child t q m ≡ Some w). has.tree.above q w m c)
        (came q w m h);
    most = λ q w m h. ⊎_elim
        (λ (c : (p ≡ q) × (n ≡ m) × (w ≡ v)). let b : w ≡ v = c.2 in omega arith)
        (λ (c : child t q m ≡ Some w). let l : w ≤ btree_map_len t = has.tree.most q w m c in omega arith)
        (came q w m h);
    alone = λ q r w m k h i. ⊎_elim
        (λ (c : (p ≡ q) × (n ≡ m) × (w ≡ v)). ⊎_elim
        (λ (d : (p ≡ r) × (n ≡ k) × (w ≡ v)). (sym c.0 ∙ d.0, sym c.1 ∙ d.1))
        (λ (d : child t r k ≡ Some w). let l : w ≤ btree_map_len t = has.tree.most r w k d in let b : w ≡ v = c.2 in absurd (omega arith))
        (came r w k i))
        (λ (c : child t q m ≡ Some w). ⊎_elim
        (λ (d : (p ≡ r) × (n ≡ k) × (w ≡ v)). let l : w ≤ btree_map_len t = has.tree.most q w m c in let b : w ≡ v = d.2 in absurd (omega arith))
        (λ (d : child t r k ≡ Some w). has.tree.alone q r w m k c d)
        (came r w k i))
        (came q w m h);
  }

  pub grown : (place : PlacedValue) → HasEntries u (met ++ stands_at (n ∷ e) place ∷ [])
  grown place = record {
    tree = grown_tree;
    entries = λ m g.
        ap (λ (o : Option ℕ). is_some o) (node_new (m ∷ g))
        ∙ some_or (same_entry (m ∷ g) (n ∷ e)) (node_of t (m ∷ g))
        ∙ ap (λ (b : Bool). b || same_entry (m ∷ g) (n ∷ e)) (has.entries m g)
        ∙ sym (is_in_more met (m ∷ g) (n ∷ e) place);
  }
    where
      some_or : (b : Bool) (o : Option ℕ) → is_some (cond b (Some v) o) ≡ (is_some o || b)
      some_or true None = refl
      some_or true (Some x) = refl
      some_or false None = refl
      some_or false (Some x) = refl
