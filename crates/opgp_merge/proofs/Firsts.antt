-- The items of a list that aren't the same as an earlier one, where the same is to have the same key.
use Rattle.std.proofs.Common.{◌≡◌, ◌∙◌, Bool, true, false, cond, not, List, [], ◌∷◌, map, refl, sym, ap, ◌⊎◌, inl, inr, ⊎_elim, Decides}
use Rattle.std.specs.List.{filter}
use Rattle.opgp_merge.specs.Merged.{firsts, like}
use Rattle.opgp_merge.proofs.Within.{Within}

false_true : {A : Type 0} → false ≡ true → A
false_true e = absurd (cc)

pub true_or_false : (b : Bool) → (b ≡ true) ⊎ (b ≡ false)
true_or_false true = inl refl
true_or_false false = inr refl

not_true : (b : Bool) → b ≡ false → not b ≡ true
not_true b e = ap not e

was_false : (b : Bool) → not b ≡ true → b ≡ false
was_false true e = sym e
was_false false e = refl

-- ---- filters
module _ {X : Type 0} where
  pub passes : (p : X → Bool) (x : X) (xs : List X) → p x ≡ true → filter p (x ∷ xs) ≡ x ∷ filter p xs
  passes p x xs e = ap (λ (b : Bool). cond b (x ∷ filter p xs) (filter p xs)) e

  pub fails : (p : X → Bool) (x : X) (xs : List X) → p x ≡ false → filter p (x ∷ xs) ≡ filter p xs
  fails p x xs e = ap (λ (b : Bool). cond b (x ∷ filter p xs) (filter p xs)) e

  -- what passes p passes q
  absorbed : (p q : X → Bool) → ((z : X) → p z ≡ true → q z ≡ true) → (xs : List X) → filter p (filter q xs) ≡ filter p xs
  absorbed p q f [] = refl
  absorbed p q f (x ∷ xs) = ⊎_elim
      (λ (e : p x ≡ true). ap (filter p) (passes q x xs (f x e)) ∙ passes p x (filter q xs) e ∙ ap (λ (l : List X). x ∷ l) (absorbed p q f xs) ∙ sym (passes p x xs e))
      (λ (e : p x ≡ false). ⊎_elim
      (λ (g : q x ≡ true). ap (filter p) (passes q x xs g) ∙ fails p x (filter q xs) e ∙ absorbed p q f xs ∙ sym (fails p x xs e))
      (λ (g : q x ≡ false). ap (filter p) (fails q x xs g) ∙ absorbed p q f xs ∙ sym (fails p x xs e))
      (true_or_false (q x)))
      (true_or_false (p x))

  commute : (p q : X → Bool) → (xs : List X) → filter p (filter q xs) ≡ filter q (filter p xs)
  commute p q [] = refl
  commute p q (x ∷ xs) = ⊎_elim
      (λ (e : p x ≡ true). ⊎_elim
      (λ (g : q x ≡ true). ap (filter p) (passes q x xs g) ∙ passes p x (filter q xs) e ∙ ap (λ (l : List X). x ∷ l) (commute p q xs) ∙ sym (passes q x (filter p xs) g) ∙ sym (ap (filter q) (passes p x xs e)))
      (λ (g : q x ≡ false). ap (filter p) (fails q x xs g) ∙ commute p q xs ∙ sym (fails q x (filter p xs) g) ∙ sym (ap (filter q) (passes p x xs e)))
      (true_or_false (q x)))
      (λ (e : p x ≡ false). ⊎_elim
      (λ (g : q x ≡ true). ap (filter p) (passes q x xs g) ∙ fails p x (filter q xs) e ∙ commute p q xs ∙ sym (ap (filter q) (fails p x xs e)))
      (λ (g : q x ≡ false). ap (filter p) (fails q x xs g) ∙ commute p q xs ∙ sym (ap (filter q) (fails p x xs e)))
      (true_or_false (q x)))
      (true_or_false (p x))

  -- what passes p doesn't pass q
  none_left : (p q : X → Bool) → ((z : X) → p z ≡ true → q z ≡ false) → (xs : List X) → filter p (filter q xs) ≡ []
  none_left p q f [] = refl
  none_left p q f (x ∷ xs) = ⊎_elim
      (λ (g : q x ≡ true). ap (filter p) (passes q x xs g) ∙ fails p x (filter q xs) (opposite x g) ∙ none_left p q f xs)
      (λ (g : q x ≡ false). ap (filter p) (fails q x xs g) ∙ none_left p q f xs)
      (true_or_false (q x))
    where
      opposite : (z : X) → q z ≡ true → p z ≡ false
      opposite z g = ⊎_elim (λ (e : p z ≡ true). false_true (sym (f z e) ∙ g)) (λ (e : p z ≡ false). e) (true_or_false (p z))

  pub in_filter : (p : X → Bool) (x : X) (xs : List X) → Within xs x → p x ≡ true → Within (filter p xs) x
  in_filter p x [] w t = elim w [ ]
  in_filter p x (y ∷ ys) (inl e) t = rw (passes p y ys (ap p e ∙ t)) (inl e)
  in_filter p x (y ∷ ys) (inr w) t = ⊎_elim
      (λ (e : p y ≡ true). rw (passes p y ys e) (inr (in_filter p x ys w t)))
      (λ (e : p y ≡ false). rw (fails p y ys e) (in_filter p x ys w t))
      (true_or_false (p y))

  pub from_filter : (p : X → Bool) (x : X) (xs : List X) → Within (filter p xs) x → Within xs x × (p x ≡ true)
  from_filter p x [] w = elim w [ ]
  from_filter p x (y ∷ ys) w = by (λ v. from_filter p x ys v) (p y) refl w
    where
      by : (Within (filter p ys) x → Within ys x × (p x ≡ true)) → (b : Bool) → p y ≡ b → Within (cond b (y ∷ filter p ys) (filter p ys)) x → Within (y ∷ ys) x × (p x ≡ true)
      by rest true e (inl g) = (inl g, ap p (sym g) ∙ e)
      by rest true e (inr v) = let r = rest v in (inr r.0, r.1)
      by rest false e v = let r = rest v in (inr r.0, r.1)

-- ---- the firsts by a key
module _ {X K : Type 0} (same : X → X → Bool) (key : X → K) (decides : (x y : X) → Decides (same x y) (key x ≡ key y)) where
  pub same_itself : (x : X) → same x x ≡ true
  same_itself x = (decides x x).1 refl

  pub turned : (x y : X) → same x y ≡ true → same y x ≡ true
  turned x y e = (decides y x).1 (sym ((decides x y).0 e))

  pub through : (x y z : X) → same x y ≡ true → same y z ≡ true → same x z ≡ true
  through x y z e f = (decides x z).1 ((decides x y).0 e ∙ (decides y z).0 f)

  -- same things are the same as the same others
  pub alike : (x y z : X) → same y z ≡ true → same x y ≡ same x z
  alike x y z e = ⊎_elim
      (λ (f : same x y ≡ true). f ∙ sym (through x y z f e))
      (λ (f : same x y ≡ false). ⊎_elim
      (λ (g : same x z ≡ true). false_true (sym f ∙ through x z y g (turned y z e)))
      (λ (g : same x z ≡ false). f ∙ sym g)
      (true_or_false (same x z)))
      (true_or_false (same x y))

  abbrev Respects : (X → Bool) → Type 0
  Respects p = (y z : X) → same y z ≡ true → p y ≡ p z

  other : X → X → Bool
  other x y = not (same x y)

  other_respects : (x : X) → Respects (other x)
  unfolding other
  other_respects x y z e = ap not (alike x y z e)

  firsts_of_filter : (p : X → Bool) → Respects p → (xs : List X) → firsts same (filter p xs) ≡ filter p (firsts same xs)
  unfolding other
  firsts_of_filter p r [] = refl
  firsts_of_filter p r (x ∷ xs) = ⊎_elim
      (λ (e : p x ≡ true). ap (firsts same) (passes p x xs e)
      ∙ ap (λ (l : List X). x ∷ filter (other x) l) (firsts_of_filter p r xs)
      ∙ ap (λ (l : List X). x ∷ l) (commute (other x) p (firsts same xs))
      ∙ sym (passes p x (filter (other x) (firsts same xs)) e))
      (λ (e : p x ≡ false). ap (firsts same) (fails p x xs e)
      ∙ firsts_of_filter p r xs
      ∙ sym (absorbed p (other x) (λ z t. not_true (same x z) (⊎_elim
      (λ (s : same x z ≡ true). false_true (sym e ∙ (r x z s ∙ t)))
      (λ (s : same x z ≡ false). s)
      (true_or_false (same x z)))) (firsts same xs))
      ∙ sym (fails p x (filter (other x) (firsts same xs)) e))
      (true_or_false (p x))

  pub firsts_twice : (xs : List X) → firsts same (firsts same xs) ≡ firsts same xs
  unfolding other
  firsts_twice [] = refl
  firsts_twice (x ∷ xs) =
      ap (λ (l : List X). x ∷ filter (other x) l) (firsts_of_filter (other x) (other_respects x) (firsts same xs) ∙ ap (filter (other x)) (firsts_twice xs))
      ∙ ap (λ (l : List X). x ∷ l) (absorbed (other x) (other x) (λ z e. e) (firsts same xs))

  pub from_firsts : (x : X) (xs : List X) → Within (firsts same xs) x → Within xs x
  from_firsts x [] w = elim w [ ]
  from_firsts x (y ∷ ys) (inl e) = inl e
  from_firsts x (y ∷ ys) (inr w) = inr (from_firsts x ys (from_filter (λ z. not (same y z)) x (firsts same ys) w).0)

  -- one that is the same is among the firsts
  pub has_first : (x : X) (xs : List X) → Within xs x → (y : X) × Within (firsts same xs) y × (same y x ≡ true)
  has_first x [] w = elim w [ ]
  has_first x (y ∷ ys) (inl e) = (y, inl refl, (decides y x).1 (ap key e))
  has_first x (y ∷ ys) (inr w) = let earlier = has_first x ys w in ⊎_elim
      (λ (e : same y earlier.0 ≡ true). (y, inl refl, through y earlier.0 x e earlier.2))
      (λ (e : same y earlier.0 ≡ false). (earlier.0, inr (in_filter (λ z. not (same y z)) earlier.0 (firsts same ys) earlier.1 (not_true (same y earlier.0) e)), earlier.2))
      (true_or_false (same y earlier.0))

  -- among the firsts each is like itself alone
  pub like_itself : (x : X) (xs : List X) → Within (firsts same xs) x → like same x (firsts same xs) ≡ x ∷ []
  unfolding other
  like_itself x [] w = elim w [ ]
  like_itself x (y ∷ ys) (inl e) =
      passes (same x) y (filter (other y) (firsts same ys)) ((decides x y).1 (ap key (sym e)))
      ∙ ap (λ (l : List X). y ∷ l) (none_left (same x) (other y) (λ z s. ap not ((decides y z).1 (ap key e ∙ (decides x z).0 s))) (firsts same ys))
      ∙ ap (λ (z : X). z ∷ []) e
  like_itself x (y ∷ ys) (inr w) =
      let found = from_filter (other y) x (firsts same ys) w in
      let apart : same y x ≡ false = was_false (same y x) found.1 in
      fails (same x) y (filter (other y) (firsts same ys)) (⊎_elim (λ (s : same x y ≡ true). false_true (sym apart ∙ turned x y s)) (λ (s : same x y ≡ false). s) (true_or_false (same x y)))
      ∙ absorbed (same x) (other y) (λ z s. not_true (same y z) (⊎_elim
      (λ (t : same y z ≡ true). false_true (sym apart ∙ through y z x t (turned x z s)))
      (λ (t : same y z ≡ false). t)
      (true_or_false (same y z)))) (firsts same ys)
      ∙ like_itself x ys found.0

  -- a change that keeps what is the same
  pub firsts_of_map : (u : X → X) → ((x y : X) → same (u x) (u y) ≡ same x y) → (xs : List X) → firsts same (map u xs) ≡ map u (firsts same xs)
  unfolding other
  firsts_of_map u k [] = refl
  firsts_of_map u k (x ∷ xs) = ap (λ (l : List X). u x ∷ filter (other (u x)) l) (firsts_of_map u k xs) ∙ ap (λ (l : List X). u x ∷ l) (mapped (firsts same xs))
    where
      mapped : (ys : List X) → filter (other (u x)) (map u ys) ≡ map u (filter (other x) ys)
      mapped [] = refl
      mapped (y ∷ ys) = ⊎_elim
          (λ (e : same x y ≡ true). fails (other (u x)) (u y) (map u ys) (ap not (k x y ∙ e)) ∙ mapped ys ∙ sym (ap (map u) (fails (other x) y ys (ap not e))))
          (λ (e : same x y ≡ false). passes (other (u x)) (u y) (map u ys) (ap not (k x y ∙ e)) ∙ ap (λ (l : List X). u y ∷ l) (mapped ys) ∙ sym (ap (map u) (passes (other x) y ys (ap not e))))
          (true_or_false (same x y))
