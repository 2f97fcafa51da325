-- That an item is in a list, item by item.
use Rattle.std.proofs.Common.{◌≡◌, ℕ, ◌<◌, zero, suc, List, [], ◌∷◌, ◌++◌, map, length, get_or, refl, ap, ◌⊎◌, inl, inr, ⊎_elim, arith, Contains}
use Rattle.std.specs.List.{flat_map}

module _ {X : Type 0} where
  abbrev pub Within : List X → X → Type 0
  Within [] x = ⊥
  Within (y ∷ ys) x = (y ≡ x) ⊎ Within ys x

  pub in_append_left : (xs ys : List X) (x : X) → Within xs x → Within (xs ++ ys) x
  in_append_left [] ys x w = elim w [ ]
  in_append_left (z ∷ zs) ys x (inl e) = inl e
  in_append_left (z ∷ zs) ys x (inr w) = inr (in_append_left zs ys x w)

  pub in_append_right : (xs ys : List X) (x : X) → Within ys x → Within (xs ++ ys) x
  in_append_right [] ys x w = w
  in_append_right (z ∷ zs) ys x w = inr (in_append_right zs ys x w)

  pub from_append : (xs ys : List X) (x : X) → Within (xs ++ ys) x → Within xs x ⊎ Within ys x
  from_append [] ys x w = inr w
  from_append (z ∷ zs) ys x (inl e) = inl (inl e)
  from_append (z ∷ zs) ys x (inr w) = ⊎_elim (λ (v : Within zs x). inl (inr v)) (λ (v : Within ys x). inr v) (from_append zs ys x w)

  -- as the list says it, by a place
  pub contains : (xs : List X) (x : X) → Within xs x → Contains xs x
  contains [] x w = elim w [ ]
  contains (y ∷ ys) x (inl e) = (0, omega arith, e)
  contains (y ∷ ys) x (inr w) = let c = contains ys x w in let l = c.1 in (suc c.0, omega arith, c.2)

  pub within : (xs : List X) (x : X) → Contains xs x → Within xs x
  within xs x c = at xs c.0 c.1 c.2
    where
      at : (ys : List X) (k : ℕ) → k < length ys → get_or ys k x ≡ x → Within ys x
      at [] k l e = absurd (omega arith)
      at (y ∷ ys) zero l e = inl e
      at (y ∷ ys) (suc k) l e = inr (at ys k (omega arith) e)

module _ {X Y : Type 0} where
  pub in_flat : (f : X → List Y) (xs : List X) (x : X) (y : Y) → Within xs x → Within (f x) y → Within (flat_map f xs) y
  in_flat f [] x y v w = elim v [ ]
  in_flat f (z ∷ zs) x y (inl e) w = in_append_left (f z) (flat_map f zs) y (rw e w)
  in_flat f (z ∷ zs) x y (inr v) w = in_append_right (f z) (flat_map f zs) y (in_flat f zs x y v w)

  pub from_flat : (f : X → List Y) (xs : List X) (y : Y) → Within (flat_map f xs) y → (x : X) × Within xs x × Within (f x) y
  from_flat f [] y w = elim w [ ]
  from_flat f (z ∷ zs) y w = ⊎_elim
      (λ (v : Within (f z) y). (z, inl refl, v))
      (λ (v : Within (flat_map f zs) y). let r = from_flat f zs y v in (r.0, inr r.1, r.2))
      (from_append (f z) (flat_map f zs) y w)

  pub in_map : (f : X → Y) (xs : List X) (x : X) → Within xs x → Within (map f xs) (f x)
  in_map f [] x w = elim w [ ]
  in_map f (z ∷ zs) x (inl e) = inl (ap f e)
  in_map f (z ∷ zs) x (inr w) = inr (in_map f zs x w)

  pub from_map : (f : X → Y) (xs : List X) (y : Y) → Within (map f xs) y → (x : X) × Within xs x × (f x ≡ y)
  from_map f [] y w = elim w [ ]
  from_map f (z ∷ zs) y (inl e) = (z, inl refl, e)
  from_map f (z ∷ zs) y (inr w) = let r = from_map f zs y w in (r.0, inr r.1, r.2)
