-- Lists of which each item fits one of another list.
use Rattle.std.proofs.Common.{◌≡◌, ◌∙◌, List, [], ◌∷◌, ◌++◌, refl, ap}
use Rattle.std.specs.List.{AllZip}

module _ {A B : Type 0} (R : A → B → Type 0) where
  pub zip_push : (xs : List A) (ys : List B) (x : A) (y : B) → AllZip R xs ys → R x y → AllZip R (xs ++ x ∷ []) (ys ++ y ∷ [])
  zip_push [] [] x y h here = (here, tt)
  zip_push [] (w ∷ ys) x y h here = absurd h
  zip_push (v ∷ xs) [] x y h here = absurd h
  zip_push (v ∷ xs) (w ∷ ys) x y h here = (h.0, zip_push xs ys x y h.1 here)

  -- an item that fits none
  pub zip_none : (xs : List A) (x : A) (rest : List A) (ys : List B) → ((y : B) → R x y → ⊥) → AllZip R (xs ++ x ∷ rest) ys → ⊥
  zip_none [] x rest [] none h = h
  zip_none [] x rest (y ∷ ys) none h = none y h.0
  zip_none (v ∷ xs) x rest [] none h = h
  zip_none (v ∷ xs) x rest (y ∷ ys) none h = zip_none xs x rest ys none h.1

  -- where each item fits one at most, the lists are the same
  pub zip_same : (xs : List A) (ys zs : List B) → ((x : A) (y z : B) → R x y → R x z → y ≡ z) → AllZip R xs ys → AllZip R xs zs → ys ≡ zs
  zip_same [] [] [] one h k = refl
  zip_same [] (y ∷ ys) zs one h k = absurd h
  zip_same [] [] (z ∷ zs) one h k = absurd k
  zip_same (x ∷ xs) [] zs one h k = absurd h
  zip_same (x ∷ xs) (y ∷ ys) [] one h k = absurd k
  zip_same (x ∷ xs) (y ∷ ys) (z ∷ zs) one h k = ap (λ (w : B). w ∷ ys) (one x y z h.0 k.0) ∙ ap (λ (ws : List B). z ∷ ws) (zip_same xs ys zs one h.1 k.1)
