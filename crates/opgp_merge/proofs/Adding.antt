-- A list with one more item, by the place of its name.
use Rattle.std.proofs.Common.{◌≡◌, ◌∙◌, ℕ, ◌<◌, ◌≤◌, Bool, true, false, cond, List, [], ◌∷◌, ◌++◌, length, get_or, map, refl, sym, ap, arith}
use Rattle.std.specs.Prelude.{suc, slice_set}
use Rattle.opgp_merge.specs.Slots.{Name, same_name, added, grown, place}

-- the list with more items, one after the other
abbrev pub gathered : {X : Type 0} → (X → X → Bool) → (X → X → X) → List X → List X → List X
gathered same absorb kept [] = kept
gathered same absorb kept (x ∷ xs) = gathered same absorb (added same absorb kept x) xs

-- the place of each name among the firsts, behind those that were seen
abbrev pub slots_from : List Name → List Name → List ℕ
slots_from seen [] = []
slots_from seen (n ∷ ns) = place seen n ∷ slots_from (grown seen n) ns

module _ {X : Type 0} (name : X → Name) (absorb : X → X → X) (keeps : (k x : X) → name (absorb k x) ≡ name k) where
  abbrev same : X → X → Bool
  same k x = same_name (name k) (name x)

  name_step : (b : Bool) (k x : X) (ks more : List X) (seen : List Name) → map name more ≡ seen
      → map name (cond b (absorb k x ∷ ks) (k ∷ more)) ≡ cond b (name k ∷ map name ks) (name k ∷ seen)
  name_step true k x ks more seen e = ap (λ (n : Name). n ∷ map name ks) (keeps k x)
  name_step false k x ks more seen e = ap (λ (l : List Name). name k ∷ l) e

  -- the names grow with the list
  pub names_grow : (ks : List X) (x : X) → map name (added same absorb ks x) ≡ grown (map name ks) (name x)
  names_grow [] x = refl
  names_grow (k ∷ ks) x = name_step (same k x) k x ks (added same absorb ks x) (grown (map name ks) (name x)) (names_grow ks x)

  new_step : (b : Bool) (k x : X) (ks more : List X) (n : ℕ) → cond b 0 (suc n) ≡ suc (length ks) → (n ≡ length ks → more ≡ ks ++ x ∷ [])
      → cond b (absorb k x ∷ ks) (k ∷ more) ≡ k ∷ (ks ++ x ∷ [])
  new_step true k x ks more n e f = absurd (omega arith)
  new_step false k x ks more n e f = ap (λ (l : List X). k ∷ l) (f (omega arith))

  -- a new name's item goes behind the others
  pub added_new : (ks : List X) (x : X) → place (map name ks) (name x) ≡ length ks → added same absorb ks x ≡ ks ++ x ∷ []
  added_new [] x e = refl
  added_new (k ∷ ks) x e = new_step (same k x) k x ks (added same absorb ks x) (place (map name ks) (name x)) e (added_new ks x)

  old_step : (b : Bool) (k x d : X) (ks more : List X) (n : ℕ) → cond b 0 (suc n) < suc (length ks) → (n < length ks → more ≡ slice_set ks n (absorb (get_or ks n d) x))
      → cond b (absorb k x ∷ ks) (k ∷ more) ≡ slice_set (k ∷ ks) (cond b 0 (suc n)) (absorb (get_or (k ∷ ks) (cond b 0 (suc n)) d) x)
  old_step true k x d ks more n lt f = refl
  old_step false k x d ks more n lt f = ap (λ (l : List X). k ∷ l) (f (omega arith))

  -- one of a known name is absorbed by the first that has it
  pub added_old : (ks : List X) (x d : X) → place (map name ks) (name x) < length ks
      → added same absorb ks x ≡ slice_set ks (place (map name ks) (name x)) (absorb (get_or ks (place (map name ks) (name x)) d) x)
  added_old [] x d lt = absurd (omega arith)
  added_old (k ∷ ks) x d lt = old_step (same k x) k x d ks (added same absorb ks x) (place (map name ks) (name x)) lt (added_old ks x d)

  bound_step : (b : Bool) (n m : ℕ) → n ≤ m → cond b 0 (suc n) ≤ suc m
  bound_step true n m le = omega arith
  bound_step false n m le = omega arith

  pub place_bound : (ks : List X) (x : X) → place (map name ks) (name x) ≤ length ks
  place_bound [] x = omega arith
  place_bound (k ∷ ks) x = bound_step (same k x) (place (map name ks) (name x)) (length ks) (place_bound ks x)

  pub placed_new : (ks : List X) (x : X) (slot : ℕ) → slot ≡ place (map name ks) (name x) → slot ≡ length ks → added same absorb ks x ≡ ks ++ x ∷ []
  placed_new ks x slot e f = added_new ks x (sym e ∙ f)

  pub placed_old : (ks : List X) (x d : X) (slot : ℕ) → slot ≡ place (map name ks) (name x) → slot < length ks → added same absorb ks x ≡ slice_set ks slot (absorb (get_or ks slot d) x)
  placed_old ks x d slot e lt = added_old ks x d (omega (arith, e)) ∙ ap (λ (n : ℕ). slice_set ks n (absorb (get_or ks n d) x)) (sym e)

  pub placed_bound : (ks : List X) (x : X) (slot : ℕ) → slot ≡ place (map name ks) (name x) → slot ≤ length ks
  placed_bound ks x slot e = omega (arith, e, place_bound ks x)

  -- ---- a list is gathered, by the slots of its items
  module _ (kept rest more : List X) (x : X) (slots later : List ℕ) (slot : ℕ)
      (slots_are : slots ≡ slots_from (map name kept) (map name rest)) (next_is : rest ≡ x ∷ more) (slot_next : slots ≡ slot ∷ later) where
    both : slot ∷ later ≡ place (map name kept) (name x) ∷ slots_from (grown (map name kept) (name x)) (map name more)
    both = sym slot_next ∙ slots_are ∙ ap (λ (l : List X). slots_from (map name kept) (map name l)) next_is

    pub slot_is : slot ≡ place (map name kept) (name x)
    slot_is = let e = both in cc

    later_is : later ≡ slots_from (grown (map name kept) (name x)) (map name more)
    later_is = let e = both in cc

    module _ (new : List X) (new_is : new ≡ added same absorb kept x) where
      pub kept_more : (all : List X) → all ≡ gathered same absorb kept rest → all ≡ gathered same absorb new more
      kept_more all e = e ∙ ap (λ (l : List X). gathered same absorb kept l) next_is ∙ ap (λ (l : List X). gathered same absorb l more) (sym new_is)

      pub slots_left : later ≡ slots_from (map name new) (map name more)
      slots_left = later_is ∙ ap (λ (l : List Name). slots_from l (map name more)) (sym (names_grow kept x) ∙ ap (map name) (sym new_is))
