-- An index of names, with one more.
use denote.Ref.{Bor}
use Rattle.std.proofs.Common.{◌≡◌, ◌∙◌, ℕ, ◌+◌, ◌<◌, Bool, true, false, cond, List, [], ◌∷◌, ◌++◌, length, length-append, Option, Some, None, refl, sym, ap, subst, arith}
use Rattle.std.specs.Prelude.{suc, ◌&&◌, ◌==◌, nat_lt}
use Rattle.std.specs.BTreeMap.{BTreeMap, get_by, btree_map_len}
use Rattle.std.specs.Cmp.{both_tied}
use Rattle.std.specs.Cmp.Lexicographic.{slice_cmp}
use Rattle.std.specs.List.{position_from}
use Rattle.std.specs.declared.cmp.Ordering.TheVariants.{Less, Equal, Greater}
use Rattle.std.specs.Ordering.{is_eq, nat_cmp, ordering_then}
use Rattle.std.specs.Str.{bytes_eq}
use borrow.Author.Tests.{ltb-true}
use Rattle.std.proofs.lemmas.Bool.{eqb-true}
use Rattle.std.proofs.lemmas.Map.Text.{is_eq-slice_cmp}
use Rattle.std.proofs.lemmas.Slice.Eq.{bytes_eq-Decides}
use Rattle.opgp_merge.specs.Slots.{Name, same_name, grown, place, name_cmp, IsIndex}

abbrev at : List Name → Name → ℕ → Option ℕ
at seen n j = position_from (λ s. same_name s n) j seen

some_inj : (m n : ℕ) → Some m ≡ Some n → m ≡ n
some_inj m n e = cc

found_step : (b : Bool) (j slot p : ℕ) (s n : Name) (ss more : List Name) (later : Option ℕ) → cond b (Some j) later ≡ Some slot
    → (later ≡ Some slot → (slot ≡ (j + 1) + p) × (more ≡ ss))
    → (slot ≡ j + cond b 0 (suc p)) × (cond b (s ∷ ss) (s ∷ more) ≡ s ∷ ss)
found_step true j slot p s n ss more later e f = let k : j ≡ slot = some_inj j slot e in (omega arith, refl)
found_step false j slot p s n ss more later e f = let g = f e in (omega (arith, g.0), ap (λ (l : List Name). s ∷ l) g.1)

found_at : (seen : List Name) (n : Name) (j slot : ℕ) → at seen n j ≡ Some slot → (slot ≡ j + place seen n) × (grown seen n ≡ seen)
found_at [] n j slot e = let f : None ≡ Some slot = e in absurd (cc)
found_at (s ∷ ss) n j slot e = found_step (same_name s n) j slot (place ss n) s n ss (grown ss n) (at ss n (j + 1)) e (found_at ss n (j + 1) slot)

missing_step : (b : Bool) (j p : ℕ) (s n : Name) (ss more : List Name) (later : Option ℕ) → cond b (Some j) later ≡ None
    → (later ≡ None → (p ≡ length ss) × (more ≡ ss ++ n ∷ []))
    → (cond b 0 (suc p) ≡ suc (length ss)) × (cond b (s ∷ ss) (s ∷ more) ≡ s ∷ (ss ++ n ∷ []))
missing_step true j p s n ss more later e f = let g : Some j ≡ None = e in absurd (cc)
missing_step false j p s n ss more later e f = let g = f e in (ap (λ (k : ℕ). suc k) g.0, ap (λ (l : List Name). s ∷ l) g.1)

missing_at : (seen : List Name) (n : Name) (j : ℕ) → at seen n j ≡ None → (place seen n ≡ length seen) × (grown seen n ≡ seen ++ n ∷ [])
missing_at [] n j e = (refl, refl)
missing_at (s ∷ ss) n j e = missing_step (same_name s n) j (place ss n) s n ss (grown ss n) (at ss n (j + 1)) e (missing_at ss n (j + 1))

-- ---- one more name behind the others
other_step : (b : Bool) (j : ℕ) (r s : Option ℕ) → s ≡ r → cond b (Some j) s ≡ cond b (Some j) r
other_step true j r s e = refl
other_step false j r s e = e

push_other : (seen : List Name) (n q : Name) (j : ℕ) → same_name n q ≡ false → at (seen ++ n ∷ []) q j ≡ at seen q j
push_other [] n q j e = ap (λ (b : Bool). cond b (Some j) None) e
push_other (s ∷ ss) n q j e = other_step (same_name s q) j (at ss q (j + 1)) (at (ss ++ n ∷ []) q (j + 1)) (push_other ss n q (j + 1) e)

same_step : (b : Bool) (j k : ℕ) (r s : Option ℕ) → cond b (Some j) r ≡ None → (r ≡ None → s ≡ Some ((j + 1) + k)) → cond b (Some j) s ≡ Some (j + suc k)
same_step true j k r s e f = let g : Some j ≡ None = e in absurd (cc)
same_step false j k r s e f = f e ∙ ap (λ (n : ℕ). Some n) (omega arith)

push_same : (seen : List Name) (n q : Name) (j : ℕ) → same_name n q ≡ true → at seen q j ≡ None → at (seen ++ n ∷ []) q j ≡ Some (j + length seen)
push_same [] n q j e none = ap (λ (b : Bool). cond b (Some j) None) e ∙ ap (λ (k : ℕ). Some k) (omega arith)
push_same (s ∷ ss) n q j e none = same_step (same_name s q) j (length ss) (at ss q (j + 1)) (at (ss ++ n ∷ []) q (j + 1)) none (push_same ss n q (j + 1) e)

length_more : (seen : List Name) (n : Name) → length (seen ++ n ∷ []) ≡ length seen + 1
length_more seen n = omega (arith, length-append {A = Name})

-- ---- equal names
left_true : (a b : Bool) → (a && b) ≡ true → a ≡ true
left_true true b e = refl
left_true false b e = e

right_true : (a b : Bool) → (a && b) ≡ true → b ≡ true
right_true true b e = e
right_true false b e = cc

pub same_is : (m n : Name) → same_name m n ≡ true → m ≡ n
same_is m n e =
    let kind : m.0 ≡ n.0 = eqb-true m.0 n.0 (left_true (m.0 == n.0) (bytes_eq m.1 n.1) e) in
    let body : m.1 ≡ n.1 = (bytes_eq-Decides m.1 n.1).0 (right_true (m.0 == n.0) (bytes_eq m.1 n.1) e) in
    λ i. (kind i, body i)

tied_step : (lt eq : Bool) → (lt ≡ true → eq ≡ true → ⊥) → eq ≡ is_eq (cond lt Less (cond eq Equal Greater))
tied_step true true h = absurd (h refl refl)
tied_step true false h = refl
tied_step false true h = refl
tied_step false false h = refl

number_tied : (a b : ℕ) → (a == b) ≡ is_eq (nat_cmp a b)
number_tied a b = tied_step (nat_lt a b) (a == b) (λ e f. let lt : a < b = ltb-true a b e in let eq : a ≡ b = eqb-true a b f in absurd (omega arith))

names_tied : (m n : Name) → is_eq (ordering_then (nat_cmp m.0 n.0) (slice_cmp nat_cmp m.1 n.1)) ≡ same_name m n
names_tied m n = sym (both_tied (m.0 == n.0) (bytes_eq m.1 n.1) (nat_cmp m.0 n.0) (slice_cmp nat_cmp m.1 n.1) (number_tied m.0 n.0) (sym (is_eq-slice_cmp m.1 n.1)))

-- ---- what the calls leave
module _ (m : BTreeMap (ℕ × Bor (List ℕ)) ℕ) (seen : List Name) (index : IsIndex m seen) (n : Name) where
  pub found : (slot : ℕ) → get_by (name_cmp n) m ≡ Some slot → (slot ≡ place seen n) × IsIndex m (grown seen n)
  found slot e =
      let k = found_at seen n 0 slot (sym (index.places n) ∙ e) in
      let P : List Name → Type 0 = λ l. IsIndex m l in
      (omega (arith, k.0), subst P (sym k.1) index)

  places_step : (new : BTreeMap (ℕ × Bor (List ℕ)) ℕ) (slot : ℕ) (q : Name) (b : Bool) → same_name n q ≡ b → at seen n 0 ≡ None → slot ≡ length seen
      → cond b (Some slot) (at seen q 0) ≡ at (seen ++ n ∷ []) q 0
  places_step new slot q true e none count =
      let same : n ≡ q = same_is n q e in
      ap (λ (k : ℕ). Some k) (omega arith) ∙ sym (push_same seen n q 0 e (ap (λ (x : Name). at seen x 0) (sym same) ∙ none))
  places_step new slot q false e none count = sym (push_other seen n q 0 e)

  pub noted : (new : BTreeMap (ℕ × Bor (List ℕ)) ℕ) (slot : ℕ) → get_by (name_cmp n) m ≡ None → slot ≡ btree_map_len m
      → ((q : Name) → get_by (name_cmp q) new ≡ cond (is_eq (ordering_then (nat_cmp n.0 q.0) (slice_cmp nat_cmp n.1 q.1))) (Some slot) (get_by (name_cmp q) m))
      → btree_map_len new ≡ btree_map_len m + 1
      → (slot ≡ place seen n) × IsIndex new (grown seen n)
  noted new slot none count updates len =
      let no : at seen n 0 ≡ None = sym (index.places n) ∙ none in
      let k = missing_at seen n 0 no in
      let P : List Name → Type 0 = λ l. IsIndex new l in
      let full : slot ≡ length seen = count ∙ index.count in (
        full ∙ sym k.0,
        subst P (sym k.1) (record {
          places = λ q. updates q ∙ ap (λ (b : Bool). cond b (Some slot) (get_by (name_cmp q) m)) (names_tied n q)
              ∙ ap (λ (o : Option ℕ). cond (same_name n q) (Some slot) o) (index.places q)
              ∙ places_step new slot q (same_name n q) refl no full;
          count = len ∙ ap (λ (k : ℕ). k + 1) index.count ∙ sym (length_more seen n);
        }),
      )
