-- The place of each name among the firsts, one name after the other.
use Rattle.std.proofs.Common.{◌≡◌, ◌∙◌, ℕ, ◌<◌, Bool, true, false, cond, List, [], ◌∷◌, length, map, refl, sym, ap, arith}
use Rattle.std.specs.Prelude.{suc}
use Rattle.std.specs.List.{fold}
use Rattle.opgp_merge.specs.Merged.{firsts}
use Rattle.opgp_merge.specs.Slots.{Name, same_name, grown, place, places_of, stays}
use Rattle.opgp_merge.proofs.Adding.{gathered, slots_from}
use Rattle.opgp_merge.proofs.Uniting.{alike, gathered_is, itself, map_same}

-- ---- a name that was added stands where it was placed
added_step : (b : Bool) (s n : Name) (ss more : List Name) → same_name s n ≡ b → place more n ≡ place ss n → place more n < length more
    → (place (cond b (s ∷ ss) (s ∷ more)) n ≡ cond b 0 (suc (place ss n))) × (place (cond b (s ∷ ss) (s ∷ more)) n < length (cond b (s ∷ ss) (s ∷ more)))
added_step true s n ss more e f lt =
    let is : cond (same_name s n) 0 (suc (place ss n)) ≡ 0 = ap (λ (b : Bool). cond b 0 (suc (place ss n))) e in
    (is, omega (arith, is))
added_step false s n ss more e f lt =
    let is : cond (same_name s n) 0 (suc (place more n)) ≡ suc (place more n) = ap (λ (b : Bool). cond b 0 (suc (place more n))) e in
    (is ∙ ap (λ (k : ℕ). suc k) f, omega (arith, is, lt))

added_place : (ss : List Name) (n : Name) → (place (grown ss n) n ≡ place ss n) × (place (grown ss n) n < length (grown ss n))
added_place [] n =
    let is : cond (same_name n n) 0 1 ≡ 0 = ap (λ (b : Bool). cond b 0 1) (itself n) in
    (is, omega (arith, is))
added_place (s ∷ ss) n =
    let later = added_place ss n in
    added_step (same_name s n) s n ss (grown ss n) refl later.0 later.1

-- ---- and stays there
tail_step : (b : Bool) (s n : Name) (ss more : List Name) → same_name s n ≡ b → place (s ∷ ss) n < length (s ∷ ss)
    → (place ss n < length ss → (place more n ≡ place ss n) × (place more n < length more))
    → (place (s ∷ more) n ≡ place (s ∷ ss) n) × (place (s ∷ more) n < length (s ∷ more))
tail_step true s n ss more e lt f =
    let new : cond (same_name s n) 0 (suc (place more n)) ≡ 0 = ap (λ (b : Bool). cond b 0 (suc (place more n))) e in
    let old : cond (same_name s n) 0 (suc (place ss n)) ≡ 0 = ap (λ (b : Bool). cond b 0 (suc (place ss n))) e in
    (new ∙ sym old, omega (arith, new))
tail_step false s n ss more e lt f =
    let new : cond (same_name s n) 0 (suc (place more n)) ≡ suc (place more n) = ap (λ (b : Bool). cond b 0 (suc (place more n))) e in
    let old : cond (same_name s n) 0 (suc (place ss n)) ≡ suc (place ss n) = ap (λ (b : Bool). cond b 0 (suc (place ss n))) e in
    let later = f (omega (arith, old, lt)) in
    (new ∙ ap (λ (k : ℕ). suc k) later.0 ∙ sym old, omega (arith, new, later.1))

stays_step : (b : Bool) (s n : Name) (ss more : List Name) → place (s ∷ ss) n < length (s ∷ ss)
    → (place ss n < length ss → (place more n ≡ place ss n) × (place more n < length more))
    → (place (cond b (s ∷ ss) (s ∷ more)) n ≡ place (s ∷ ss) n) × (place (cond b (s ∷ ss) (s ∷ more)) n < length (cond b (s ∷ ss) (s ∷ more)))
stays_step true s n ss more lt f = (refl, lt)
stays_step false s n ss more lt f = tail_step (same_name s n) s n ss more refl lt f

stays_placed : (ss : List Name) (n m : Name) → place ss n < length ss → (place (grown ss m) n ≡ place ss n) × (place (grown ss m) n < length (grown ss m))
stays_placed [] n m lt = absurd (omega arith)
stays_placed (s ∷ ss) n m lt = stays_step (same_name s m) s n ss (grown ss m) lt (stays_placed ss n m)

-- the names one after the other, behind those that were seen
abbrev all_grown : List Name → List Name → List Name
all_grown seen ns = gathered same_name stays seen ns

stays_last : (ns ss : List Name) (n : Name) → place ss n < length ss → place (all_grown ss ns) n ≡ place ss n
stays_last [] ss n lt = refl
stays_last (m ∷ ns) ss n lt =
    let next = stays_placed ss n m lt in
    stays_last ns (grown ss m) n next.1 ∙ next.0

placed_from : (ns seen : List Name) → slots_from seen ns ≡ map (place (all_grown seen ns)) ns
placed_from [] seen = refl
placed_from (n ∷ ns) seen =
    let here = added_place seen n in
    let first : place seen n ≡ place (all_grown (grown seen n) ns) n = sym here.0 ∙ sym (stays_last ns (grown seen n) n here.1) in
    ap (λ (k : ℕ). k ∷ slots_from (grown seen n) ns) first ∙ ap (λ (l : List ℕ). place (all_grown (grown seen n) ns) n ∷ l) (placed_from ns (grown seen n))

first_stays : (n : Name) (ns : List Name) → fold stays n ns ≡ n
first_stays n [] = refl
first_stays n (m ∷ ns) = first_stays n ns

all_firsts : (ns : List Name) → all_grown [] ns ≡ firsts same_name ns
all_firsts ns = gathered_is same_name itself (alike (λ n. n)) stays (λ k x. refl) (λ k l. k) first_stays ns ∙ map_same (firsts same_name ns)

pub slots_are : (ns : List Name) → slots_from [] ns ≡ places_of ns
slots_are ns = placed_from ns [] ∙ ap (λ (l : List Name). map (place l) ns) (all_firsts ns)
