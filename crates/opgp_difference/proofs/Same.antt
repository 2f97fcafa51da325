-- Names and entries that are the same, and tests that agree.
use Rattle.std.proofs.Common.{◌≡◌, ◌∙◌, ℕ, Bool, true, false, [], ◌∷◌, refl, sym, ap, ◌⊎◌, inl, inr, Decides, arith}
use Rattle.std.specs.Prelude.{◌&&◌, ◌==◌}
use Rattle.std.specs.Str.{bytes_eq}
use Rattle.std.proofs.lemmas.Bool.{eqb-true}
use Rattle.std.proofs.lemmas.Slice.Eq.{bytes_eq-Decides}
use Rattle.opgp_difference.specs.Entries.{Entry, Name, same_entry, same_name}

pub false_true : {A : Type 0} → false ≡ true → A
false_true e = absurd (cc)

pub true_false : {A : Type 0} → true ≡ false → A
true_false e = absurd (cc)

pub true_or_false : (b : Bool) → (b ≡ true) ⊎ (b ≡ false)
true_or_false true = inl refl
true_or_false false = inr refl

pub left_true : (a b : Bool) → (a && b) ≡ true → a ≡ true
left_true true b e = refl
left_true false b e = e

pub right_true : (a b : Bool) → (a && b) ≡ true → b ≡ true
right_true true b e = e
right_true false b e = false_true e

pub both_true : (a b : Bool) → a ≡ true → b ≡ true → (a && b) ≡ true
both_true a b e f = rw e f

-- tests that hold together
pub agree : (a b : Bool) → (a ≡ true → b ≡ true) → (b ≡ true → a ≡ true) → a ≡ b
agree true b f g = sym (f refl)
agree false true f g = g refl
agree false false f g = refl

-- a test that doesn't hold where it would be absurd
pub fails_by : (a : Bool) → (a ≡ true → ⊥) → a ≡ false
fails_by true f = absurd (f refl)
fails_by false f = refl

number_itself : (a : ℕ) → (a == a) ≡ true
number_itself a = grind arith

pub names_decide : (m n : Name) → Decides (same_name m n) (m ≡ n)
names_decide m n = (
  λ e.
      let kind : m.0 ≡ n.0 = eqb-true m.0 n.0 (left_true (m.0 == n.0) (bytes_eq m.1 n.1) e) in
      let body : m.1 ≡ n.1 = (bytes_eq-Decides m.1 n.1).0 (right_true (m.0 == n.0) (bytes_eq m.1 n.1) e) in
      λ i. (kind i, body i),
  λ e. ap (λ (x : Name). same_name m x) (sym e) ∙ both_true (m.0 == m.0) (bytes_eq m.1 m.1) (number_itself m.0) ((bytes_eq-Decides m.1 m.1).1 refl),
)

heads : (m n : Name) (e f : Entry) → m ∷ e ≡ n ∷ f → m ≡ n
heads m n e f g = cc

tails : (m n : Name) (e f : Entry) → m ∷ e ≡ n ∷ f → e ≡ f
tails m n e f g = cc

pub entries_decide : (e f : Entry) → Decides (same_entry e f) (e ≡ f)
entries_decide [] [] = (λ _. refl, λ _. refl)
entries_decide [] (n ∷ f) = (λ h. false_true h, λ h. absurd (cc))
entries_decide (m ∷ e) [] = (λ h. false_true h, λ h. absurd (cc))
entries_decide (m ∷ e) (n ∷ f) = (
  λ h.
      let name : m ≡ n = (names_decide m n).0 (left_true (same_name m n) (same_entry e f) h) in
      let rest : e ≡ f = (entries_decide e f).0 (right_true (same_name m n) (same_entry e f) h) in
      λ i. name i ∷ rest i,
  λ h. both_true (same_name m n) (same_entry e f) ((names_decide m n).1 (heads m n e f h)) ((entries_decide e f).1 (tails m n e f h)),
)

-- an entry isn't what it hangs on
pub not_itself : (n : Name) (e : Entry) → same_entry e (n ∷ e) ≡ false
not_itself n [] = refl
not_itself n (m ∷ e) = fails_by (same_entry (m ∷ e) (n ∷ m ∷ e)) (λ h.
    let name : m ≡ n = (names_decide m n).0 (left_true (same_name m n) (same_entry e (m ∷ e)) h) in
    true_false (sym (right_true (same_name m n) (same_entry e (m ∷ e)) h) ∙ not_itself m e))
