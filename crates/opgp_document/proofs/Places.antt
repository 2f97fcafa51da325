-- Line ends of a piece, by their places.
use Rattle.std.proofs.Common.{◌≡◌, ℕ, zero, suc, ◌+◌, ◌-◌, ◌<◌, ◌≤◌, Bool, true, false, ◌==◌, List, [], ◌∷◌, length, take, drop, slice_index}
use Rattle.std.proofs.Common.{refl, sym, ap, subst, ◌∙◌, arith}
use Rattle.std.proofs.lemmas.Bool.{ne_eqb, eq-eqb}
use Rattle.std.proofs.lemmas.List.{take_rest}
use Rattle.memchr.specs.Find.{Passes}
use Rattle.opgp_document.specs.Text.{before_stray, ends_cr, has_stray}
use Rattle.opgp_document.proofs.Feeding.{IsFed, kept_other, waits}

nothing : (j k : ℕ) → slice_index [] j ≡ slice_index [] k
nothing j k = refl

pub behind : (o : List ℕ) (f k : ℕ) → slice_index (drop f o) k ≡ slice_index o (f + k)
behind o zero k =
    let e : k ≡ 0 + k = omega arith in
    ap (λ (n : ℕ). slice_index o n) e
behind [] (suc f) k = nothing k (suc f + k)
behind (c ∷ o) (suc f) k =
    let e : suc (f + k) ≡ suc f + k = omega arith in
    behind o f k ∙ ap (λ (n : ℕ). slice_index (c ∷ o) n) e

-- as a slice from there on
abbrev pub rest_of : List ℕ → ℕ → List ℕ
rest_of o f = take (length o - f) (drop f o)

pub passes_behind : (test : ℕ → Bool) (o : List ℕ) (f k : ℕ) → Passes test (rest_of o f) k → Passes test o (f + k)
passes_behind test o f k h =
    ap test (sym (ap (λ (x : List ℕ). slice_index x k) (take_rest o f) ∙ behind o f k)) ∙ h

pub passes_before : (test : ℕ → Bool) (o : List ℕ) (f k : ℕ) → f ≤ k → Passes test o k → Passes test (rest_of o f) (k - f)
passes_before test o f k w h =
    let e : f + (k - f) ≡ k = omega arith in
    ap test (ap (λ (x : List ℕ). slice_index x (k - f)) (take_rest o f) ∙ behind o f (k - f) ∙ ap (λ (n : ℕ). slice_index o n) e) ∙ h

-- ---- octets up to a line feed wait to be fed
waits_on : (n : ℕ) (b : Bool) (o : List ℕ) (s f : ℕ) → s ≤ f → f + n ≤ length o
    → ((k : ℕ) → f ≤ k → k < f + n → slice_index o k ≡ 10 → ⊥) → IsFed b o s f → IsFed b o s (f + n)
waits_on zero b o s f w h none fed = subst (λ (k : ℕ). IsFed b o s k) (omega arith) fed
waits_on (suc n) b o s f w h none fed =
    let next : IsFed b o s (f + 1) = waits b o s f w (omega arith) fed (kept_other (ends_cr b (take f o)) (slice_index o f) (λ e. none f (omega arith) (omega arith) e)) in
    let end : (f + 1) + n ≡ f + suc n = omega arith in
    subst (λ (k : ℕ). IsFed b o s k) end (waits_on n b o s (f + 1) (omega arith) (omega arith) (λ k l u e. none k (omega arith) (omega arith) e) next)

pub waits_till : (b : Bool) (o : List ℕ) (s f p : ℕ) → s ≤ f → f ≤ p → p ≤ length o
    → ((k : ℕ) → f ≤ k → k < p → slice_index o k ≡ 10 → ⊥) → IsFed b o s f → IsFed b o s p
waits_till b o s f p w h l none fed =
    let n : ℕ = p - f in
    let end : f + n ≡ p = omega arith in
    subst (λ (k : ℕ). IsFed b o s k) end (waits_on n b o s f w (omega arith) (λ k l u e. none k l (omega arith) e) fed)

-- ---- stray carriage returns
pub other : (o : List ℕ) (n : ℕ) → n < length o → (slice_index o n ≡ 10 → ⊥) → has_stray true (drop n o) ≡ true
other [] n h unlike = absurd (omega arith)
other (c ∷ o) zero h unlike =
    let lf : (c == 10) ≡ false = ne_eqb c 10 unlike in
    rw lf refl
other (c ∷ o) (suc n) h unlike = other o n (omega arith) unlike

pub same : (o : List ℕ) (n : ℕ) → (n < length o → slice_index o n ≡ 10) → has_stray true (drop n o) ≡ has_stray false (drop n o)
same [] zero h = refl
same [] (suc n) h = refl
same (c ∷ o) zero h =
    let lf : (c == 10) ≡ true = eq-eqb c 10 (h (omega arith)) in
    rw lf refl
same (c ∷ o) (suc n) h = same o n (λ l. h (omega arith))

stray_on : (o : List ℕ) (f p : ℕ) → f ≤ p → p < length o → ((k : ℕ) → f ≤ k → k < p → slice_index o k ≡ 13 → ⊥)
    → slice_index o p ≡ 13 → has_stray false (drop f o) ≡ has_stray true (drop (suc p) o)
stray_on [] f p w h none at = absurd (omega arith)
stray_on (c ∷ o) zero zero w h none at =
    let cr : (c == 13) ≡ true = eq-eqb c 13 at in
    rw cr refl
stray_on (c ∷ o) zero (suc p) w h none at =
    let cr : (c == 13) ≡ false = ne_eqb c 13 (λ e. none 0 (omega arith) (omega arith) e) in
    rw cr (stray_on o zero p (omega arith) (omega arith) (λ k l u e. none (suc k) (omega arith) (omega arith) e) at)
stray_on (c ∷ o) (suc f) zero w h none at = absurd (omega arith)
stray_on (c ∷ o) (suc f) (suc p) w h none at =
    stray_on o f p (omega arith) (omega arith) (λ k l u e. none (suc k) (omega arith) (omega arith) e) at

pub stray_till : (o : List ℕ) (f p : ℕ) → f ≤ p → p < length o → ((k : ℕ) → f ≤ k → k < p → slice_index o k ≡ 13 → ⊥)
    → slice_index o p ≡ 13 → has_stray false (drop f o) ≡ has_stray true (drop (p + 1) o)
stray_till o f p w h none at =
    let e : suc p ≡ p + 1 = omega arith in
    stray_on o f p w h none at ∙ ap (λ (n : ℕ). has_stray true (drop n o)) e

pub stray_none : (o : List ℕ) (f : ℕ) → ((k : ℕ) → f ≤ k → k < length o → slice_index o k ≡ 13 → ⊥) → has_stray false (drop f o) ≡ false
stray_none [] zero none = refl
stray_none [] (suc f) none = refl
stray_none (c ∷ o) zero none =
    let cr : (c == 13) ≡ false = ne_eqb c 13 (λ e. none 0 (omega arith) (omega arith) e) in
    rw cr (stray_none o zero (λ k l u e. none (suc k) (omega arith) (omega arith) e))
stray_none (c ∷ o) (suc f) none = stray_none o f (λ k l u e. none (suc k) (omega arith) (omega arith) e)

-- ---- the first octet behind one
pub other_at : (o : List ℕ) (n : ℕ) → n < length o → (slice_index o n ≡ 10 → ⊥) → before_stray true (drop n o) ≡ 0
other_at [] n h unlike = absurd (omega arith)
other_at (c ∷ o) zero h unlike =
    let lf : (c == 10) ≡ false = ne_eqb c 10 unlike in
    rw lf refl
other_at (c ∷ o) (suc n) h unlike = other_at o n (omega arith) unlike

pub same_at : (o : List ℕ) (n : ℕ) → (n < length o → slice_index o n ≡ 10) → before_stray true (drop n o) ≡ before_stray false (drop n o)
same_at [] zero h = refl
same_at [] (suc n) h = refl
same_at (c ∷ o) zero h =
    let lf : (c == 10) ≡ true = eq-eqb c 10 (h (omega arith)) in
    rw lf refl
same_at (c ∷ o) (suc n) h = same_at o n (λ l. h (omega arith))

front_on : (o : List ℕ) (f p : ℕ) → f ≤ p → p < length o → ((k : ℕ) → f ≤ k → k < p → slice_index o k ≡ 13 → ⊥)
    → slice_index o p ≡ 13 → f + before_stray false (drop f o) ≡ suc p + before_stray true (drop (suc p) o)
front_on [] f p w h none at = absurd (omega arith)
front_on (c ∷ o) zero zero w h none at =
    let cr : (c == 13) ≡ true = eq-eqb c 13 at in
    rw cr (omega arith)
front_on (c ∷ o) zero (suc p) w h none at =
    let cr : (c == 13) ≡ false = ne_eqb c 13 (λ e. none 0 (omega arith) (omega arith) e) in
    let more = front_on o zero p (omega arith) (omega arith) (λ k l u e. none (suc k) (omega arith) (omega arith) e) at in
    rw cr (omega (arith, more))
front_on (c ∷ o) (suc f) zero w h none at = absurd (omega arith)
front_on (c ∷ o) (suc f) (suc p) w h none at =
    let more = front_on o f p (omega arith) (omega arith) (λ k l u e. none (suc k) (omega arith) (omega arith) e) at in
    omega (arith, more)

pub front_till : (o : List ℕ) (f p : ℕ) → f ≤ p → p < length o → ((k : ℕ) → f ≤ k → k < p → slice_index o k ≡ 13 → ⊥)
    → slice_index o p ≡ 13 → f + before_stray false (drop f o) ≡ (p + 1) + before_stray true (drop (p + 1) o)
front_till o f p w h none at =
    let e : suc p ≡ p + 1 = omega arith in
    front_on o f p w h none at ∙ ap (λ (n : ℕ). n + before_stray true (drop n o)) e
