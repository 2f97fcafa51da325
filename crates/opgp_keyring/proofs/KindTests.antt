-- What the tests on types exclude.
use Rattle.std.proofs.Common.{◌≡◌, ℕ, Bool, true, false, ◌||◌, ◌==◌, ◌⊎◌, inl, inr, refl, ap, subst, ◌∙◌}
use Rattle.std.proofs.lemmas.Bool.{eqb-true}
use Rattle.opgp_frame.specs.Header.{is_data_kind}
use Rattle.opgp_keyring.specs.Composition.{stands_in_keyring}
use Rattle.opgp_keyring.specs.Keyring.{is_filler, is_primary, is_head, is_hung}

-- one of two tests passes
pub or_cases : (a b : Bool) → (a || b) ≡ true → (a ≡ true) ⊎ (b ≡ true)
or_cases true b e = inl refl
or_cases false b e = inr e

pub or_left : (a b : Bool) → a ≡ true → (a || b) ≡ true
or_left a b e = ap (λ (x : Bool). x || b) e

pub or_right : (a b : Bool) → b ≡ true → (a || b) ≡ true
or_right true b e = refl
or_right false b e = e

-- a test of one number fails what passes at it alone
excluded : (test : ℕ → Bool) (n k : ℕ) → test n ≡ false → test k ≡ true → (k == n) ≡ false
excluded test n k at here = elim (k == n) as (λ b. (k == n) ≡ b → b ≡ false) [ true ↦ λ e. absurd (let same : k ≡ n = eqb-true k n e in let t : test n ≡ true = subst (λ (m : ℕ). test m ≡ true) same here in cc) | false ↦ λ e. refl ] refl

pub hung_no_primary : (k : ℕ) → is_hung k ≡ true → is_primary k ≡ false
hung_no_primary k h = excluded is_hung 6 k refl h

pub head_no_primary : (k : ℕ) → is_head k ≡ true → is_primary k ≡ false
head_no_primary k h = excluded is_head 6 k refl h

pub or_false : (a b : Bool) → a ≡ false → b ≡ false → (a || b) ≡ false
or_false a b p q = ap (λ (x : Bool). x || b) p ∙ q

pub hung_no_head : (k : ℕ) → is_hung k ≡ true → is_head k ≡ false
hung_no_head k h = or_false (k == 13) ((k == 17) || (k == 14)) (excluded is_hung 13 k refl h) (or_false (k == 17) (k == 14) (excluded is_hung 17 k refl h) (excluded is_hung 14 k refl h))

pub filler_hung : (k : ℕ) → is_filler k ≡ true → is_hung k ≡ true
filler_hung k f = or_right (k == 2) (is_filler k) f

pub filler_no_signature : (k : ℕ) → is_filler k ≡ true → (k == 2) ≡ false
filler_no_signature k f = excluded is_filler 2 k refl f

pub primary_needs_none : (k : ℕ) → is_primary k ≡ true → ((k == 2) || is_head k) ≡ false
primary_needs_none k p = or_false (k == 2) (is_head k) (excluded is_primary 2 k refl p) (or_false (k == 13) ((k == 17) || (k == 14)) (excluded is_primary 13 k refl p) (or_false (k == 17) (k == 14) (excluded is_primary 17 k refl p) (excluded is_primary 14 k refl p)))

pub primary_no_data : (k : ℕ) → is_primary k ≡ true → (((k == 9) || (k == 11)) || (k == 18)) ≡ false
primary_no_data k p = or_false ((k == 9) || (k == 11)) (k == 18) (or_false (k == 9) (k == 11) (excluded is_primary 9 k refl p) (excluded is_primary 11 k refl p)) (excluded is_primary 18 k refl p)

pub stands_no_data : (k : ℕ) → stands_in_keyring k ≡ true → is_data_kind k ≡ false
stands_no_data k h = or_false ((k == 9) || (k == 11)) (k == 18) (or_false (k == 9) (k == 11) (excluded stands_in_keyring 9 k refl h) (excluded stands_in_keyring 11 k refl h)) (excluded stands_in_keyring 18 k refl h)
