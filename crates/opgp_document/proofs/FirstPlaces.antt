-- The first place of an octet that passes a test, as `memchr` gives it.
use Rattle.std.proofs.Common.{◌≡◌, ℕ, ◌+◌, Bool, true, false, List, [], ◌∷◌, Option, Some, None, length, position, nat_lt, not, ◌||◌, is_some, cond, unwrap_or, refl, sym, ap, ◌∙◌, arith}
use Rattle.std.specs.List.{list_any, position_or_len}
use Rattle.std.proofs.lemmas.Bool.{false_from_ne_true, lt-ltb, le-ltb, ltb-true, ltb-false}
use Rattle.std.proofs.lemmas.List.Sums.{position_or_len_is}
use Rattle.memchr.specs.Find.{IsFirstByte}

-- how many octets are in front of it
pub place_or_len : (p : ℕ → Bool) (xs : List ℕ) (r : Option ℕ) → IsFirstByte p xs r → position_or_len p xs ≡ unwrap_or r (length xs)
place_or_len p xs None h =
    position_or_len_is p xs (length xs) 0 (omega arith) (λ k l. false_from_ne_true _ (h k (omega arith) l)) (λ l. absurd (omega arith))
place_or_len p xs (Some i) h =
    let before = h.0 in
    let within = before.high in
    position_or_len_is p xs i 0 (omega (arith, within)) (λ k l. false_from_ne_true _ (before.before k (omega arith) l)) (λ l. h.1)

pub place_is : (p : ℕ → Bool) (xs : List ℕ) (r : Option ℕ) → IsFirstByte p xs r → r ≡ position p xs
place_is p xs None h =
    let at = place_or_len p xs None h in
    let past = le-ltb (length xs) (length xs) (omega arith) in
    rw (at, past) refl
place_is p xs (Some i) h =
    let at = place_or_len p xs (Some i) h in
    let within = lt-ltb i (length xs) h.0.high in
    rw (at, within) refl

any_behind : (p : ℕ → Bool) (x : ℕ) (xs : List ℕ) (b : Bool) → nat_lt (position_or_len p xs) (length xs) ≡ b → p x ≡ false
    → nat_lt (position_or_len p (x ∷ xs)) (length (x ∷ xs)) ≡ b
any_behind p x xs true is h =
    let longer : position_or_len p (x ∷ xs) ≡ 1 + position_or_len p xs = ap (λ b. cond (not b) (1 + position_or_len p xs) 0) h in
    lt-ltb (position_or_len p (x ∷ xs)) (length (x ∷ xs)) (omega (arith, longer, ltb-true (position_or_len p xs) (length xs) is))
any_behind p x xs false is h =
    let longer : position_or_len p (x ∷ xs) ≡ 1 + position_or_len p xs = ap (λ b. cond (not b) (1 + position_or_len p xs) 0) h in
    le-ltb (position_or_len p (x ∷ xs)) (length (x ∷ xs)) (omega (arith, longer, ltb-false (position_or_len p xs) (length xs) is))

shown : (b : Bool) (n : ℕ) → is_some (cond b (Some n) None) ≡ b
shown true n = refl
shown false n = refl

any_of : (p : ℕ → Bool) (x : ℕ) (xs : List ℕ) (b : Bool) → p x ≡ b → list_any p xs ≡ is_some (position p xs)
    → list_any p (x ∷ xs) ≡ is_some (position p (x ∷ xs))
any_of p x xs true h rest =
    let some = lt-ltb 0 (length (x ∷ xs)) (omega arith) in
    rw (h, some) refl
any_of p x xs false h rest =
    ap (λ b. b || list_any p xs) h ∙ rest ∙ shown _ (position_or_len p xs)
    ∙ sym (any_behind p x xs _ refl h) ∙ sym (shown _ (position_or_len p (x ∷ xs)))

any_is : (p : ℕ → Bool) (xs : List ℕ) → list_any p xs ≡ is_some (position p xs)
any_is p [] = refl
any_is p (x ∷ xs) = any_of p x xs (p x) refl (any_is p xs)

pub has_place : (p : ℕ → Bool) (xs : List ℕ) (r : Option ℕ) → IsFirstByte p xs r → is_some r ≡ list_any p xs
has_place p xs r h = ap is_some (place_is p xs r h) ∙ sym (any_is p xs)
