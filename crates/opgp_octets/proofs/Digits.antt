-- Hexadecimal digits are a text.
use Rattle.std.proofs.Common.{◌≡◌, ℕ, zero, suc, ◌<◌, ◌&&◌, ◌∷◌, [], nat_lt, inl, inr, Bool, true, List, map, ◌/◌, ◌%◌, refl, sym, arith, slice_index, ltb-true}
use Rattle.std.specs.Str.{IsAscii, IsUtf8}
use Rattle.std.proofs.lemmas.Bool.{and_parts, cases_lt}
use Rattle.std.proofs.lemmas.Str.{IsUtf8-from_ascii}
use Rattle.std.proofs.lemmas.Str.Ascii.{IsAscii-from_reads}
use Rattle.std.specs.Char.{to_ascii_uppercase}
use Rattle.std.proofs.lemmas.List.{get_or-map, get_or_past}
use Rattle.hex.specs.Hex.{encode_lower, encode_upper, encode_with, lower_digits, upper_digits}
use Rattle.hex.proofs.HexLemmas.{IsAscii-encode_with}

-- ---- a test of each of the first places
holds_below : (ℕ → Bool) → ℕ → Bool
holds_below t zero = true
holds_below t (suc n) = t n && holds_below t n

holds_at : (t : ℕ → Bool) (n k : ℕ) → holds_below t n ≡ true → k < n → t k ≡ true
unfolding holds_below
holds_at t zero k h l = absurd (omega arith)
holds_at t (suc n) k h l =
    let parts = and_parts (t n) (holds_below t n) h in
    elim (cases_lt k n) [
      | inl below ↦ holds_at t n k parts.1 below
      | inr top ↦
          let e : k ≡ n = omega arith in
          rw e parts.0
    ]

upper_ascii : IsAscii upper_digits
unfolding holds_below
upper_ascii =
    IsAscii-from_reads upper_digits 16 (omega arith)
    (λ k l. ltb-true (slice_index upper_digits k) 128 (holds_at (λ i. nat_lt (slice_index upper_digits i) 128) 16 k refl l))

pub upper_is_text : (xs : List ℕ) → IsUtf8 (encode_upper xs)
upper_is_text xs = IsUtf8-from_ascii _ (IsAscii-encode_with upper_digits xs upper_ascii)

-- ---- lower-case digits made upper-case
upper_digit : (k : ℕ) → to_ascii_uppercase (slice_index lower_digits k) ≡ slice_index upper_digits k
upper_digit k =
    elim (cases_lt k 16) [
      | inl below ↦ sym (get_or-map to_ascii_uppercase lower_digits k 0 0 below)
      | inr past ↦
          let low = get_or_past lower_digits k 0 past in
          let high = get_or_past upper_digits k 0 past in
          rw (low, high) refl
    ]

pub upper_of_lower : (xs : List ℕ) → map to_ascii_uppercase (encode_lower xs) ≡ encode_upper xs
unfolding encode_with
upper_of_lower [] = refl
upper_of_lower (x ∷ xs) =
    let front = upper_digit (x / 16) in
    let back = upper_digit (x % 16) in
    let rest = upper_of_lower xs in
    rw (front, back, rest) refl
