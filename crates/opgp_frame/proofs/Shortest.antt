-- The shortest form of a length in the current format.
use Rattle.std.proofs.Common.{◌≡◌, ℕ, ◌<◌, ◌≤◌, [], length, refl, arith, inl, inr}
use Rattle.std.proofs.lemmas.Bool.{cases_lt, lt-ltb, le-ltb}
use Rattle.opgp_frame.specs.declared.form.Form.{Form}
use Rattle.opgp_frame.specs.declared.form.Form.TheVariants.{OldOne, OldTwo, OldFour, NewOne, NewTwo, NewFive, Partial}
use Rattle.opgp_frame.specs.Form.{last_length, exponents_of}
use Rattle.opgp_frame.specs.Length.{LengthFits, length_octets}
use Rattle.opgp_frame.specs.Reframed.{IsCurrent, shortest_form}

-- the length octets of each form
one_octet : (n : ℕ) → n < 192 → length (length_octets (last_length (shortest_form n) n)) ≡ 1
one_octet n lt = rw (lt-ltb n 192 lt) refl

two_octets : (n : ℕ) → 192 ≤ n → n < 8384 → length (length_octets (last_length (shortest_form n) n)) ≡ 2
two_octets n le lt = rw (le-ltb n 192 le, lt-ltb n 8384 lt) refl

pub five_octets : (n : ℕ) → 8384 ≤ n → length (length_octets (last_length (shortest_form n) n)) ≡ 5
five_octets n le = let high : 192 ≤ n = omega arith in rw (le-ltb n 192 high, le-ltb n 8384 le) refl

pub at_most_five : (n : ℕ) → length (length_octets (last_length (shortest_form n) n)) ≤ 5
at_most_five n =
    elim (cases_lt n 192) [
      | inl lt ↦ omega (arith, one_octet n lt)
      | inr le ↦ elim (cases_lt n 8384) [ inl lt ↦ omega (arith, two_octets n le lt) | inr high ↦ omega (arith, five_octets n high) ]
    ]

at_most_two : (n : ℕ) → n < 8384 → length (length_octets (last_length (shortest_form n) n)) ≤ 2
at_most_two n below =
    elim (cases_lt n 192) [ inl lt ↦ omega (arith, one_octet n lt) | inr le ↦ omega (arith, two_octets n le below) ]

-- no other form of the current format, not partial, spells the length in fewer octets
pub shortest_form-least : (form : Form) (n : ℕ) → IsCurrent form → LengthFits (last_length form n) → (exponents_of form ≡ []) × (length (length_octets (last_length (shortest_form n) n)) ≤ length (length_octets (last_length form n)))
shortest_form-least NewOne n current fits = (refl, omega (arith, one_octet n (omega arith)))
shortest_form-least NewTwo n current fits = (refl, at_most_two n (omega arith))
shortest_form-least NewFive n current fits = (refl, at_most_five n)
shortest_form-least OldOne n current fits = absurd current
shortest_form-least OldTwo n current fits = absurd current
shortest_form-least OldFour n current fits = absurd current
shortest_form-least (Partial p) n current fits = absurd current
