-- A length that is read is the one that is written, and what is written is read again.
use Rattle.std.proofs.Common.{◌≡◌, ℕ, suc, ◌+◌, ◌-◌, ◌*◌, ◌/◌, ◌%◌, ◌^◌, ◌<◌, ◌≤◌, cond, ltb, List, [], ◌∷◌, ◌++◌, length, Option, Some, None, refl, sym, ap, subst, ◌∙◌, arith, inl, inr}
use Rattle.std.specs.Int.{w32, to_be_bytes}
use Rattle.std.specs.Prelude.{IfSome, IfNone}
use Rattle.std.proofs.lemmas.Bool.{ltb-true, ltb-false, lt-ltb, le-ltb}
use Rattle.std.proofs.lemmas.List.{take_at, length-append, append_cancel_left}
use Rattle.opgp_octets.specs.declared.sub_len.SubLen.{SubLen}
use Rattle.opgp_octets.specs.declared.sub_len.SubLen.TheVariants.{One, Two, Five}
use Rattle.opgp_octets.specs.Octets.{IsOctets}
use Rattle.opgp_octets.specs.Reading.{number_at}
use Rattle.opgp_octets.specs.SubLen.{SubLenFits, SubLenBegins, sub_len_octets, sub_five_at, sub_two_at, sub_len_at}
use Rattle.opgp_octets.proofs.Bytes.{chosen, same_some, number_takes, number_again, wide32}

five_takes : (o : List ℕ) (x : SubLen × ℕ) → IsOctets o → sub_five_at o ≡ Some x → SubLenBegins (255 ∷ o) x.0 x.1
five_takes o x fits e =
    elim (number_at w32 o) as (λ (r : Option (ℕ × List ℕ)). number_at w32 o ≡ r → SubLenBegins (255 ∷ o) x.0 x.1) [
      | None ↦ λ k. absurd (let q : None ≡ Some x = rw k at e in cc)
      | Some y ↦ λ k.
          let q : Some (Five y.0, 5) ≡ Some x = rw k at e in
          let t = number_takes w32 (2 ^ 32) wide32 o y.0 y.1 fits k in
          let whole = t.0.parts in
          let len = ap length whole in
          subst (λ (z : SubLen × ℕ). SubLenBegins (255 ∷ o) z.0 z.1) (same_some (Five y.0, 5) x q)
          (record { fits = t.1; size = refl; within = omega (arith, len, length-append (to_be_bytes w32 y.0) y.1); spelled = ap (λ (l : List ℕ). 255 ∷ l) (rw whole (take_at (to_be_bytes w32 y.0) y.1 4 refl)) })
    ] refl

two_takes : (a : ℕ) (o : List ℕ) (x : SubLen × ℕ) → 192 ≤ a → a < 255 → IsOctets o → sub_two_at a o ≡ Some x → SubLenBegins (a ∷ o) x.0 x.1
two_takes a [] x low high fits e = absurd cc
two_takes a (b ∷ rest) x low high fits e =
    let lt : b < 256 = fits 0 in
    let n : ℕ = (a - 192) * 256 + b + 192 in
    let first : (n - 192) / 256 + 192 ≡ a = omega arith in
    let second : (n - 192) % 256 ≡ b = omega arith in
    subst (λ (z : SubLen × ℕ). SubLenBegins (a ∷ b ∷ rest) z.0 z.1) (same_some (Two n, 2) x e)
    (record { fits = (omega arith, omega arith); size = refl; within = omega arith; spelled = rw (first, second) refl })

pub sub_len_takes : (o : List ℕ) (x : SubLen × ℕ) → IsOctets o → sub_len_at o ≡ Some x → SubLenBegins o x.0 x.1
unfolding sub_len_at
sub_len_takes [] x fits e = absurd cc
sub_len_takes (a ∷ o) x fits e =
    let lt : a < 256 = fits 0 in
    let rest : IsOctets o = λ i. fits (suc i) in
    elim (chosen (ltb a 192) (Some (One a, 1)) (cond (ltb a 255) (sub_two_at a o) (sub_five_at o)) (Some x) e) [
      | inl p ↦
          let low : a < 192 = ltb-true a 192 p.0 in
          subst (λ (z : SubLen × ℕ). SubLenBegins (a ∷ o) z.0 z.1) (same_some (One a, 1) x p.1)
          (record { fits = omega arith; size = refl; within = omega arith; spelled = refl })
      | inr p ↦
          let low : 192 ≤ a = ltb-false a 192 p.0 in
          elim (chosen (ltb a 255) (sub_two_at a o) (sub_five_at o) (Some x) p.1) [
            | inl q ↦ two_takes a o x low (ltb-true a 255 q.0) rest q.1
            | inr q ↦
                let top : a ≡ 255 = omega (arith, ltb-false a 255 q.0) in
                subst (λ (b : ℕ). SubLenBegins (b ∷ o) x.0 x.1) (sym top) (five_takes o x rest q.1)
          ]
    ]

pub sub_len_again : (l : SubLen) (rest : List ℕ) → SubLenFits l → sub_len_at (sub_len_octets l ++ rest) ≡ Some (l, length (sub_len_octets l))
unfolding sub_len_at
sub_len_again (One n) rest h = rw (lt-ltb n 192 (omega arith)) refl
sub_len_again (Two n) rest h =
    let a : ℕ = (n - 192) / 256 + 192 in
    let value : (a - 192) * 256 + (n - 192) % 256 + 192 ≡ n = omega arith in
    rw (le-ltb a 192 (omega arith), lt-ltb a 255 (omega arith), value) refl
sub_len_again (Five n) rest h = rw (number_again w32 (2 ^ 32) wide32 n rest h) refl

-- no spelling of a length begins another
pub one_sub_len : (l m : SubLen) (x y : List ℕ) → SubLenFits l → SubLenFits m → sub_len_octets l ++ x ≡ sub_len_octets m ++ y → (l ≡ m) × (x ≡ y)
one_sub_len l m x y fits others e =
    let first = sub_len_again l x fits in
    let second = sub_len_again m y others in
    let same : l ≡ m = ap (λ (p : SubLen × ℕ). p.0) (same_some (l, length (sub_len_octets l)) (m, length (sub_len_octets m)) (sym first ∙ ap sub_len_at e ∙ second)) in
    (same, append_cancel_left (sub_len_octets l) x y (rw (← same) at e))

pub sub_len_is_found : (o : List ℕ) (r : Option (SubLen × ℕ)) → IsOctets o → r ≡ sub_len_at o → IfSome r (λ x. SubLenBegins o x.0 x.1)
sub_len_is_found o None fits e = tt
sub_len_is_found o (Some x) fits e = sub_len_takes o x fits (sym e)

pub sub_len_is_none : (o : List ℕ) (r : Option (SubLen × ℕ)) → r ≡ sub_len_at o → IfNone r ((l : SubLen) (rest : List ℕ) → SubLenFits l → o ≡ sub_len_octets l ++ rest → ⊥)
sub_len_is_none o None e = λ l rest fits k. let again = sub_len_again l rest fits in let same = ap sub_len_at k in cc
sub_len_is_none o (Some x) e = tt
