-- Steps of reading: what was taken from the front or the end of a list, and what is read again.
use Rattle.std.proofs.Common.{◌≡◌, ℕ, ◌-◌, ◌≤◌, Bool, true, false, ltb, List, ◌++◌, length, take, drop, Option, Some, None, refl, sym, ap, arith, inl, inr}
use Rattle.std.proofs.lemmas.Bool.{ltb-false, le-ltb, or_cases, eqb-true}
use Rattle.std.proofs.lemmas.List.{take_at, drop_at, take-append-drop, length-append, length-take, length-drop}
use Rattle.opgp_octets.specs.Octets.{IsOctets}
use Rattle.opgp_octets.proofs.Bytes.{IsOctets-take, IsOctets-drop, chosen}
use Rattle.opgp_hash.specs.QuestionValue.{is_version}
use Rattle.opgp_hash.specs.Reading.{◌>>=◌, front_at, end_at}
use Rattle.opgp_hash.specs.Reopening.{checked}

-- the value of a step that gave one
pub bind_some : {A B : Type 0} (o : Option A) (f : A → Option B) (y : B) → (o >>= f) ≡ Some y → (x : A) × (o ≡ Some x) × (f x ≡ Some y)
bind_some (Some x) f y e = (x, refl, e)
bind_some None f y e = absurd cc

pub checked_some : {A : Type 0} (test : Bool) (x y : A) → checked test x ≡ Some y → (test ≡ true) × (x ≡ y)
checked_some true x y e = (refl, cc)
checked_some false x y e = absurd cc

pub checked_true : {A : Type 0} (test : Bool) (x : A) → test ≡ true → checked test x ≡ Some x
checked_true true x e = refl
checked_true false x e = absurd cc

pub same_some : {A : Type 0} (x y : A) → Some x ≡ Some y → x ≡ y
same_some x y e = cc

-- what holds of both versions holds of a version
pub by_version : (P : ℕ → Type 0) (version : ℕ) → is_version version ≡ true → P 4 → P 6 → P version
by_version P version known four six =
    elim (or_cases _ _ known) [
      | inl e ↦ rw (eqb-true version 4 e) four
      | inr e ↦ rw (eqb-true version 6 e) six
    ]

-- ---- so many octets from the front or the end

pub front_again : (a rest : List ℕ) (n : ℕ) → length a ≡ n → front_at n (a ++ rest) ≡ Some (a, rest)
unfolding front_at
front_again a rest n e =
    let long : ltb (length (a ++ rest)) n ≡ false = le-ltb _ _ (omega (arith, length-append a rest)) in
    rw (long, take_at a rest n e, drop_at a rest n e) refl

pub end_again : (a b : List ℕ) (n : ℕ) → length b ≡ n → end_at n (a ++ b) ≡ Some (a, b)
unfolding end_at
end_again a b n e =
    let long : ltb (length (a ++ b)) n ≡ false = le-ltb _ _ (omega (arith, length-append a b)) in
    let at : length a ≡ length (a ++ b) - n = omega (arith, length-append a b) in
    rw (long, take_at a b (length (a ++ b) - n) at, drop_at a b (length (a ++ b) - n) at) refl

-- what was taken of octets
pub record Parts (o a b : List ℕ) : Type 0 where
  pub parts : o ≡ a ++ b
  pub first : IsOctets a
  pub second : IsOctets b

pub front_takes : (n : ℕ) (o a b : List ℕ) → IsOctets o → front_at n o ≡ Some (a, b) → Parts o a b × (length a ≡ n)
unfolding front_at
front_takes n o a b fits e =
    elim (chosen (ltb (length o) n) None (Some (take n o, drop n o)) (Some (a, b)) e) [
      | inl p ↦ absurd (let q = p.1 in cc)
      | inr p ↦
          let long : n ≤ length o = ltb-false _ _ p.0 in
          let both = same_some (take n o, drop n o) (a, b) p.1 in
          let a-is : take n o ≡ a = ap (λ (x : List ℕ × List ℕ). x.0) both in
          let b-is : drop n o ≡ b = ap (λ (x : List ℕ × List ℕ). x.1) both in (
            record {
              parts = rw (← a-is, ← b-is) (sym (take-append-drop n o));
              first = rw (← a-is) (IsOctets-take n o fits);
              second = rw (← b-is) (IsOctets-drop n o fits);
            },
            rw (← a-is) (omega (arith, length-take n o)),
          )
    ]

pub end_takes : (n : ℕ) (o a b : List ℕ) → IsOctets o → end_at n o ≡ Some (a, b) → Parts o a b × (length b ≡ n)
unfolding end_at
end_takes n o a b fits e =
    let m = length o - n in
    elim (chosen (ltb (length o) n) None (Some (take m o, drop m o)) (Some (a, b)) e) [
      | inl p ↦ absurd (let q = p.1 in cc)
      | inr p ↦
          let long : n ≤ length o = ltb-false _ _ p.0 in
          let both = same_some (take m o, drop m o) (a, b) p.1 in
          let a-is : take m o ≡ a = ap (λ (x : List ℕ × List ℕ). x.0) both in
          let b-is : drop m o ≡ b = ap (λ (x : List ℕ × List ℕ). x.1) both in (
            record {
              parts = rw (← a-is, ← b-is) (sym (take-append-drop m o));
              first = rw (← a-is) (IsOctets-take m o fits);
              second = rw (← b-is) (IsOctets-drop m o fits);
            },
            rw (← b-is) (omega (arith, length-drop m o)),
          )
    ]
