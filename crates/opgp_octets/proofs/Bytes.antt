-- Octets as numbers below 256, numbers of several octets, and the steps of a reader.
use Rattle.std.proofs.Common.{◌≡◌, ℕ, ◌+◌, ◌^◌, ◌<◌, ◌≤◌, Bool, true, false, cond, ltb, List, ◌++◌, length, take, drop, Option, Some, None, Result, Ok, Err, refl, sym, ap, ◌∙◌, append_assoc, arith, inl, inr, ◌⊎◌}
use Rattle.std.specs.Int.{Width, w16, w32, byte_len, from_be_bytes, to_be_bytes}
use Rattle.std.proofs.lemmas.Bool.{cases_lt, ltb-false, le-ltb}
use Rattle.std.proofs.lemmas.List.{take_at, drop_at, take-append-drop, length-append, length-take, get_or-drop, get_or-take, get_or_past}
use Rattle.std.proofs.lemmas.Nat.{be_bytes_2, be_bytes_4, from_be_bytes-to_be_bytes_2, from_be_bytes-to_be_bytes_4}
use Rattle.opgp_octets.specs.declared.fault.Reason.{Reason}
use Rattle.opgp_octets.specs.Octets.{IsOctets}
use Rattle.opgp_octets.specs.Reading.{◌>>=◌, number_at, or_short}

pub IsOctets-drop : (n : ℕ) (o : List ℕ) → IsOctets o → IsOctets (drop n o)
IsOctets-drop n o h i = rw get_or-drop (h (n + i))

pub IsOctets-take : (n : ℕ) (o : List ℕ) → IsOctets o → IsOctets (take n o)
IsOctets-take n o h i =
    elim (cases_lt i n) [
      | inl lt ↦ rw (get_or-take n o i 0 lt) (h i)
      | inr le ↦ rw (get_or_past (take n o) i 0 (omega (arith, length-take n o))) (omega arith)
    ]

-- which way a test went
pub chosen : {A : Type 0} (b : Bool) (x y z : A) → cond b x y ≡ z → ((b ≡ true) × (x ≡ z)) ⊎ ((b ≡ false) × (y ≡ z))
chosen true x y z e = inl (refl, e)
chosen false x y z e = inr (refl, e)

pub same_some : {A : Type 0} (x y : A) → Some x ≡ Some y → x ≡ y
same_some x y e = cc

-- the value of a step that did not fail
pub bind_ok : {A B E : Type 0} (r : Result A E) (f : A → Result B E) (y : B) → (r >>= f) ≡ Ok y → (x : A) × (r ≡ Ok x) × (f x ≡ Ok y)
bind_ok (Ok x) f y e = (x, refl, e)
bind_ok (Err d) f y e = absurd cc

-- what a reader took from the front
pub record Takes (o text rest : List ℕ) : Type 0 where
  pub parts : o ≡ text ++ rest
  pub rest_fits : IsOctets rest

pub Takes-then : (a x b y c : List ℕ) → Takes a x b → Takes b y c → Takes a (x ++ y) c
Takes-then a x b y c p q = record { parts = p.parts ∙ ap (λ (t : List ℕ). x ++ t) q.parts ∙ sym (append_assoc x y c); rest_fits = q.rest_fits }

-- ---- numbers

pub record IsWide (w : Width) (limit : ℕ) : Type 0 where
  pub len : (n : ℕ) → length (to_be_bytes w n) ≡ byte_len w
  pub back : (o : List ℕ) → length o ≡ byte_len w → IsOctets o → to_be_bytes w (from_be_bytes w o) ≡ o
  pub again : (n : ℕ) → n < limit → from_be_bytes w (to_be_bytes w n) ≡ n
  pub below : (o : List ℕ) → IsOctets o → from_be_bytes w o < limit

pub wide16 : IsWide w16 (2 ^ 16)
wide16 = record {
  len = λ n. refl;
  back = λ o len fits. be_bytes_2 o _ len fits refl;
  again = λ n lt. from_be_bytes-to_be_bytes_2 n lt;
  below = λ o fits. omega (arith, fits 0, fits 1);
}

pub wide32 : IsWide w32 (2 ^ 32)
wide32 = record {
  len = λ n. refl;
  back = λ o len fits. be_bytes_4 o _ len fits refl;
  again = λ n lt. from_be_bytes-to_be_bytes_4 n lt;
  below = λ o fits. omega (arith, fits 0, fits 1, fits 2, fits 3);
}

pub number_takes : (w : Width) (limit : ℕ) (wide : IsWide w limit) (o : List ℕ) (n : ℕ) (rest : List ℕ) → IsOctets o → number_at w o ≡ Some (n, rest) → Takes o (to_be_bytes w n) rest × (n < limit)
number_takes w limit wide o n rest fits e =
    elim (chosen (ltb (length o) (byte_len w)) None (Some (from_be_bytes w (take (byte_len w) o), drop (byte_len w) o)) (Some (n, rest)) e) [
      | inl p ↦ absurd (let q = p.1 in cc)
      | inr p ↦
          let g = same_some (from_be_bytes w (take (byte_len w) o), drop (byte_len w) o) (n, rest) p.1 in
          let long : byte_len w ≤ length o = ltb-false _ _ p.0 in
          let n-is : from_be_bytes w (take (byte_len w) o) ≡ n = ap (λ (q : ℕ × List ℕ). q.0) g in
          let rest-is : drop (byte_len w) o ≡ rest = ap (λ (q : ℕ × List ℕ). q.1) g in
          let front : to_be_bytes w n ≡ take (byte_len w) o = rw (← n-is) (wide.back (take (byte_len w) o) (omega (arith, length-take (byte_len w) o)) (IsOctets-take (byte_len w) o fits)) in
          (record { parts = rw (front, ← rest-is) (sym (take-append-drop (byte_len w) o)); rest_fits = rw (← rest-is) (IsOctets-drop (byte_len w) o fits) }, rw (← n-is) (wide.below (take (byte_len w) o) (IsOctets-take (byte_len w) o fits)))
    ]

pub number_again : (w : Width) (limit : ℕ) (wide : IsWide w limit) (n : ℕ) (rest : List ℕ) → n < limit → number_at w (to_be_bytes w n ++ rest) ≡ Some (n, rest)
number_again w limit wide n rest lt =
    let len = wide.len n in
    let long : ltb (length (to_be_bytes w n ++ rest)) (byte_len w) ≡ false = le-ltb _ _ (omega (arith, length-append (to_be_bytes w n) rest)) in
    rw (long, take_at (to_be_bytes w n) rest (byte_len w) len, drop_at (to_be_bytes w n) rest (byte_len w) len, wide.again n lt) refl

-- ---- steps

pub or_short_ok : {A : Type 0} (o : Option A) (x : A) → or_short o ≡ Ok x → o ≡ Some x
or_short_ok None x e = absurd cc
or_short_ok (Some y) x e = cc

pub pair_of : {A B : Type 0} (x y : A × B) → x ≡ y → (x.0 ≡ y.0) × (x.1 ≡ y.1)
pair_of {A} {B} x y e = (ap (λ (p : A × B). p.0) e, ap (λ (p : A × B). p.1) e)

abbrev pub done : {A : Type 0} → A → Result A Reason
done x = Ok x

pub same_ok : {A : Type 0} (x y : A) → done x ≡ done y → x ≡ y
same_ok x y e = cc

-- where a step failed
pub bind_err : {A B E : Type 0} (r : Result A E) (f : A → Result B E) (e : E) → (r >>= f) ≡ Err e → (r ≡ Err e) ⊎ ((x : A) × (r ≡ Ok x) × (f x ≡ Err e))
bind_err (Ok x) f e k = inr (x, refl, k)
bind_err (Err d) f e k = inl cc
