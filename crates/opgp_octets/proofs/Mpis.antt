-- An integer that is read is the one that is written, and what is written is read again.
use Rattle.std.proofs.Common.{◌≡◌, ℕ, ◌^◌, ◌<◌, ◌≤◌, Bool, true, false, cond, ltb, List, ◌++◌, length, take, drop, Option, Some, None, Ok, Err, refl, sym, ap, subst, ◌∙◌, append_assoc, arith, inl, inr, not, ◌&&◌}
use Rattle.std.specs.Int.{w16, to_be_bytes}
use Rattle.std.specs.Prelude.{◌⊎◌}
use Rattle.std.proofs.lemmas.Bool.{ltb-false, le-ltb}
use Rattle.std.proofs.lemmas.List.{take_at, drop_at, take-append-drop, length-append, length-take, length-drop}
use Rattle.opgp_octets.specs.declared.fault.Reason.{Reason}
use Rattle.opgp_octets.specs.declared.fault.Reason.TheVariants.{Short, MpiBits}
use Rattle.opgp_octets.specs.Octets.{IsOctets}
use Rattle.opgp_octets.specs.Reading.{◌>>=◌, number_at, or_short}
use Rattle.opgp_octets.specs.Mpi.{MpiValue, MpiBegins, MpiRefused, octets_of, mpi_octets, IsMpi, is_strict, MayStand, checked, body_at, mpi_at}
use Rattle.opgp_octets.proofs.Bytes.{IsOctets-drop, IsOctets-take, chosen, bind_ok, bind_err, or_short_ok, pair_of, same_ok, Takes, Takes-then, wide16, number_takes, number_again}

-- what is known of an integer that was read
pub record IsRead (strict : Bool) (o : List ℕ) (x : MpiValue × List ℕ) : Type 0 where
  pub takes : Takes o (mpi_octets x.0) x.1
  pub number : IsMpi x.0
  pub stands : MayStand strict x.0

checked_ok : (strict : Bool) (n : MpiValue) (rest : List ℕ) (x : MpiValue × List ℕ) → checked strict n rest ≡ Ok x → (◌≡◌ {A = MpiValue × List ℕ} (n, rest) x) × MayStand strict n
checked_ok strict n rest x e =
    elim strict as (λ (s : Bool). checked s n rest ≡ Ok x → (◌≡◌ {A = MpiValue × List ℕ} (n, rest) x) × MayStand s n) [
      | false ↦ λ k. (cc, λ h. absurd cc)
      | true ↦ λ k. elim (is_strict n) as (λ (s : Bool). cond (not s) (Err MpiBits) (Ok (n, rest)) ≡ Ok x → (◌≡◌ {A = MpiValue × List ℕ} (n, rest) x) × (true ≡ true → s ≡ true)) [
        | true ↦ λ m. (cc, λ _. refl)
        | false ↦ λ m. absurd cc
      ] k
    ] e

body_takes : (strict : Bool) (bits : ℕ) (o : List ℕ) (x : MpiValue × List ℕ) → bits < 2 ^ 16 → IsOctets o → body_at strict bits o ≡ Ok x → (x.0.bits ≡ bits) × Takes o x.0.octets x.1 × IsMpi x.0 × MayStand strict x.0
body_takes strict bits o x lt fits e =
    let n : MpiValue = record { bits = bits; octets = take (octets_of bits) o } in
    elim (chosen (ltb (length o) (octets_of bits)) (Err Short) (checked strict n (drop (octets_of bits) o)) (Ok x) e) [
      | inl p ↦ absurd (let q = p.1 in cc)
      | inr p ↦
          let long : octets_of bits ≤ length o = ltb-false _ _ p.0 in
          let k = checked_ok strict n (drop (octets_of bits) o) x p.1 in
          let len : length n.octets ≡ octets_of bits = omega (arith, length-take (octets_of bits) o) in
          subst (λ (y : MpiValue × List ℕ). (y.0.bits ≡ bits) × Takes o y.0.octets y.1 × IsMpi y.0 × MayStand strict y.0) k.0
          (refl, record { parts = sym (take-append-drop (octets_of bits) o); rest_fits = IsOctets-drop (octets_of bits) o fits }, record { bits = lt; octets = len; each = IsOctets-take (octets_of bits) o fits }, k.1)
    ]

pub mpi_takes : (strict : Bool) (o : List ℕ) (x : MpiValue × List ℕ) → IsOctets o → mpi_at strict o ≡ Ok x → IsRead strict o x
unfolding mpi_at
mpi_takes strict o x fits e =
    let a = bind_ok (or_short (number_at w16 o)) (λ y. body_at strict y.0 y.1) x e in
    let y = a.0 in
    let t = number_takes w16 (2 ^ 16) wide16 o y.0 y.1 fits (or_short_ok (number_at w16 o) y a.1) in
    let b = body_takes strict y.0 y.1 x t.1 t.0.rest_fits a.2 in
    let whole = Takes-then o (to_be_bytes w16 y.0) y.1 x.0.octets x.1 t.0 b.1 in
    record { takes = subst (λ (m : ℕ). Takes o (to_be_bytes w16 m ++ x.0.octets) x.1) (sym b.0) whole; number = b.2; stands = b.3 }

-- past the octets, only strictness is left to ask
pub mpi_checks : (strict : Bool) (n : MpiValue) (rest : List ℕ) → IsMpi n → mpi_at strict (mpi_octets n ++ rest) ≡ checked strict n rest
unfolding mpi_at
mpi_checks strict n rest fits =
    let first = number_again w16 (2 ^ 16) wide16 n.bits (n.octets ++ rest) fits.bits in
    let long : ltb (length (n.octets ++ rest)) (octets_of n.bits) ≡ false = le-ltb _ _ (omega (arith, length-append n.octets rest, fits.octets)) in
    let body : body_at strict n.bits (n.octets ++ rest) ≡ checked strict n rest = rw (long, take_at n.octets rest (octets_of n.bits) fits.octets, drop_at n.octets rest (octets_of n.bits) fits.octets) refl in
    ap (λ (r : Option (ℕ × List ℕ)). or_short r >>= λ x. body_at strict x.0 x.1) first ∙ body

pub mpi_again : (strict : Bool) (n : MpiValue) (rest : List ℕ) → IsMpi n → MayStand strict n → mpi_at strict (mpi_octets n ++ rest) ≡ Ok (n, rest)
mpi_again strict n rest fits stands =
    let test : strict && not (is_strict n) ≡ false =
    elim strict as (λ (s : Bool). (s ≡ true → is_strict n ≡ true) → s && not (is_strict n) ≡ false) [
      | false ↦ λ h. refl
      | true ↦ λ h. rw (h refl) refl
    ] stands in
    mpi_checks strict n rest fits ∙ rw test refl

-- no spelling of an integer begins another
pub one_mpi : (n m : MpiValue) (x y : List ℕ) → IsMpi n → IsMpi m → mpi_octets n ++ x ≡ mpi_octets m ++ y → (n ≡ m) × (x ≡ y)
one_mpi n m x y fits others e =
    let first = mpi_again false n x fits (λ h. absurd cc) in
    let second = mpi_again false m y others (λ h. absurd cc) in
    pair_of (n, x) (m, y) (same_ok (n, x) (m, y) (sym first ∙ ap (mpi_at false) e ∙ second))

-- why there is no integer
pub mpi_short : (strict : Bool) (o : List ℕ) → mpi_at strict o ≡ Err Short → (n : MpiValue) (rest : List ℕ) → IsMpi n → o ≡ mpi_octets n ++ rest → ⊥
mpi_short strict o e n rest fits k =
    let now = ap (mpi_at strict) k ∙ mpi_checks strict n rest fits in
    elim (chosen (strict && not (is_strict n)) (Err MpiBits) (Ok (n, rest)) (Err Short) (sym now ∙ e)) [
      | inl p ↦ let q = p.1 in cc
      | inr p ↦ let q = p.1 in cc
    ]

no_bits : {A : Type 0} (r : Option A) → or_short r ≡ Err MpiBits → ⊥
no_bits None e = cc
no_bits (Some x) e = cc

only_short : {A : Type 0} (r : Option A) (e : Reason) → or_short r ≡ Err e → e ≡ Short
only_short None e k = cc
only_short (Some x) e k = absurd cc

both_true : (a b : Bool) → a && not b ≡ true → (a ≡ true) × (b ≡ false)
both_true true true e = absurd cc
both_true true false e = (refl, refl)
both_true false b e = absurd cc

body_bits : (strict : Bool) (o : List ℕ) (y : ℕ × List ℕ) → Takes o (to_be_bytes w16 y.0) y.1 × (y.0 < 2 ^ 16) → body_at strict y.0 y.1 ≡ Err MpiBits → MpiRefused strict o MpiBits
body_bits strict o y t e =
    let m : MpiValue = record { bits = y.0; octets = take (octets_of y.0) y.1 } in
    let rest = drop (octets_of y.0) y.1 in
    elim (chosen (ltb (length y.1) (octets_of y.0)) (Err Short) (checked strict m rest) (Err MpiBits) e) [
      | inl p ↦ absurd (let q = p.1 in cc)
      | inr p ↦
          let long : octets_of y.0 ≤ length y.1 = ltb-false _ _ p.0 in
          elim (chosen (strict && not (is_strict m)) (Err MpiBits) (Ok (m, rest)) (Err MpiBits) p.1) [
            | inl q ↦
                let both = both_true strict (is_strict m) q.0 in (
                  m,
                  rest,
                  record { bits = t.1; octets = omega (arith, length-take (octets_of y.0) y.1); each = IsOctets-take (octets_of y.0) y.1 t.0.rest_fits },
                  t.0.parts ∙ ap (λ (l : List ℕ). to_be_bytes w16 y.0 ++ l) (sym (take-append-drop (octets_of y.0) y.1)) ∙ sym (append_assoc (to_be_bytes w16 y.0) m.octets rest),
                  both.0,
                  both.1,
                )
            | inr q ↦ absurd (let r = q.1 in cc)
          ]
    ]

body_kinds : (strict : Bool) (bits : ℕ) (o : List ℕ) (e : Reason) → body_at strict bits o ≡ Err e → (e ≡ Short) ⊎ (e ≡ MpiBits)
body_kinds strict bits o e k =
    let m : MpiValue = record { bits = bits; octets = take (octets_of bits) o } in
    elim (chosen (ltb (length o) (octets_of bits)) (Err Short) (checked strict m (drop (octets_of bits) o)) (Err e) k) [
      | inl p ↦ inl (let q = p.1 in cc)
      | inr p ↦
          elim (chosen (strict && not (is_strict m)) (Err MpiBits) (Ok (m, drop (octets_of bits) o)) (Err e) p.1) [
            | inl q ↦ inr (let r = q.1 in cc)
            | inr q ↦ absurd (let r = q.1 in cc)
          ]
    ]

-- why there is none that may stand
pub mpi_bits : (strict : Bool) (o : List ℕ) → IsOctets o → mpi_at strict o ≡ Err MpiBits → MpiRefused strict o MpiBits
unfolding mpi_at
mpi_bits strict o fits e =
    elim (bind_err (or_short (number_at w16 o)) (λ y. body_at strict y.0 y.1) MpiBits e) [
      | inl p ↦ absurd (no_bits (number_at w16 o) p)
      | inr (y, p, q) ↦ body_bits strict o y (number_takes w16 (2 ^ 16) wide16 o y.0 y.1 fits (or_short_ok (number_at w16 o) y p)) q
    ]

pub mpi_kinds : (strict : Bool) (o : List ℕ) (e : Reason) → mpi_at strict o ≡ Err e → (e ≡ Short) ⊎ (e ≡ MpiBits)
unfolding mpi_at
mpi_kinds strict o e k =
    elim (bind_err (or_short (number_at w16 o)) (λ y. body_at strict y.0 y.1) e k) [
      | inl p ↦ inl (only_short (number_at w16 o) e p)
      | inr (y, p, q) ↦ body_kinds strict y.0 y.1 e q
    ]

-- ---- what a call that reads has read

pub mpi_found : (strict : Bool) (o : List ℕ) (m : MpiValue) (count : ℕ) → IsOctets o → count ≤ length o → mpi_at strict o ≡ Ok (m, drop count o) → MpiBegins strict o m count
mpi_found strict o m count fits within e =
    let t = mpi_takes strict o (m, drop count o) fits e in
    let whole = t.takes.parts in
    let size : count ≡ length (mpi_octets m) = omega (arith, ap length whole, length-append (mpi_octets m) (drop count o), length-drop count o, within) in
    record { mpi = t.number; stands = t.stands; size = size; within = within; spelled = ap (take count) whole ∙ take_at (mpi_octets m) (drop count o) count (sym size) }

-- what begins with the spelling of an integer that may stand isn't refused
pub mpi_only : (strict : Bool) (o : List ℕ) (m : MpiValue) (rest : List ℕ) (e : Reason) → IsMpi m → MayStand strict m → o ≡ mpi_octets m ++ rest → mpi_at strict o ≡ Err e → ⊥
mpi_only strict o m rest e fits stands k refused = let again = ap (mpi_at strict) k ∙ mpi_again strict m rest fits stands in cc

-- the reason of a refusal is true
pub mpi_refused : (strict : Bool) (o : List ℕ) (e : Reason) → IsOctets o → mpi_at strict o ≡ Err e → MpiRefused strict o e
mpi_refused strict o e each k =
    elim (mpi_kinds strict o e k) [
      | inl p ↦ subst (λ (d : Reason). MpiRefused strict o d) (sym p) (mpi_short strict o (k ∙ ap (λ (d : Reason). Err d) p))
      | inr p ↦ subst (λ (d : Reason). MpiRefused strict o d) (sym p) (mpi_bits strict o each (k ∙ ap (λ (d : Reason). Err d) p))
    ]
