-- A field that is read is the field that was written, what was written is read again, and why a field is not read.
use Rattle.std.proofs.Common.{◌≡◌, ℕ, suc, ◌^◌, ◌<◌, ◌≤◌, Bool, false, cond, ltb, eqb, ◌||◌, ◌&&◌, not, List, [], ◌∷◌, ◌++◌, length, take, drop, Option, Some, None, Result, Ok, Err, refl, sym, ap, subst, ◌∙◌, arith, inl, inr, ◌⊎◌}
use Rattle.std.specs.Prelude.{is_ok}
use Rattle.std.specs.Int.{w16, w32, to_be_bytes, from_be_bytes}
use Rattle.std.proofs.lemmas.Bool.{ltb-false, le-ltb, eqb-true, eq-eqb, or_parts}
use Rattle.std.proofs.lemmas.List.{take_at, drop_at, take-append-drop, length-append, length-take, append-nil, nil_from_length}
use Rattle.opgp_octets.specs.declared.fault.Reason.{Reason}
use Rattle.opgp_octets.specs.declared.fault.Reason.TheVariants.{Short, MpiBits, KeyVersion, KeyTooLong, Count}
use Rattle.opgp_octets.specs.Octets.{IsOctets}
use Rattle.opgp_octets.specs.Reading.{◌>>=◌, number_at, or_short}
use Rattle.opgp_octets.specs.Mpi.{MpiValue, octets_of, is_strict, checked, body_at, mpi_at}
use Rattle.opgp_octets.proofs.Bytes.{IsOctets-drop, IsOctets-take, chosen, bind_ok, bind_err, or_short_ok, same_ok, done as done_ok, Takes, Takes-then, wide32, number_takes, number_again}
use Rattle.opgp_octets.proofs.Mpis.{mpi_takes, mpi_again}
use Rattle.opgp_packet.specs.Fields.{Kind, version, octet, exact, four, count, mpi, sized, fixed, whole, never, Field, small, wide, integer, named, bare, field_octets, Stands, HasNone, reason_of}
use Rattle.opgp_packet.specs.FieldReading.{octet_at, some_at, version_as, exact_as, count_as, sized_as, kind_at}

-- what is known of a field that was read
pub record IsTaken (kind : Kind) (o : List ℕ) (x : Field × List ℕ) : Type 0 where
  pub takes : Takes o (field_octets x.0) x.1
  pub stands : Stands kind x.0 (length x.1)

made : (kind : Kind) (o : List ℕ) (y x : Field × List ℕ) → done_ok y ≡ Ok x → IsTaken kind o y → IsTaken kind o x
made kind o y x e t = subst (λ (z : Field × List ℕ). IsTaken kind o z) (same_ok y x e) t

octet_ok : (o : List ℕ) (x : ℕ × List ℕ) → IsOctets o → octet_at o ≡ Ok x → Takes o (x.0 ∷ []) x.1 × (x.0 < 256)
octet_ok [] x fits e = absurd cc
octet_ok (n ∷ o) x fits e = subst (λ (y : ℕ × List ℕ). Takes (n ∷ o) (y.0 ∷ []) y.1 × (y.0 < 256)) (same_ok (n, o) x e) (record { parts = refl; rest_fits = λ i. fits (suc i) }, fits 0)

some_ok : (n : ℕ) (o : List ℕ) (x : List ℕ × List ℕ) → IsOctets o → some_at n o ≡ Ok x → Takes o x.0 x.1 × (length x.0 ≡ n) × IsOctets x.0
some_ok n o x fits e =
    elim (chosen (ltb (length o) n) (Err Short) (Ok (take n o, drop n o)) (Ok x) e) [
      | inl p ↦ absurd (let q = p.1 in cc)
      | inr p ↦
          let long : n ≤ length o = ltb-false _ _ p.0 in
          let len : length (take n o) ≡ n = omega (arith, length-take n o) in
          subst (λ (y : List ℕ × List ℕ). Takes o y.0 y.1 × (length y.0 ≡ n) × IsOctets y.0) (same_ok (take n o, drop n o) x p.1)
          (record { parts = sym (take-append-drop n o); rest_fits = IsOctets-drop n o fits }, len, IsOctets-take n o fits)
    ]

version_ok : (o : List ℕ) (y : ℕ × List ℕ) (x : Field × List ℕ) → Takes o (y.0 ∷ []) y.1 → version_as y.0 y.1 ≡ Ok x → IsTaken version o x
version_ok o y x t e =
    elim (chosen (eqb y.0 4) (cond (ltb 65534 (length y.1)) (Err KeyTooLong) (Ok (small y.0, y.1))) (cond (eqb y.0 6) (Ok (small y.0, y.1)) (Err KeyVersion)) (Ok x) e) [
      | inl p ↦
          elim (chosen (ltb 65534 (length y.1)) (Err KeyTooLong) (Ok (small y.0, y.1)) (Ok x) p.1) [
            | inl q ↦ absurd (let r = q.1 in cc)
            | inr q ↦ made version o (small y.0, y.1) x q.1 (record { takes = t; stands = inl (eqb-true _ _ p.0, ltb-false _ _ q.0) })
          ]
      | inr p ↦
          elim (chosen (eqb y.0 6) (Ok (small y.0, y.1)) (Err KeyVersion) (Ok x) p.1) [
            | inl q ↦ made version o (small y.0, y.1) x q.1 (record { takes = t; stands = inr (eqb-true _ _ q.0) })
            | inr q ↦ absurd (let r = q.1 in cc)
          ]
    ]

count_ok : (o : List ℕ) (y : ℕ × List ℕ) (x : Field × List ℕ) → Takes o (to_be_bytes w32 y.0) y.1 → y.0 < 2 ^ 32 → count_as y.0 y.1 ≡ Ok x → IsTaken count o x
count_ok o y x t lt e =
    elim (chosen (eqb y.0 (length y.1)) (Ok (wide y.0, y.1)) (Err Count) (Ok x) e) [
      | inl p ↦ made count o (wide y.0, y.1) x p.1 (record { takes = t; stands = (lt, eqb-true _ _ p.0) })
      | inr p ↦ absurd (let q = p.1 in cc)
    ]

exact_ok : (reason : Reason) (wanted : ℕ) (o : List ℕ) (y : ℕ × List ℕ) (x : Field × List ℕ) → Takes o (y.0 ∷ []) y.1 → y.0 < 256 → exact_as reason wanted y.0 y.1 ≡ Ok x → IsTaken (exact reason wanted) o x
exact_ok reason wanted o y x t lt e =
    elim (chosen (eqb y.0 wanted) (Ok (small y.0, y.1)) (Err reason) (Ok x) e) [
      | inl p ↦ made (exact reason wanted) o (small y.0, y.1) x p.1 (record { takes = t; stands = (lt, eqb-true _ _ p.0) })
      | inr p ↦ absurd (let q = p.1 in cc)
    ]

sized_ok : (reason : Reason) (least most : ℕ) (o : List ℕ) (y : ℕ × List ℕ) (x : Field × List ℕ) → Takes o (y.0 ∷ []) y.1 → y.0 < 256 → sized_as reason least most y.0 y.1 ≡ Ok x → IsTaken (sized reason least most) o x
sized_ok reason least most o y x t lt e =
    elim (chosen (ltb y.0 least || ltb most y.0) (Err reason) (some_at y.0 y.1 >>= λ z. Ok (named z.0, z.1)) (Ok x) e) [
      | inl p ↦ absurd (let q = p.1 in cc)
      | inr p ↦
          let neither = or_parts (ltb y.0 least) (ltb most y.0) p.0 in
          let b = bind_ok (some_at y.0 y.1) (λ z. Ok (named z.0, z.1)) x p.1 in
          let s = some_ok y.0 y.1 b.0 t.rest_fits b.1 in
          let whole = Takes-then o (y.0 ∷ []) y.1 b.0.0 b.0.1 t s.0 in
          let spelled = subst (λ (n : ℕ). Takes o (n ∷ b.0.0) b.0.1) (sym s.1) whole in
          let low = ltb-false y.0 least neither.0 in
          let high = ltb-false most y.0 neither.1 in
          made (sized reason least most) o (named b.0.0, b.0.1) x b.2 (record { takes = spelled; stands = (omega (arith, s.1, lt), omega (arith, s.1, low), omega (arith, s.1, high), s.2) })
    ]

pub kind_takes : (kind : Kind) (o : List ℕ) (x : Field × List ℕ) → IsOctets o → kind_at kind o ≡ Ok x → IsTaken kind o x
unfolding kind_at
kind_takes version o x fits e =
    let b = bind_ok (octet_at o) (λ y. version_as y.0 y.1) x e in
    version_ok o b.0 x (octet_ok o b.0 fits b.1).0 b.2
kind_takes octet o x fits e =
    let b = bind_ok (octet_at o) (λ y. Ok (small y.0, y.1)) x e in
    let t = octet_ok o b.0 fits b.1 in
    made octet o (small b.0.0, b.0.1) x b.2 (record { takes = t.0; stands = t.1 })
kind_takes (exact reason wanted) o x fits e =
    let b = bind_ok (octet_at o) (λ y. exact_as reason wanted y.0 y.1) x e in
    let t = octet_ok o b.0 fits b.1 in
    exact_ok reason wanted o b.0 x t.0 t.1 b.2
kind_takes four o x fits e =
    let b = bind_ok (or_short (number_at w32 o)) (λ y. Ok (wide y.0, y.1)) x e in
    let t = number_takes w32 (2 ^ 32) wide32 o b.0.0 b.0.1 fits (or_short_ok (number_at w32 o) b.0 b.1) in
    made four o (wide b.0.0, b.0.1) x b.2 (record { takes = t.0; stands = t.1 })
kind_takes count o x fits e =
    let b = bind_ok (or_short (number_at w32 o)) (λ y. count_as y.0 y.1) x e in
    let t = number_takes w32 (2 ^ 32) wide32 o b.0.0 b.0.1 fits (or_short_ok (number_at w32 o) b.0 b.1) in
    count_ok o b.0 x t.0 t.1 b.2
kind_takes (mpi strict) o x fits e =
    let b = bind_ok (mpi_at strict o) (λ y. Ok (integer y.0, y.1)) x e in
    let t = mpi_takes strict o b.0 fits b.1 in
    made (mpi strict) o (integer b.0.0, b.0.1) x b.2 (record { takes = t.takes; stands = (t.number, t.stands) })
kind_takes (sized reason least most) o x fits e =
    let b = bind_ok (octet_at o) (λ y. sized_as reason least most y.0 y.1) x e in
    let t = octet_ok o b.0 fits b.1 in
    sized_ok reason least most o b.0 x t.0 t.1 b.2
kind_takes (fixed n) o x fits e =
    let b = bind_ok (some_at n o) (λ y. Ok (bare y.0, y.1)) x e in
    let t = some_ok n o b.0 fits b.1 in
    made (fixed n) o (bare b.0.0, b.0.1) x b.2 (record { takes = t.0; stands = (t.1, t.2) })
kind_takes never o x fits e = absurd cc
kind_takes whole o x fits e =
    made whole o (bare o, []) x e (record { takes = record { parts = sym (append-nil o); rest_fits = λ i. omega arith }; stands = (refl, fits) })

-- ---- read again

some_again : (o rest : List ℕ) (n : ℕ) → length o ≡ n → some_at n (o ++ rest) ≡ Ok (o, rest)
some_again o rest n len =
    let long : ltb (length (o ++ rest)) n ≡ false = le-ltb _ _ (omega (arith, length-append o rest)) in
    rw (long, take_at o rest n len, drop_at o rest n len) refl

version_again : (n : ℕ) (rest : List ℕ) → ((n ≡ 4) × (length rest ≤ 65534)) ⊎ (n ≡ 6) → version_as n rest ≡ Ok (small n, rest)
version_again n rest (inl p) =
    rw (p.0, le-ltb 65534 (length rest) p.1) refl
version_again n rest (inr p) = rw p refl

exact_again : (reason : Reason) (wanted n : ℕ) (rest : List ℕ) → n ≡ wanted → exact_as reason wanted n rest ≡ Ok (small n, rest)
exact_again reason wanted n rest e = rw (eq-eqb n wanted e) refl

sized_again : (reason : Reason) (least most : ℕ) (o rest : List ℕ) → least ≤ length o → length o ≤ most → sized_as reason least most (length o) (o ++ rest) ≡ Ok (named o, rest)
sized_again reason least most o rest low high =
    rw (le-ltb (length o) least low, le-ltb most (length o) high, some_again o rest (length o) refl) refl

pub kind_again : (kind : Kind) (x : Field) (rest : List ℕ) → Stands kind x (length rest) → kind_at kind (field_octets x ++ rest) ≡ Ok (x, rest)
unfolding kind_at
kind_again version (small n) rest h = version_again n rest h
kind_again octet (small n) rest h = refl
kind_again (exact reason wanted) (small n) rest h = exact_again reason wanted n rest h.1
kind_again four (wide n) rest h = ap (λ (r : Option (ℕ × List ℕ)). or_short r >>= λ x. Ok (wide x.0, x.1)) (number_again w32 (2 ^ 32) wide32 n rest h)
kind_again count (wide n) rest h =
    ap (λ (r : Option (ℕ × List ℕ)). or_short r >>= λ x. count_as x.0 x.1) (number_again w32 (2 ^ 32) wide32 n rest h.0) ∙ rw (eq-eqb n (length rest) h.1) refl
kind_again (mpi strict) (integer n) rest h = ap (λ (r : Result (MpiValue × List ℕ) Reason). r >>= λ x. Ok (integer x.0, x.1)) (mpi_again strict n rest h.0 h.1)
kind_again (sized reason least most) (named o) rest h = sized_again reason least most o rest h.1 h.2
kind_again (fixed n) (bare o) rest h = rw (some_again o rest n h.0) refl
kind_again whole (bare o) rest h = rw (nil_from_length rest h.0, append-nil o) refl
kind_again kind x rest h = absurd h

-- ---- why not

pub or_short_err : {A : Type 0} (o : Option A) (d : Reason) → or_short o ≡ Err d → (o ≡ None) × (d ≡ Short)
or_short_err None d e = (refl, cc)
or_short_err (Some x) d e = absurd cc

some_err : (n : ℕ) (o : List ℕ) (d : Reason) → some_at n o ≡ Err d → d ≡ Short
some_err n o d e =
    elim (chosen (ltb (length o) n) (Err Short) (Ok (take n o, drop n o)) (Err d) e) [
      | inl p ↦ let q = p.1 in cc
      | inr p ↦ absurd (let q = p.1 in cc)
    ]

version_err : (n : ℕ) (o : List ℕ) (d : Reason) → version_as n o ≡ Err d → d ≡ cond (eqb n 4) KeyTooLong KeyVersion
version_err n o d e =
    elim (chosen (eqb n 4) (cond (ltb 65534 (length o)) (Err KeyTooLong) (Ok (small n, o))) (cond (eqb n 6) (Ok (small n, o)) (Err KeyVersion)) (Err d) e) [
      | inl p ↦ rw p.0
          (elim (chosen (ltb 65534 (length o)) (Err KeyTooLong) (Ok (small n, o)) (Err d) p.1) [
            | inl q ↦ let r = q.1 in cc
            | inr q ↦ absurd (let r = q.1 in cc)
          ])
      | inr p ↦ rw p.0
          (elim (chosen (eqb n 6) (Ok (small n, o)) (Err KeyVersion) (Err d) p.1) [
            | inl q ↦ absurd (let r = q.1 in cc)
            | inr q ↦ let r = q.1 in cc
          ])
    ]

exact_err : (reason : Reason) (wanted n : ℕ) (o : List ℕ) (d : Reason) → exact_as reason wanted n o ≡ Err d → d ≡ reason
exact_err reason wanted n o d e =
    elim (chosen (eqb n wanted) (Ok (small n, o)) (Err reason) (Err d) e) [
      | inl p ↦ absurd (let q = p.1 in cc)
      | inr p ↦ let q = p.1 in cc
    ]

sized_err : (reason : Reason) (least most n : ℕ) (o : List ℕ) (d : Reason) → sized_as reason least most n o ≡ Err d → d ≡ cond (ltb n least || ltb most n) reason Short
sized_err reason least most n o d e =
    elim (chosen (ltb n least || ltb most n) (Err reason) (some_at n o >>= λ z. Ok (named z.0, z.1)) (Err d) e) [
      | inl p ↦ rw p.0 (let q = p.1 in cc)
      | inr p ↦ rw p.0
          (elim (bind_err (some_at n o) (λ z. Ok (named z.0, z.1)) d p.1) [
            | inl q ↦ some_err n o d q
            | inr q ↦ absurd (let r = q.2 in cc)
          ])
    ]

mpi_err : (strict : Bool) (o : List ℕ) (d : Reason) → mpi_at strict o ≡ Err d → d ≡ cond (is_ok (mpi_at false o)) MpiBits Short
unfolding mpi_at
mpi_err strict o d e =
    elim (bind_err (or_short (number_at w16 o)) (λ x. body_at strict x.0 x.1) d e) [
      | inl p ↦
          let none = or_short_err (number_at w16 o) d p in
          none.1 ∙ sym (ap (λ (r : Option (ℕ × List ℕ)). cond (is_ok (or_short r >>= λ x. body_at false x.0 x.1)) MpiBits Short) none.0)
      | inr p ↦
          let x = p.0 in
          let n : MpiValue = record { bits = x.0; octets = take (octets_of x.0) x.1 } in
          let here : cond (is_ok (mpi_at false o)) MpiBits Short ≡ cond (is_ok (body_at false x.0 x.1)) MpiBits Short = ap (λ (r : Result (ℕ × List ℕ) Reason). cond (is_ok (r >>= λ y. body_at false y.0 y.1)) MpiBits Short) p.1 in
          (elim (chosen (ltb (length x.1) (octets_of x.0)) (Err Short) (checked strict n (drop (octets_of x.0) x.1)) (Err d) p.2) [
            | inl q ↦
                let short : cond (is_ok (body_at false x.0 x.1)) MpiBits Short ≡ Short = rw q.0 refl in
                let d-is : d ≡ Short = (let r = q.1 in cc) in
                d-is ∙ sym (here ∙ short)
            | inr q ↦
                let long : cond (is_ok (body_at false x.0 x.1)) MpiBits Short ≡ MpiBits = rw q.0 refl in
                let d-is : d ≡ MpiBits =
                elim (chosen (strict && not (is_strict n)) (Err MpiBits) (Ok (n, drop (octets_of x.0) x.1)) (Err d) q.1) [
                  | inl r ↦ let s = r.1 in cc
                  | inr r ↦ absurd (let s = r.1 in cc)
                ] in
                d-is ∙ sym (here ∙ long)
          ])
    ]

kind_reason : (kind : Kind) (o : List ℕ) (d : Reason) → kind_at kind o ≡ Err d → d ≡ reason_of kind o
unfolding kind_at
kind_reason version [] d e = cc
kind_reason version (n ∷ o) d e = version_err n o d e
kind_reason never o d e = cc
kind_reason octet [] d e = cc
kind_reason octet (n ∷ o) d e = absurd cc
kind_reason (exact reason wanted) [] d e = cc
kind_reason (exact reason wanted) (n ∷ o) d e = exact_err reason wanted n o d e
kind_reason four o d e =
    elim (bind_err (or_short (number_at w32 o)) (λ y. Ok (wide y.0, y.1)) d e) [
      | inl p ↦ (or_short_err (number_at w32 o) d p).1
      | inr p ↦ absurd (let q = p.2 in cc)
    ]
kind_reason count o d e =
    elim (bind_err (or_short (number_at w32 o)) (λ y. count_as y.0 y.1) d e) [
      | inl p ↦
          let none = or_short_err (number_at w32 o) d p in
          elim (chosen (ltb (length o) 4) None (Some (from_be_bytes w32 (take 4 o), drop 4 o)) None none.0) [
            | inl q ↦ none.1 ∙ rw q.0 refl
            | inr q ↦ absurd (let r = q.1 in cc)
          ]
      | inr p ↦
          let some = or_short_ok (number_at w32 o) p.0 p.1 in
          elim (chosen (ltb (length o) 4) None (Some (from_be_bytes w32 (take 4 o), drop 4 o)) (Some p.0) some) [
            | inl q ↦ absurd (let r = q.1 in cc)
            | inr q ↦ rw q.0
                (elim (chosen (eqb p.0.0 (length p.0.1)) (Ok (wide p.0.0, p.0.1)) (Err Count) (Err d) p.2) [
                  | inl r ↦ absurd (let s = r.1 in cc)
                  | inr r ↦ let s = r.1 in cc
                ])
          ]
    ]
kind_reason (mpi strict) o d e =
    elim (bind_err (mpi_at strict o) (λ y. Ok (integer y.0, y.1)) d e) [
      | inl p ↦ mpi_err strict o d p
      | inr p ↦ absurd (let q = p.2 in cc)
    ]
kind_reason (sized reason least most) [] d e = cc
kind_reason (sized reason least most) (n ∷ o) d e = sized_err reason least most n o d e
kind_reason (fixed n) o d e =
    elim (bind_err (some_at n o) (λ y. Ok (bare y.0, y.1)) d e) [
      | inl p ↦ some_err n o d p
      | inr p ↦ absurd (let q = p.2 in cc)
    ]
kind_reason whole o d e = absurd cc

pub kind_fails : (kind : Kind) (o : List ℕ) (d : Reason) → kind_at kind o ≡ Err d → HasNone kind o × (d ≡ reason_of kind o)
kind_fails kind o d e = (λ x rest stands k. let again = ap (kind_at kind) k ∙ kind_again kind x rest stands in cc, kind_reason kind o d e)

-- where no field of the kind begins, none is read
pub kind_refused : (kind : Kind) (o : List ℕ) → IsOctets o → HasNone kind o → kind_at kind o ≡ Err (reason_of kind o)
kind_refused kind o fits none =
    elim (kind_at kind o) as (λ (r : Result (Field × List ℕ) Reason). kind_at kind o ≡ r → r ≡ Err (reason_of kind o)) [
      | Ok x ↦ λ e. let t = kind_takes kind o x fits e in absurd (none x.0 x.1 t.stands t.takes.parts)
      | Err d ↦ λ e. ap (λ (q : Reason). Err q) (kind_reason kind o d e)
    ] refl
