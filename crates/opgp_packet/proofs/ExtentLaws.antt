-- An area's octets that are delimited are those that were written, what was written is delimited again, and why not.
use Rattle.std.proofs.Common.{◌≡◌, ℕ, ◌+◌, ◌-◌, ◌^◌, ◌<◌, ◌≤◌, false, cond, ltb, List, [], ◌++◌, length, take, drop, Option, Some, None, Result, Ok, Err, refl, sym, ap, subst, ◌∙◌, append_assoc, arith, inl, inr}
use Rattle.std.specs.Int.{Width, w16, w32, byte_len, to_be_bytes, from_be_bytes}
use Rattle.std.proofs.lemmas.Bool.{ltb-false, le-ltb}
use Rattle.std.proofs.lemmas.List.{take_at, drop_at, take-append-drop, length-append, length-take, length-drop, drop-drop, append-nil, nil_from_length}
use Rattle.opgp_octets.specs.declared.fault.Reason.{Reason}
use Rattle.opgp_octets.specs.declared.fault.Reason.TheVariants.{Short, AreaShort}
use Rattle.opgp_octets.specs.declared.fault.BodyFault.{BodyFault}
use Rattle.opgp_octets.specs.Octets.{IsOctets}
use Rattle.opgp_octets.specs.Reading.{◌>>=◌, number_at, or_short}
use Rattle.opgp_octets.proofs.Bytes.{IsOctets-drop, IsOctets-take, IsWide, wide16, wide32, number_takes, number_again, chosen, bind_ok, bind_err, or_short_ok, same_ok, Takes, Takes-then}
use Rattle.opgp_packet.specs.Subpackets.{Sub, subs_octets, AreSubs}
use Rattle.opgp_packet.specs.Fields.{Extent, to_end, behind_two, behind_four, Field, subpackets, framed, field_octets, Extends, StandsAsArea, HasNoArea, area_reason, fault_at}
use Rattle.opgp_packet.specs.AreaReading.{placed, area_at, fault_of, fault_in, subs_in}
use Rattle.opgp_packet.specs.FieldReading.{area_as, extent_at, area_step_at}
use Rattle.opgp_packet.proofs.KindLaws.{or_short_err}
use Rattle.opgp_packet.proofs.AreaLaws.{same_read, area_takes, area_again, area_anywhere}

-- what is known of an area's octets that were delimited
pub record IsCut (extent : Extent) (o : List ℕ) (x : List ℕ × List ℕ) : Type 0 where
  pub takes : Takes o (framed extent x.0) x.1
  pub extends : Extends extent x.0 (length x.1)
  pub each : IsOctets x.0

abbrev cut : List ℕ × List ℕ → Result (List ℕ × List ℕ) Reason
cut x = Ok x

-- the octets behind a length
record IsBehind (w : Width) (limit : ℕ) (o : List ℕ) (x : List ℕ × List ℕ) : Type 0 where
  takes : Takes o (to_be_bytes w (length x.0) ++ x.0) x.1
  below : length x.0 < limit
  each : IsOctets x.0

behind_takes : (w : Width) (limit : ℕ) (spread : IsWide w limit) (o : List ℕ) (x : List ℕ × List ℕ) → IsOctets o → (or_short (number_at w o) >>= λ y. area_as y.0 y.1) ≡ Ok x → IsBehind w limit o x
behind_takes w limit spread o x fits e =
    let b = bind_ok (or_short (number_at w o)) (λ y. area_as y.0 y.1) x e in
    let y = b.0 in
    let t = number_takes w limit spread o y.0 y.1 fits (or_short_ok (number_at w o) y b.1) in
    elim (chosen (ltb (length y.1) y.0) (Err AreaShort) (Ok (take y.0 y.1, drop y.0 y.1)) (Ok x) b.2) [
      | inl p ↦ absurd (let q = p.1 in cc)
      | inr p ↦
          let long : y.0 ≤ length y.1 = ltb-false _ _ p.0 in
          let len : length (take y.0 y.1) ≡ y.0 = omega (arith, length-take y.0 y.1) in
          let inner : Takes y.1 (take y.0 y.1) (drop y.0 y.1) = record { parts = sym (take-append-drop y.0 y.1); rest_fits = IsOctets-drop y.0 y.1 t.0.rest_fits } in
          let both = Takes-then o (to_be_bytes w y.0) y.1 (take y.0 y.1) (drop y.0 y.1) t.0 inner in
          subst (λ (z : List ℕ × List ℕ). IsBehind w limit o z) (same_ok (take y.0 y.1, drop y.0 y.1) x p.1)
          (record {
            takes = subst (λ (n : ℕ). Takes o (to_be_bytes w n ++ take y.0 y.1) (drop y.0 y.1)) (sym len) both;
            below = subst (λ (n : ℕ). n < limit) (sym len) t.1;
            each = IsOctets-take y.0 y.1 t.0.rest_fits;
          })
    ]

pub extent_takes : (extent : Extent) (o : List ℕ) (x : List ℕ × List ℕ) → IsOctets o → extent_at extent o ≡ Ok x → IsCut extent o x
unfolding extent_at
extent_takes to_end o x fits e =
    subst (λ (z : List ℕ × List ℕ). IsCut to_end o z) (same_ok (o, []) x e)
    (record { takes = record { parts = sym (append-nil o); rest_fits = λ i. omega arith }; extends = refl; each = fits })
extent_takes behind_two o x fits e = let b = behind_takes w16 (2 ^ 16) wide16 o x fits e in record { takes = b.takes; extends = b.below; each = b.each }
extent_takes behind_four o x fits e = let b = behind_takes w32 (2 ^ 32) wide32 o x fits e in record { takes = b.takes; extends = b.below; each = b.each }

as_again : (a rest : List ℕ) → area_as (length a) (a ++ rest) ≡ Ok (a, rest)
as_again a rest =
    let long : ltb (length (a ++ rest)) (length a) ≡ false = le-ltb _ _ (omega (arith, length-append a rest)) in
    rw (long, take_at a rest (length a) refl, drop_at a rest (length a) refl) refl

behind_again : (w : Width) (limit : ℕ) (spread : IsWide w limit) (a rest : List ℕ) → length a < limit → (or_short (number_at w ((to_be_bytes w (length a) ++ a) ++ rest)) >>= λ y. area_as y.0 y.1) ≡ Ok (a, rest)
behind_again w limit spread a rest below =
    ap (λ (t : List ℕ). or_short (number_at w t) >>= λ y. area_as y.0 y.1) (append_assoc (to_be_bytes w (length a)) a rest)
    ∙ ap (λ (r : Option (ℕ × List ℕ)). or_short r >>= λ y. area_as y.0 y.1) (number_again w limit spread (length a) (a ++ rest) below)
    ∙ as_again a rest

pub extent_again : (extent : Extent) (a rest : List ℕ) → Extends extent a (length rest) → extent_at extent (framed extent a ++ rest) ≡ Ok (a, rest)
unfolding extent_at
extent_again to_end a rest h = rw (nil_from_length rest h, append-nil a) refl
extent_again behind_two a rest h = behind_again w16 (2 ^ 16) wide16 a rest h
extent_again behind_four a rest h = behind_again w32 (2 ^ 32) wide32 a rest h

as_err : (n : ℕ) (o : List ℕ) (d : Reason) → area_as n o ≡ Err d → d ≡ AreaShort
as_err n o d e =
    elim (chosen (ltb (length o) n) (Err AreaShort) (Ok (take n o, drop n o)) (Err d) e) [
      | inl p ↦ let q = p.1 in cc
      | inr p ↦ absurd (let q = p.1 in cc)
    ]

behind_err : (w : Width) (o : List ℕ) (d : Reason) → (or_short (number_at w o) >>= λ y. area_as y.0 y.1) ≡ Err d → d ≡ cond (ltb (length o) (byte_len w)) Short AreaShort
behind_err w o d e =
    elim (bind_err (or_short (number_at w o)) (λ y. area_as y.0 y.1) d e) [
      | inl p ↦
          let none = or_short_err (number_at w o) d p in
          elim (chosen (ltb (length o) (byte_len w)) None (Some (from_be_bytes w (take (byte_len w) o), drop (byte_len w) o)) None none.0) [
            | inl q ↦ none.1 ∙ rw q.0 refl
            | inr q ↦ absurd (let r = q.1 in cc)
          ]
      | inr p ↦
          let some = or_short_ok (number_at w o) p.0 p.1 in
          elim (chosen (ltb (length o) (byte_len w)) None (Some (from_be_bytes w (take (byte_len w) o), drop (byte_len w) o)) (Some p.0) some) [
            | inl q ↦ absurd (let r = q.1 in cc)
            | inr q ↦ as_err p.0.0 p.0.1 d p.2 ∙ rw q.0 refl
          ]
    ]

pub extent_why : (extent : Extent) (o : List ℕ) (d : Reason) → extent_at extent o ≡ Err d → d ≡ area_reason extent o
unfolding extent_at
extent_why to_end o d e = absurd cc
extent_why behind_two o d e = behind_err w16 o d e
extent_why behind_four o d e = behind_err w32 o d e

pub extent_none : (extent : Extent) (o : List ℕ) (d : Reason) → extent_at extent o ≡ Err d → HasNoArea extent o
extent_none extent o d e a rest extends k = let again = ap (extent_at extent) k ∙ extent_again extent a rest extends in cc

-- where no area begins, none is delimited
pub extent_refused : (extent : Extent) (o : List ℕ) → IsOctets o → HasNoArea extent o → extent_at extent o ≡ Err (area_reason extent o)
extent_refused extent o fits none =
    elim (extent_at extent o) as (λ (r : Result (List ℕ × List ℕ) Reason). extent_at extent o ≡ r → r ≡ Err (area_reason extent o)) [
      | Ok x ↦ λ e. let t = extent_takes extent o x fits e in absurd (none x.0 x.1 t.extends t.takes.parts)
      | Err d ↦ λ e. ap (λ (q : Reason). Err q) (extent_why extent o d e)
    ] refl

-- ---- an area as a field

-- what is known of an area that was read
pub record IsAreaTaken (extent : Extent) (o : List ℕ) (x : Field × List ℕ) : Type 0 where
  pub takes : Takes o (field_octets x.0) x.1
  pub stands : StandsAsArea extent x.0 (length x.1)

pub placed_ok : {A : Type 0} (total left : ℕ) (r : Result A Reason) (x : A) → placed total left r ≡ Ok x → r ≡ Ok x
placed_ok total left (Ok y) x e = ap (λ (z : _). Ok z) (same_read y x e)
placed_ok total left (Err d) x e = absurd cc

pub placed_err : {A : Type 0} (total left : ℕ) (r : Result A Reason) (f : BodyFault) → placed total left r ≡ Err f → (d : Reason) × (r ≡ Err d) × (f ≡ fault_at total left d)
placed_err total left (Ok y) f e = absurd cc
placed_err total left (Err d) f e = (d, refl, cc)

pub area_step_takes : (total : ℕ) (extent : Extent) (o : List ℕ) (x : Field × List ℕ) → IsOctets o → area_step_at total extent o ≡ Ok x → IsAreaTaken extent o x
unfolding area_step_at
area_step_takes total extent o x fits e =
    let a = bind_ok (placed total (length o) (extent_at extent o)) (λ y. area_at (total - length y.1) y.0 >>= λ z. Ok (subpackets extent z, y.1)) x e in
    let y = a.0 in
    let b = bind_ok (area_at (total - length y.1) y.0) (λ z. Ok (subpackets extent z, y.1)) x a.2 in
    let t = extent_takes extent o y fits (placed_ok total (length o) (extent_at extent o) y a.1) in
    let subs = area_takes (total - length y.1) y.0 b.0 t.each b.1 in
    subst (λ (w : Field × List ℕ). IsAreaTaken extent o w) (same_read (subpackets extent b.0, y.1) x b.2)
    (record {
      takes = subst (λ (l : List ℕ). Takes o (framed extent l) y.1) subs.0 t.takes;
      stands = (refl, subs.1, subst (λ (l : List ℕ). Extends extent l (length y.1)) subs.0 t.extends);
    })

area_step_same : (total : ℕ) (extent : Extent) (z : List Sub) (rest : List ℕ) → AreSubs z → Extends extent (subs_octets z) (length rest) → area_step_at total extent (framed extent (subs_octets z) ++ rest) ≡ Ok (subpackets extent z, rest)
unfolding area_step_at
area_step_same total extent z rest each extends =
    let o : List ℕ = framed extent (subs_octets z) ++ rest in
    ap (λ (r : Result (List ℕ × List ℕ) Reason). placed total (length o) r >>= λ y. area_at (total - length y.1) y.0 >>= λ w. Ok (subpackets extent w, y.1)) (extent_again extent (subs_octets z) rest extends)
    ∙ ap (λ (r : Result (List Sub) BodyFault). r >>= λ w. Ok (subpackets extent w, rest)) (area_again (total - length rest) z each)

pub area_step_again : (total : ℕ) (extent : Extent) (x : Field) (rest : List ℕ) → StandsAsArea extent x (length rest) → area_step_at total extent (field_octets x ++ rest) ≡ Ok (x, rest)
area_step_again total extent (subpackets e z) rest h =
    subst (λ (d : Extent). area_step_at total d (framed e (subs_octets z) ++ rest) ≡ Ok (subpackets e z, rest)) h.0
    (area_step_same total e z rest h.1 (subst (λ (d : Extent). Extends d (subs_octets z) (length rest)) (sym h.0) h.2))
area_step_again total extent other rest h = absurd h

-- ---- an area's octets, as a reader delimits them

cut_behind : (w : Width) (size : ℕ) (body left rest : List ℕ) (at n : ℕ) → left ≡ drop at body → Some (n, rest) ≡ number_at w left → rest ≡ drop size left
    → (or_short (number_at w (drop at body)) >>= λ y. area_as y.0 y.1) ≡ area_as n (drop (at + size) body)
cut_behind w size body left rest at n left-is found rest-is =
    let here : number_at w (drop at body) ≡ Some (n, rest) = ap (number_at w) (sym left-is) ∙ sym found in
    let past : rest ≡ drop (at + size) body = rest-is ∙ ap (drop size) left-is ∙ drop-drop size at body in
    ap (λ (r : Option (ℕ × List ℕ)). or_short r >>= λ y. area_as y.0 y.1) here ∙ ap (area_as n) past

pub cut_two : (body left rest : List ℕ) (at n : ℕ) → left ≡ drop at body → Some (n, rest) ≡ number_at w16 left → rest ≡ drop 2 left → extent_at behind_two (drop at body) ≡ area_as n (drop (at + 2) body)
unfolding extent_at
cut_two body left rest at n left-is found rest-is = cut_behind w16 2 body left rest at n left-is found rest-is

pub cut_four : (body left rest : List ℕ) (at n : ℕ) → left ≡ drop at body → Some (n, rest) ≡ number_at w32 left → rest ≡ drop 4 left → extent_at behind_four (drop at body) ≡ area_as n (drop (at + 4) body)
unfolding extent_at
cut_four body left rest at n left-is found rest-is = cut_behind w32 4 body left rest at n left-is found rest-is

-- an area without a fault is read, and a faulty one is refused
pub area_step_ok : (total : ℕ) (extent : Extent) (o a rest : List ℕ) (end : ℕ) → placed total (length o) (extent_at extent o) ≡ Ok (a, rest) → end ≡ total - length rest → fault_in end a ≡ None
    → area_step_at total extent o ≡ Ok (subpackets extent (subs_in a), rest)
unfolding area_step_at
area_step_ok total extent o a rest end cut end-is sound =
    let here : area_at (total - length rest) a ≡ Ok (subs_in a) = area_anywhere (total - length rest) a (subst (λ (e : ℕ). fault_in e a ≡ None) end-is sound) in
    ap (λ (r : Result (List ℕ × List ℕ) BodyFault). r >>= λ y. area_at (total - length y.1) y.0 >>= λ w. Ok (subpackets extent w, y.1)) cut
    ∙ ap (λ (r : Result (List Sub) BodyFault). r >>= λ w. Ok (subpackets extent w, rest)) here

fault_of_some : (r : Result (List Sub) BodyFault) (f : BodyFault) → fault_of r ≡ Some f → r ≡ Err f
fault_of_some (Ok z) f e = absurd cc
fault_of_some (Err g) f e = cc

pub area_step_bad : (total : ℕ) (extent : Extent) (o a rest : List ℕ) (end : ℕ) (f : BodyFault) → placed total (length o) (extent_at extent o) ≡ Ok (a, rest) → end ≡ total - length rest → fault_in end a ≡ Some f
    → area_step_at total extent o ≡ Err f
unfolding area_step_at
area_step_bad total extent o a rest end f cut end-is bad =
    let here : area_at (total - length rest) a ≡ Err f = subst (λ (e : ℕ). area_at e a ≡ Err f) end-is (fault_of_some (area_at end a) f bad) in
    ap (λ (r : Result (List ℕ × List ℕ) BodyFault). r >>= λ y. area_at (total - length y.1) y.0 >>= λ w. Ok (subpackets extent w, y.1)) cut
    ∙ ap (λ (r : Result (List Sub) BodyFault). r >>= λ w. Ok (subpackets extent w, rest)) here

pub area_step_none : (total : ℕ) (extent : Extent) (o : List ℕ) (f : BodyFault) → placed total (length o) (extent_at extent o) ≡ Err f → area_step_at total extent o ≡ Err f
unfolding area_step_at
area_step_none total extent o f e =
    ap (λ (r : Result (List ℕ × List ℕ) BodyFault). r >>= λ y. area_at (total - length y.1) y.0 >>= λ w. Ok (subpackets extent w, y.1)) e

pub ends_there : (body : List ℕ) (end : ℕ) → end ≤ length body → end ≡ length body - length (drop end body)
ends_there body end h = omega (arith, h, length-drop end body)
