-- An area that is read is the concatenation of its subpackets, such a concatenation is read, and a fault is the first.
use Rattle.std.proofs.Common.{◌≡◌, ℕ, zero, suc, ◌^◌, ◌<◌, ◌≤◌, false, cond, ltb, eqb, List, [], ◌∷◌, ◌++◌, length, take, drop, Option, Some, None, Result, Ok, Err, refl, sym, ap, subst, ◌∙◌, append_assoc, arith, inl, inr}
use Rattle.std.specs.Result.{result_unwrap_or}
use Rattle.std.proofs.lemmas.Bool.{ltb-false, le-ltb, ne_eqb}
use Rattle.std.proofs.lemmas.List.{length-drop, length-append, length-take, take_at, drop_at, take-append-drop}
use Rattle.opgp_octets.specs.declared.fault.Reason.{Reason}
use Rattle.opgp_octets.specs.declared.fault.Reason.TheVariants.{SubEmpty, SubShort}
use Rattle.opgp_octets.specs.declared.fault.BodyFault.{BodyFault}
use Rattle.opgp_octets.specs.declared.sub_len.SubLen.{SubLen}
use Rattle.opgp_octets.specs.Octets.{IsOctets}
use Rattle.opgp_octets.specs.Reading.{◌>>=◌}
use Rattle.opgp_octets.specs.SubLen.{SubLenFits, sub_len_octets, sub_len_amount, sub_len_at}
use Rattle.opgp_octets.proofs.Bytes.{IsOctets-drop, IsOctets-take, chosen, bind_ok, bind_err, pair_of, same_ok, Takes, Takes-then}
use Rattle.opgp_octets.proofs.SubLens.{sub_len_takes, sub_len_again}
use Rattle.opgp_packet.specs.Subpackets.{Sub, sub_octets, IsSub, subs_octets, AreSubs, HasNoSub, reason_by, sub_reason, Area, AreaFault}
use Rattle.opgp_packet.specs.Fields.{fault_at}
use Rattle.opgp_packet.specs.AreaReading.{placed, or_sub_short, inside_at, sub_at, subs_at, area_at, fault_of, fault_in, subs_in}

-- ---- one subpacket

inside_falls : (len : SubLen) (n : ℕ) (o : List ℕ) (x : Sub × List ℕ) → inside_at len n o ≡ Ok x → length x.1 < length o
inside_falls len zero o x e = absurd cc
inside_falls len (suc n) [] x e = absurd cc
inside_falls len (suc n) (kind ∷ o) x e =
    let made : Sub × List ℕ = (record { len = len; kind = kind; octets = take n o }, drop n o) in
    elim (chosen (ltb (length o) n) (Err SubShort) (Ok made) (Ok x) e) [
      | inl p ↦ absurd (let q = p.1 in cc)
      | inr p ↦ subst (λ (y : Sub × List ℕ). length y.1 < length (kind ∷ o)) (same_ok made x p.1) (omega (arith, length-drop n o))
    ]

some_of : {A : Type 0} (r : Option A) (x : A) → or_sub_short r ≡ Ok x → r ≡ Some x
some_of None x e = absurd cc
some_of (Some y) x e = cc

-- each subpacket takes something
pub sub_falls : (o : List ℕ) (x : Sub × List ℕ) → sub_at o ≡ Ok x → length x.1 < length o
unfolding sub_at
sub_falls o x e =
    let b = bind_ok (or_sub_short (sub_len_at o)) (λ y. inside_at y.0 (sub_len_amount y.0) (drop y.1 o)) x e in
    let second = inside_falls b.0.0 (sub_len_amount b.0.0) (drop b.0.1 o) x b.2 in
    omega (arith, second, length-drop b.0.1 o)

-- what is known of the inside of a subpacket that was read
record Inside (len : SubLen) (n : ℕ) (o : List ℕ) (x : Sub × List ℕ) : Type 0 where
  takes : Takes o (x.0.kind ∷ x.0.octets) x.1
  same : x.0.len ≡ len
  amount : n ≡ suc (length x.0.octets)
  kind : x.0.kind < 2 ^ 8
  each : IsOctets x.0.octets

inside_takes : (len : SubLen) (n : ℕ) (o : List ℕ) (x : Sub × List ℕ) → IsOctets o → inside_at len n o ≡ Ok x → Inside len n o x
inside_takes len zero o x fits e = absurd cc
inside_takes len (suc n) [] x fits e = absurd cc
inside_takes len (suc n) (kind ∷ o) x fits e =
    let made : Sub × List ℕ = (record { len = len; kind = kind; octets = take n o }, drop n o) in
    let rest : IsOctets o = λ i. fits (suc i) in
    elim (chosen (ltb (length o) n) (Err SubShort) (Ok made) (Ok x) e) [
      | inl p ↦ absurd (let q = p.1 in cc)
      | inr p ↦
          let long : n ≤ length o = ltb-false _ _ p.0 in
          let len-is : length (take n o) ≡ n = omega (arith, length-take n o) in
          subst (λ (y : Sub × List ℕ). Inside len (suc n) (kind ∷ o) y) (same_ok made x p.1)
          (record {
            takes = record { parts = ap (λ (l : List ℕ). kind ∷ l) (sym (take-append-drop n o)); rest_fits = IsOctets-drop n o rest };
            same = refl;
            amount = ap (λ (k : ℕ). suc k) (sym len-is);
            kind = fits 0;
            each = IsOctets-take n o rest;
          })
    ]

-- what is known of a subpacket that was read
pub record SubTaken (o : List ℕ) (x : Sub × List ℕ) : Type 0 where
  pub takes : Takes o (sub_octets x.0) x.1
  pub sub : IsSub x.0

pub sub_takes : (o : List ℕ) (x : Sub × List ℕ) → IsOctets o → sub_at o ≡ Ok x → SubTaken o x
unfolding sub_at
sub_takes o x fits e =
    let b = bind_ok (or_sub_short (sub_len_at o)) (λ y. inside_at y.0 (sub_len_amount y.0) (drop y.1 o)) x e in
    let l = b.0 in
    let begins = sub_len_takes o l fits (some_of (sub_len_at o) l b.1) in
    let i = inside_takes l.0 (sub_len_amount l.0) (drop l.1 o) x (IsOctets-drop l.1 o fits) b.2 in
    let first : Takes o (sub_len_octets l.0) (drop l.1 o) =
    record { parts = sym (take-append-drop l.1 o) ∙ ap (λ (t : List ℕ). t ++ drop l.1 o) begins.spelled; rest_fits = IsOctets-drop l.1 o fits } in
    let both = Takes-then o (sub_len_octets l.0) (drop l.1 o) (x.0.kind ∷ x.0.octets) x.1 first i.takes in
    record {
      takes = subst (λ (m : SubLen). Takes o (sub_len_octets m ++ x.0.kind ∷ x.0.octets) x.1) (sym i.same) both;
      sub = record {
        len = subst (λ (m : SubLen). SubLenFits m) (sym i.same) begins.fits;
        kind = i.kind;
        amount = ap sub_len_amount i.same ∙ i.amount;
        each = i.each;
      };
    }

inside_again : (s : Sub) (n : ℕ) (rest : List ℕ) → n ≡ suc (length s.octets) → inside_at s.len n (s.kind ∷ (s.octets ++ rest)) ≡ Ok (s, rest)
inside_again s n rest amount =
    let long : ltb (length (s.octets ++ rest)) (length s.octets) ≡ false = le-ltb _ _ (omega (arith, length-append s.octets rest)) in
    rw (amount, long, take_at s.octets rest (length s.octets) refl, drop_at s.octets rest (length s.octets) refl) refl

pub sub_again : (s : Sub) (rest : List ℕ) → IsSub s → sub_at (sub_octets s ++ rest) ≡ Ok (s, rest)
unfolding sub_at
sub_again s rest fits =
    let l : List ℕ = sub_len_octets s.len in
    let inner : List ℕ = s.kind ∷ (s.octets ++ rest) in
    let regrouped : sub_octets s ++ rest ≡ l ++ inner = append_assoc l (s.kind ∷ s.octets) rest in
    let again = sub_len_again s.len inner fits.len in
    ap sub_at regrouped
    ∙ ap (λ (r : Option (SubLen × ℕ)). or_sub_short r >>= λ x. inside_at x.0 (sub_len_amount x.0) (drop x.1 (l ++ inner))) again
    ∙ ap (λ (t : List ℕ). inside_at s.len (sub_len_amount s.len) t) (drop_at l inner (length l) refl)
    ∙ inside_again s (sub_len_amount s.len) rest fits.amount

inside_err : (len : SubLen) (n : ℕ) (o : List ℕ) (d : Reason) → inside_at len n o ≡ Err d → d ≡ cond (eqb n 0) SubEmpty SubShort
inside_err len zero o d e = cc
inside_err len (suc n) [] d e = rw (ne_eqb (suc n) 0 (λ k. omega (arith, k))) cc
inside_err len (suc n) (kind ∷ o) d e = rw (ne_eqb (suc n) 0 (λ k. omega (arith, k)))
    (elim (chosen (ltb (length o) n) (Err SubShort) (Ok (record { len = len; kind = kind; octets = take n o }, drop n o)) (Err d) e) [
      | inl p ↦ let q = p.1 in cc
      | inr p ↦ absurd (let q = p.1 in cc)
    ])

none_of : {A : Type 0} (r : Option A) (d : Reason) → or_sub_short r ≡ Err d → (r ≡ None) × (d ≡ SubShort)
none_of None d e = (refl, cc)
none_of (Some y) d e = absurd cc

pub sub_why : (o : List ℕ) (d : Reason) → sub_at o ≡ Err d → d ≡ sub_reason o
unfolding sub_at
sub_why o d e =
    elim (bind_err (or_sub_short (sub_len_at o)) (λ y. inside_at y.0 (sub_len_amount y.0) (drop y.1 o)) d e) [
      | inl p ↦ let none = none_of (sub_len_at o) d p in none.1 ∙ sym (ap reason_by none.0)
      | inr (x, p, q) ↦ inside_err x.0 (sub_len_amount x.0) (drop x.1 o) d q ∙ sym (ap reason_by (some_of (sub_len_at o) x p))
    ]

pub sub_none : (o : List ℕ) (d : Reason) → sub_at o ≡ Err d → HasNoSub o
sub_none o d e s rest fits k = let again = ap sub_at k ∙ sub_again s rest fits in cc

-- where no subpacket begins, none is read
pub none_reads : (o : List ℕ) → IsOctets o → HasNoSub o → sub_at o ≡ Err (sub_reason o)
none_reads o fits none =
    elim (sub_at o) as (λ (r : Result (Sub × List ℕ) Reason). sub_at o ≡ r → r ≡ Err (sub_reason o)) [
      | Ok x ↦ λ e. let t = sub_takes o x fits e in absurd (none x.0 x.1 t.sub t.takes.parts)
      | Err d ↦ λ e. ap (λ (q : Reason). Err q) (sub_why o d e)
    ] refl

-- no spelling of a subpacket begins another
pub one_sub : (s t : Sub) (x y : List ℕ) → IsSub s → IsSub t → sub_octets s ++ x ≡ sub_octets t ++ y → (s ≡ t) × (x ≡ y)
one_sub s t x y fits others e =
    let first = sub_again s x fits in
    let second = sub_again t y others in
    pair_of (s, x) (t, y) (same_ok (s, x) (t, y) (sym first ∙ ap sub_at e ∙ second))

-- ---- all of an area

abbrev pub well : {A : Type 0} → A → Result A BodyFault
well x = Ok x

pub same_read : {A : Type 0} (x y : A) → well x ≡ well y → x ≡ y
same_read x y e = cc

abbrev ill : BodyFault → Result (List Sub) BodyFault
ill f = Err f

same_fault : (f g : BodyFault) → ill f ≡ ill g → f ≡ g
same_fault f g e = cc

-- one subpacket more in front changes no fault
read_err : (y : Sub) (r : Result (List Sub) BodyFault) (f : BodyFault) → (r >>= λ z. Ok (y ∷ z)) ≡ Err f → r ≡ Err f
read_err y (Ok z) f e = absurd cc
read_err y (Err g) f e = e

-- one turn
subs_step : (end n : ℕ) (o : List ℕ) → 0 < length o → subs_at end (suc n) o ≡ (placed end (length o) (sub_at o) >>= λ y. subs_at end n y.1 >>= λ z. Ok (y.0 ∷ z))
subs_step end n [] some = absurd (omega (arith, some))
subs_step end n (x ∷ o) some = refl

pub subs_takes : (end n : ℕ) (o : List ℕ) (z : List Sub) → length o ≤ n → IsOctets o → subs_at end n o ≡ Ok z → (o ≡ subs_octets z) × AreSubs z
subs_takes end n [] z h fits e = subst (λ (w : List Sub). ([] ≡ subs_octets w) × AreSubs w) (same_read [] z e) (refl, tt)
subs_takes end zero (x ∷ o) z h fits e = absurd (omega (arith, h))
subs_takes end (suc n) (x ∷ o) z h fits e =
    elim (sub_at (x ∷ o)) as (λ (r : Result (Sub × List ℕ) Reason). sub_at (x ∷ o) ≡ r
    → (placed end (length (x ∷ o)) r >>= λ y. subs_at end n y.1 >>= λ w. Ok (y.0 ∷ w)) ≡ Ok z → ((x ∷ o) ≡ subs_octets z) × AreSubs z) [
      | Err d ↦ λ k m. absurd cc
      | Ok y ↦ λ k m.
          let less = sub_falls (x ∷ o) y k in
          let t = sub_takes (x ∷ o) y fits k in
          let b = bind_ok (subs_at end n y.1) (λ w. Ok (y.0 ∷ w)) z m in
          let r = subs_takes end n y.1 b.0 (omega (arith, less, h)) t.takes.rest_fits b.1 in
          subst (λ (w : List Sub). ((x ∷ o) ≡ subs_octets w) × AreSubs w) (same_read (y.0 ∷ b.0) z b.2)
          (t.takes.parts ∙ ap (λ (l : List ℕ). sub_octets y.0 ++ l) r.0, (t.sub, r.1))
    ] refl e

-- a subpacket has an octet at least
sub_some : (s : Sub) (rest : List ℕ) → 0 < length (sub_octets s ++ rest)
sub_some s rest = omega (arith, length-append (sub_octets s) rest, length-append (sub_len_octets s.len) (s.kind ∷ s.octets))

pub subs_again : (end n : ℕ) (z : List Sub) → AreSubs z → length (subs_octets z) ≤ n → subs_at end n (subs_octets z) ≡ Ok z
subs_again end n [] each h = refl
subs_again end zero (s ∷ z) each h = absurd (omega (arith, h, sub_some s (subs_octets z)))
subs_again end (suc n) (s ∷ z) each h =
    let first = sub_again s (subs_octets z) each.0 in
    let some = sub_some s [] in
    let less : length (subs_octets z) ≤ n = omega (arith, h, length-append (sub_octets s) (subs_octets z), length-append (sub_octets s) [], some) in
    subs_step end n (sub_octets s ++ subs_octets z) (sub_some s (subs_octets z))
    ∙ ap (λ (r : Result (Sub × List ℕ) Reason). placed end (length (sub_octets s ++ subs_octets z)) r >>= λ y. subs_at end n y.1 >>= λ w. Ok (y.0 ∷ w)) first
    ∙ ap (λ (r : Result (List Sub) BodyFault). r >>= λ w. Ok (s ∷ w)) (subs_again end n z each.1 less)

pub subs_fails : (end n : ℕ) (o : List ℕ) (f : BodyFault) → length o ≤ n → IsOctets o → subs_at end n o ≡ Err f → AreaFault end o f
subs_fails end n [] f h fits e = absurd cc
subs_fails end zero (x ∷ o) f h fits e = absurd (omega (arith, h))
subs_fails end (suc n) (x ∷ o) f h fits e =
    elim (sub_at (x ∷ o)) as (λ (r : Result (Sub × List ℕ) Reason). sub_at (x ∷ o) ≡ r
    → (placed end (length (x ∷ o)) r >>= λ y. subs_at end n y.1 >>= λ w. Ok (y.0 ∷ w)) ≡ Err f → AreaFault end (x ∷ o) f) [
      | Err d ↦ λ k m.
          let why = sub_why (x ∷ o) d k in
          let same : fault_at end (length (x ∷ o)) d ≡ f = same_fault (fault_at end (length (x ∷ o)) d) f m in
          record {
            before = [];
            rest = x ∷ o;
            each = tt;
            spelled = refl;
            some = omega arith;
            none = sub_none (x ∷ o) d k;
            fault = sym same ∙ ap (λ (q : Reason). fault_at end (length (x ∷ o)) q) why;
          }
      | Ok y ↦ λ k m.
          let less = sub_falls (x ∷ o) y k in
          let t = sub_takes (x ∷ o) y fits k in
          let inner = read_err y.0 (subs_at end n y.1) f m in
          let r = subs_fails end n y.1 f (omega (arith, less, h)) t.takes.rest_fits inner in
          record {
            before = y.0 ∷ r.before;
            rest = r.rest;
            each = (t.sub, r.each);
            spelled = t.takes.parts ∙ ap (λ (l : List ℕ). sub_octets y.0 ++ l) r.spelled ∙ sym (append_assoc (sub_octets y.0) (subs_octets r.before) r.rest);
            some = r.some;
            none = r.none;
            fault = r.fault;
          }
    ] refl e

-- the fault is answered that the definition says
fault_again : (end n : ℕ) (before : List Sub) (rest : List ℕ) → AreSubs before → 0 < length rest → IsOctets rest → HasNoSub rest → length (subs_octets before ++ rest) ≤ n
    → subs_at end n (subs_octets before ++ rest) ≡ Err (fault_at end (length rest) (sub_reason rest))
fault_again end zero [] rest each some fits none h = absurd (omega (arith, h, some))
fault_again end (suc n) [] rest each some fits none h =
    subs_step end n rest some
    ∙ ap (λ (r : Result (Sub × List ℕ) Reason). placed end (length rest) r >>= λ y. subs_at end n y.1 >>= λ w. Ok (y.0 ∷ w)) (none_reads rest fits none)
fault_again end zero (s ∷ z) rest each some fits none h = absurd (omega (arith, h, some, length-append (subs_octets (s ∷ z)) rest))
fault_again end (suc n) (s ∷ z) rest each some fits none h =
    let regrouped : subs_octets (s ∷ z) ++ rest ≡ sub_octets s ++ (subs_octets z ++ rest) = append_assoc (sub_octets s) (subs_octets z) rest in
    let first = sub_again s (subs_octets z ++ rest) each.0 in
    let here = sub_some s [] in
    let less : length (subs_octets z ++ rest) ≤ n = omega (arith, h, ap length regrouped, length-append (sub_octets s) (subs_octets z ++ rest), length-append (sub_octets s) [], here) in
    ap (subs_at end (suc n)) regrouped
    ∙ subs_step end n (sub_octets s ++ (subs_octets z ++ rest)) (sub_some s (subs_octets z ++ rest))
    ∙ ap (λ (r : Result (Sub × List ℕ) Reason). placed end (length (sub_octets s ++ (subs_octets z ++ rest))) r >>= λ y. subs_at end n y.1 >>= λ w. Ok (y.0 ∷ w)) first
    ∙ ap (λ (r : Result (List Sub) BodyFault). r >>= λ w. Ok (s ∷ w)) (fault_again end n z rest each.1 some fits none less)

rest_octets : (front rest : List ℕ) → IsOctets (front ++ rest) → IsOctets rest
rest_octets front rest fits = subst IsOctets (drop_at front rest (length front) refl) (IsOctets-drop (length front) (front ++ rest) fits)

pub area_takes : (end : ℕ) (o : List ℕ) (z : List Sub) → IsOctets o → area_at end o ≡ Ok z → (o ≡ subs_octets z) × AreSubs z
unfolding area_at
area_takes end o z fits e = subs_takes end (length o) o z (omega arith) fits e

pub area_again : (end : ℕ) (z : List Sub) → AreSubs z → area_at end (subs_octets z) ≡ Ok z
unfolding area_at
area_again end z each = subs_again end (length (subs_octets z)) z each (omega arith)

pub area_fails : (end : ℕ) (o : List ℕ) (f : BodyFault) → IsOctets o → area_at end o ≡ Err f → AreaFault end o f
unfolding area_at
area_fails end o f fits e = subs_fails end (length o) o f (omega arith) fits e

pub area_refused : (end : ℕ) (o : List ℕ) (f : BodyFault) → IsOctets o → AreaFault end o f → area_at end o ≡ Err f
unfolding area_at
area_refused end o f fits a =
    let here : IsOctets (subs_octets a.before ++ a.rest) = subst IsOctets a.spelled fits in
    let len : length (subs_octets a.before ++ a.rest) ≤ length o = omega (arith, ap length a.spelled) in
    ap (subs_at end (length o)) a.spelled
    ∙ fault_again end (length o) a.before a.rest a.each a.some (rest_octets (subs_octets a.before) a.rest here) a.none len
    ∙ ap (λ (g : BodyFault). Err g) (sym a.fault)

-- ---- the walk of a loop

-- a fault past a subpacket is the area's
pass : (y : Sub) (r : Result (List Sub) BodyFault) → fault_of (r >>= λ z. Ok (y ∷ z)) ≡ fault_of r
pass y (Ok z) = refl
pass y (Err f) = refl

-- more turns than octets change nothing
enough : (end n m : ℕ) (o : List ℕ) → length o ≤ n → length o ≤ m → subs_at end n o ≡ subs_at end m o
enough end n m [] h k = refl
enough end zero m (x ∷ o) h k = absurd (omega (arith, h))
enough end (suc n) zero (x ∷ o) h k = absurd (omega (arith, k))
enough end (suc n) (suc m) (x ∷ o) h k =
    elim (sub_at (x ∷ o)) as (λ (r : Result (Sub × List ℕ) Reason). sub_at (x ∷ o) ≡ r
    → (placed end (length (x ∷ o)) r >>= λ y. subs_at end n y.1 >>= λ z. Ok (y.0 ∷ z)) ≡ (placed end (length (x ∷ o)) r >>= λ y. subs_at end m y.1 >>= λ z. Ok (y.0 ∷ z))) [
      | Err d ↦ λ e. refl
      | Ok y ↦ λ e.
          let less = sub_falls (x ∷ o) y e in
          ap (λ (r : Result (List Sub) BodyFault). r >>= λ z. Ok (y.0 ∷ z)) (enough end n m y.1 (omega (arith, less, h)) (omega (arith, less, k)))
    ] refl

pub goes_on : (end : ℕ) (o : List ℕ) (y : Sub) (rest : List ℕ) (total : Option BodyFault) → 0 < length o → sub_at o ≡ Ok (y, rest) → fault_in end o ≡ total → fault_in end rest ≡ total
unfolding area_at
goes_on end [] y rest total some e so_far = absurd (omega (arith, some))
goes_on end (x ∷ o) y rest total some e so_far =
    let less = sub_falls (x ∷ o) (y, rest) e in
    let step : fault_in end (x ∷ o) ≡ fault_of (subs_at end (length o) rest >>= λ z. Ok (y ∷ z)) = ap (λ (r : Result (Sub × List ℕ) Reason). fault_of (placed end (length (x ∷ o)) r >>= λ y. subs_at end (length o) y.1 >>= λ z. Ok (y.0 ∷ z))) e in
    ap fault_of (enough end (length rest) (length o) rest (omega arith) (omega (arith, less))) ∙ sym (step ∙ pass y (subs_at end (length o) rest)) ∙ so_far

pub stops : (end : ℕ) (o : List ℕ) (d : Reason) (total : Option BodyFault) → 0 < length o → sub_at o ≡ Err d → fault_in end o ≡ total → Some (fault_at end (length o) d) ≡ total
unfolding area_at
stops end [] d total some e so_far = absurd (omega (arith, some))
stops end (x ∷ o) d total some e so_far =
    let step : fault_in end (x ∷ o) ≡ Some (fault_at end (length (x ∷ o)) d) = ap (λ (r : Result (Sub × List ℕ) Reason). fault_of (placed end (length (x ∷ o)) r >>= λ y. subs_at end (length o) y.1 >>= λ z. Ok (y.0 ∷ z))) e in
    sym step ∙ so_far

pub ends : (end : ℕ) (o : List ℕ) (total : Option BodyFault) → length o ≡ 0 → fault_in end o ≡ total → None ≡ total
unfolding area_at
ends end [] total none so_far = so_far
ends end (x ∷ o) total none so_far = absurd (omega (arith, none))

-- ---- the subpackets of an area without a fault

subs_anywhere : (end other n : ℕ) (o : List ℕ) (z : List Sub) → subs_at end n o ≡ Ok z → subs_at other n o ≡ Ok z
subs_anywhere end other n [] z e = ap (λ (w : List Sub). Ok w) (same_read [] z e)
subs_anywhere end other zero (x ∷ o) z e = ap (λ (w : List Sub). Ok w) (same_read [] z e)
subs_anywhere end other (suc n) (x ∷ o) z e =
    elim (sub_at (x ∷ o)) as (λ (r : Result (Sub × List ℕ) Reason).
    (placed end (length (x ∷ o)) r >>= λ y. subs_at end n y.1 >>= λ w. Ok (y.0 ∷ w)) ≡ Ok z
    → (placed other (length (x ∷ o)) r >>= λ y. subs_at other n y.1 >>= λ w. Ok (y.0 ∷ w)) ≡ Ok z) [
      | Err d ↦ λ h. absurd cc
      | Ok y ↦ λ h.
          let b = bind_ok (subs_at end n y.1) (λ w. Ok (y.0 ∷ w)) z h in
          ap (λ (r : Result (List Sub) BodyFault). r >>= λ w. Ok (y.0 ∷ w)) (subs_anywhere end other n y.1 b.0 b.1) ∙ b.2
    ] e

pub whole_of : (r : Result (List Sub) BodyFault) → fault_of r ≡ None → r ≡ Ok (result_unwrap_or r [])
whole_of (Ok z) e = refl
whole_of (Err f) e = absurd cc

list_of : (r : Result (List Sub) BodyFault) (z : List Sub) → r ≡ Ok z → result_unwrap_or r [] ≡ z
list_of r z e = ap (λ (s : Result (List Sub) BodyFault). result_unwrap_or s []) e

-- where an area has no fault, its subpackets are read at any place
pub area_anywhere : (end : ℕ) (o : List ℕ) → fault_in end o ≡ None → area_at end o ≡ Ok (subs_in o)
unfolding area_at
area_anywhere end o e =
    let here = whole_of (subs_at end (length o) o) e in
    let there = subs_anywhere end (length o) (length o) o (result_unwrap_or (subs_at end (length o) o) []) here in
    here ∙ ap (λ (z : List Sub). Ok z) (sym (list_of (subs_at (length o) (length o) o) (result_unwrap_or (subs_at end (length o) o) []) there))

-- and it has none at any other
pub sound_anywhere : (end other : ℕ) (o : List ℕ) → fault_in end o ≡ None → fault_in other o ≡ None
unfolding area_at
sound_anywhere end other o e =
    ap fault_of (subs_anywhere end other (length o) o (result_unwrap_or (subs_at end (length o) o) []) (whole_of (subs_at end (length o) o) e))

pub next_sub : (o : List ℕ) (y : Sub) (rest : List ℕ) → fault_in (length o) o ≡ None → 0 < length o → sub_at o ≡ Ok (y, rest) → (fault_in (length rest) rest ≡ None) × (subs_in o ≡ y ∷ subs_in rest)
unfolding area_at
next_sub [] y rest whole some e = absurd (omega (arith, some))
next_sub (x ∷ o) y rest whole some e =
    let end : ℕ = length (x ∷ o) in
    let less = sub_falls (x ∷ o) (y, rest) e in
    let all : subs_at end end (x ∷ o) ≡ Ok (subs_in (x ∷ o)) = whole_of (subs_at end end (x ∷ o)) whole in
    let step : subs_at end end (x ∷ o) ≡ (subs_at end (length o) rest >>= λ z. Ok (y ∷ z)) = ap (λ (r : Result (Sub × List ℕ) Reason). placed end end r >>= λ y. subs_at end (length o) y.1 >>= λ z. Ok (y.0 ∷ z)) e in
    let b = bind_ok (subs_at end (length o) rest) (λ z. Ok (y ∷ z)) (subs_in (x ∷ o)) (sym step ∙ all) in
    let here : subs_at (length rest) (length rest) rest ≡ Ok b.0 =
    subs_anywhere end (length rest) (length rest) rest b.0 (enough end (length rest) (length o) rest (omega arith) (omega (arith, less)) ∙ b.1) in
    (ap fault_of here, sym (same_read (y ∷ b.0) (subs_in (x ∷ o)) b.2) ∙ ap (λ (z : List Sub). y ∷ z) (sym (list_of (subs_at (length rest) (length rest) rest) b.0 here)))

pub never_fails : (o : List ℕ) (d : Reason) → fault_in (length o) o ≡ None → 0 < length o → sub_at o ≡ Err d → ⊥
never_fails o d whole some e = let k = stops (length o) o d None some e whole in cc

pub none_left : (o : List ℕ) → length o ≡ 0 → subs_in o ≡ []
unfolding area_at
none_left [] e = refl
none_left (x ∷ o) e = absurd (omega (arith, e))

-- octets that a reader took past a type octet
pub inside_octets : (o rest octets : List ℕ) (count n m : ℕ) → IsOctets o → rest ≡ drop count o → octets ≡ take n (take m (drop 1 rest)) → IsOctets octets
inside_octets o rest octets count n m fits rest-is octets-is =
    subst IsOctets (sym octets-is) (IsOctets-take n (take m (drop 1 rest)) (IsOctets-take m (drop 1 rest) (IsOctets-drop 1 rest (subst IsOctets (sym rest-is) (IsOctets-drop count o fits)))))

-- ---- an area as a relation

pub area_found : (end : ℕ) (o : List ℕ) (z : List Sub) → IsOctets o → area_at end o ≡ Ok z → Area z o
area_found end o z fits e = let t = area_takes end o z fits e in record { spelled = t.0; each = t.1 }

pub area_only : (end : ℕ) (o : List ℕ) (z : List Sub) → Area z o → area_at end o ≡ Ok z
area_only end o z a = ap (area_at end) a.spelled ∙ area_again end z a.each

-- ---- how many

subs_few : (end n : ℕ) (o : List ℕ) (z : List Sub) → subs_at end n o ≡ Ok z → length z ≤ length o
subs_few end n [] z e = subst (λ (w : List Sub). length w ≤ 0) (same_read [] z e) (omega arith)
subs_few end zero (x ∷ o) z e = subst (λ (w : List Sub). length w ≤ length (x ∷ o)) (same_read [] z e) (omega arith)
subs_few end (suc n) (x ∷ o) z e =
    elim (sub_at (x ∷ o)) as (λ (r : Result (Sub × List ℕ) Reason). sub_at (x ∷ o) ≡ r
    → (placed end (length (x ∷ o)) r >>= λ y. subs_at end n y.1 >>= λ w. Ok (y.0 ∷ w)) ≡ Ok z → length z ≤ length (x ∷ o)) [
      | Err d ↦ λ k m. absurd cc
      | Ok y ↦ λ k m.
          let less = sub_falls (x ∷ o) y k in
          let b = bind_ok (subs_at end n y.1) (λ w. Ok (y.0 ∷ w)) z m in
          let few = subs_few end n y.1 b.0 b.1 in
          subst (λ (w : List Sub). length w ≤ length (x ∷ o)) (same_read (y.0 ∷ b.0) z b.2) (omega (arith, less, few))
    ] refl e

-- an area has no more subpackets than octets
pub area_few : (o : List ℕ) → fault_in (length o) o ≡ None → length (subs_in o) ≤ length o
unfolding area_at
area_few o e = subs_few (length o) (length o) o (subs_in o) (whole_of (subs_at (length o) (length o) o) e)
