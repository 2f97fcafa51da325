-- A length header that is read is the one that is written, and what is written is read again.
use Rattle.std.proofs.Common.{◌≡◌, ℕ, ◌+◌, ◌-◌, ◌*◌, ◌%◌, ◌^◌, ◌<◌, ◌≤◌, true, cond, leb, eqb, ltb, List, [], ◌∷◌, ◌++◌, length, take, drop, Option, Some, None, refl, sym, ap, subst, ◌∙◌, arith, rules, inl, inr, length-append}
use Rattle.std.specs.Int.{Width, w16, w32, byte_len, to_be_bytes, from_be_bytes}
use Rattle.std.specs.Prelude.{option_map, IfSome, IsSome}
use Rattle.std.proofs.lemmas.Bool.{cases_lt, leb-true, leb-false, eqb-true, eqb-false, eq-eqb, cases_Bool, le-ltb}
use Rattle.std.proofs.lemmas.List.{take_at, take-append-drop, take-append-le, take_all}
use Rattle.std.proofs.lemmas.Option.{some_pair_parts}
use Rattle.opgp_octets.specs.declared.packet_len.PacketLen.{PacketLen}
use Rattle.opgp_octets.specs.declared.packet_len.PacketLen.TheVariants as new
use Rattle.opgp_octets.specs.Octets.{IsOctets}
use Rattle.opgp_octets.specs.PacketLen.{packet_len_at}
use Rattle.opgp_octets.specs.Reading.{number_at}
use Rattle.opgp_octets.proofs.Bytes.{chosen, same_some, wide16, wide32, IsWide, number_takes, number_again}
use Rattle.opgp_octets.proofs.PacketLens.{packet_len_takes, packet_len_again}
use Rattle.opgp_frame.specs.declared.length.Length.{Length}
use Rattle.opgp_frame.specs.declared.length.Length.TheVariants.{OldOne, OldTwo, OldFour, New}
use Rattle.opgp_frame.specs.Length.{LengthFits, IsLengthUnder, LengthBegins, length_octets, length_at, current_at, legacy_at, legacy_one_at}
use Rattle.opgp_frame.specs.PacketFault.{header_fault}
use Rattle.opgp_frame.proofs.Headers.{read_header}

-- ---- what is written is read again

legacy_again : (bits : ℕ) (l : Length) (rest : List ℕ) → LengthFits l → (header : ℕ) → header % 4 ≡ bits → IsLengthUnder header l → header < 192 → legacy_at bits (length_octets l ++ rest) ≡ Some (l, length (length_octets l))
legacy_again bits (OldOne n) rest fits header e under low = rw (sym e ∙ under.1) refl
legacy_again bits (OldTwo n) rest fits header e under low = rw (sym e ∙ under.1, number_again w16 (2 ^ 16) wide16 n rest fits) refl
legacy_again bits (OldFour n) rest fits header e under low = rw (sym e ∙ under.1, number_again w32 (2 ^ 32) wide32 n rest fits) refl
legacy_again bits (New len) rest fits header e under low = absurd (omega arith)

current_again : (header : ℕ) (l : Length) (rest : List ℕ) → LengthFits l → IsLengthUnder header l → 192 ≤ header → current_at (length_octets l ++ rest) ≡ Some (l, length (length_octets l))
current_again header (New len) rest fits under high = rw (packet_len_again len rest fits) refl
current_again header (OldOne n) rest fits under high = absurd (omega (arith, under.0))
current_again header (OldTwo n) rest fits under high = absurd (omega (arith, under.0))
current_again header (OldFour n) rest fits under high = absurd (omega (arith, under.0))

pub length_again : (header : ℕ) (l : Length) (rest : List ℕ) → LengthFits l → IsLengthUnder header l → length_at header (length_octets l ++ rest) ≡ Some (l, length (length_octets l))
unfolding length_at
length_again header l rest fits under =
    elim (cases_Bool (leb 192 header)) [
      | inl y ↦ rw y (current_again header l rest fits under (leb-true 192 header y))
      | inr y ↦ rw y (legacy_again (header % 4) l rest fits header refl under (leb-false 192 header y))
    ]

-- ---- what is read is what is written

mapped : {X Y : Type 0} (f : X → Y) (o : Option X) (y : Y) → option_map f o ≡ Some y → (x : X) × (o ≡ Some x) × (f x ≡ y)
mapped f None y e = absurd cc
mapped f (Some x) y e = (x, refl, same_some (f x) y e)

begins_at : (header : ℕ) (o : List ℕ) (a b : Length × ℕ) → a ≡ b → LengthBegins header o a.0 a.1 → LengthBegins header o b.0 b.1
begins_at header o a b e begins = subst (λ (x : Length × ℕ). LengthBegins header o x.0 x.1) e begins

one_takes : (header : ℕ) (o : List ℕ) (x : Length × ℕ) → IsOctets o → header < 192 → header % 4 ≡ 0 → legacy_one_at o ≡ Some x → LengthBegins header o x.0 x.1
one_takes header [] x octets low bits e = absurd cc
one_takes header (n ∷ o) x octets low bits e =
    begins_at header (n ∷ o) (OldOne n, 1) x (same_some (OldOne n, 1) x e) (record { fits = omega (arith, octets 0); under = (low, bits); size = refl; within = omega arith; spelled = refl })

number_begins : (w : Width) (limit : ℕ) (wide : IsWide w limit) (o : List ℕ) (x : ℕ × List ℕ) → IsOctets o → number_at w o ≡ Some x → (x.0 < limit) × (byte_len w ≤ length o) × (take (byte_len w) o ≡ to_be_bytes w x.0)
number_begins w limit wide o x octets e =
    let t = number_takes w limit wide o x.0 x.1 octets e in
    let whole = t.0.parts in
    let len = wide.len x.0 in
    (t.1, omega (arith, ap (length {A = ℕ}) whole, length-append (to_be_bytes w x.0) x.1, len), ap (take (byte_len w)) whole ∙ take_at (to_be_bytes w x.0) x.1 (byte_len w) len)

pub length_takes : (header : ℕ) (o : List ℕ) (x : Length × ℕ) → IsOctets o → length_at header o ≡ Some x → LengthBegins header o x.0 x.1
unfolding length_at
length_takes header o x octets e =
    elim (chosen (leb 192 header) (current_at o) (legacy_at (header % 4) o) (Some x) e) [
      | inl p ↦
          let m = mapped {X = PacketLen × ℕ} (λ y. (New y.0, y.1)) (packet_len_at o) x p.1 in
          let t = packet_len_takes o m.0 octets m.1 in
          begins_at header o (New m.0.0, m.0.1) x m.2 (record { fits = t.fits; under = leb-true 192 header p.0; size = t.size; within = t.within; spelled = t.spelled })
      | inr p ↦
          let low : header < 192 = leb-false 192 header p.0 in
          elim (chosen (eqb (header % 4) 0) (legacy_one_at o) (cond (eqb (header % 4) 1) (option_map (λ y. (OldTwo y.0, 2)) (number_at w16 o)) (cond (eqb (header % 4) 2) (option_map (λ y. (OldFour y.0, 4)) (number_at w32 o)) None)) (Some x) p.1) [
            | inl q ↦ one_takes header o x octets low (eqb-true (header % 4) 0 q.0) q.1
            | inr q ↦ elim (chosen (eqb (header % 4) 1) (option_map (λ y. (OldTwo y.0, 2)) (number_at w16 o)) (cond (eqb (header % 4) 2) (option_map (λ y. (OldFour y.0, 4)) (number_at w32 o)) None) (Some x) q.1) [
              | inl r ↦
                  let m = mapped {X = ℕ × List ℕ} (λ y. (OldTwo y.0, 2)) (number_at w16 o) x r.1 in
                  let t = number_begins w16 (2 ^ 16) wide16 o m.0 octets m.1 in
                  begins_at header o (OldTwo m.0.0, 2) x m.2 (record { fits = t.0; under = (low, eqb-true (header % 4) 1 r.0); size = refl; within = t.1; spelled = t.2 })
              | inr r ↦ elim (chosen (eqb (header % 4) 2) (option_map (λ y. (OldFour y.0, 4)) (number_at w32 o)) None (Some x) r.1) [
                | inl s ↦
                    let m = mapped {X = ℕ × List ℕ} (λ y. (OldFour y.0, 4)) (number_at w32 o) x s.1 in
                    let t = number_begins w32 (2 ^ 32) wide32 o m.0 octets m.1 in
                    begins_at header o (OldFour m.0.0, 4) x m.2 (record { fits = t.0; under = (low, eqb-true (header % 4) 2 s.0); size = refl; within = t.1; spelled = t.2 })
                | inr s ↦ absurd (let k = s.1 in cc)
              ]
            ]
          ]
    ]

-- ---- a length header is read where one begins the octets, and nowhere else

pub reads_there : (header : ℕ) (o : List ℕ) (l : Length) (count : ℕ) → LengthBegins header o l count → length_at header o ≡ Some (l, count)
reads_there header o l count b =
    let parts : o ≡ length_octets l ++ drop count o = sym (take-append-drop count o) ∙ ap (λ (x : List ℕ). x ++ drop count o) b.spelled in
    ap (length_at header) parts ∙ length_again header l (drop count o) b.fits b.under ∙ rw b.size refl

pub none_there : (header : ℕ) (o : List ℕ) → length_at header o ≡ None → (l : Length) (count : ℕ) → LengthBegins header o l count → ⊥
none_there header o e l count b = let there = reads_there header o l count b in cc

-- no two lengths begin the same octets
pub one_length : (header : ℕ) (o : List ℕ) (l m : Length) (count n : ℕ) → LengthBegins header o l count → LengthBegins header o m n → (l ≡ m) × (count ≡ n)
one_length header o l m count n a b = some_pair_parts l m count n (sym (reads_there header o l count a) ∙ reads_there header o m n b)

-- a spelling begins what it stands before
pub length_begins : (header : ℕ) (l : Length) (more : List ℕ) → LengthFits l → IsLengthUnder header l → LengthBegins header (length_octets l ++ more) l (length (length_octets l))
length_begins header l more fits under = record {
  fits = fits;
  under = under;
  size = refl;
  within = omega (arith, length-append (length_octets l) more);
  spelled = take_at (length_octets l) more (length (length_octets l)) refl;
}

-- what follows changes nothing
pub LengthBegins-more : (header : ℕ) (o more : List ℕ) (l : Length) (count : ℕ) → LengthBegins header o l count → LengthBegins header (o ++ more) l count
LengthBegins-more header o more l count b = record {
  fits = b.fits;
  under = b.under;
  size = b.size;
  within = omega (arith, b.within, length-append o more);
  spelled = take-append-le count o more b.within ∙ b.spelled;
}

-- the last octet makes a length header whole: it is the length's spelling and no more
pub length_completes : (header : ℕ) (o : List ℕ) (n : ℕ) (x : Length × ℕ) → LengthBegins header (o ++ n ∷ []) x.0 x.1 → length_at header o ≡ None → o ++ n ∷ [] ≡ length_octets x.0
length_completes header o n x begins unread =
    let all : List ℕ = o ++ n ∷ [] in
    elim (cases_lt (length o) x.1) [
      | inl lt ↦ sym (take_all x.1 all (omega (arith, length-append o (n ∷ [])))) ∙ begins.spelled
      | inr le ↦
          let front : take x.1 o ≡ length_octets x.0 = sym (take-append-le x.1 o (n ∷ []) le) ∙ begins.spelled in
          let whole : o ≡ length_octets x.0 ++ drop x.1 o = sym (take-append-drop x.1 o) ∙ ap (λ (l : List ℕ). l ++ drop x.1 o) front in
          let again = ap (length_at header) whole ∙ length_again header x.0 (drop x.1 o) begins.fits begins.under in
          absurd (let k = sym unread ∙ again in cc)
    ]

-- ---- what a call that reads has read

pub length_is_found : (header : ℕ) (o : List ℕ) (r : Option (Length × ℕ)) → IsOctets o → r ≡ length_at header o → IfSome r (λ x. LengthBegins header o x.0 x.1)
length_is_found header o None octets e = tt
length_is_found header o (Some x) octets e = length_takes header o x octets (sym e)

number_enough : (w : Width) (o : List ℕ) → byte_len w ≤ length o → (x : ℕ × List ℕ) × (number_at w o ≡ Some x)
number_enough w o le = ((from_be_bytes w (take (byte_len w) o), drop (byte_len w) o), rw (le-ltb (length o) (byte_len w) le) refl)

packet_len_enough : (o : List ℕ) → 5 ≤ length o → (x : PacketLen × ℕ) × (packet_len_at o ≡ Some x)
unfolding packet_len_at
packet_len_enough [] le = absurd (omega arith)
packet_len_enough (a ∷ []) le = absurd (omega arith)
packet_len_enough (a ∷ b ∷ o) le =
    elim (cases_Bool (ltb a 192)) [
      | inl y ↦ ((new.One a, 1), rw y refl)
      | inr n ↦ elim (cases_Bool (ltb a 224)) [
        | inl y ↦ ((new.Two ((a - 192) * 256 + b + 192), 2), rw (n, y) refl)
        | inr m ↦ elim (cases_Bool (ltb a 255)) [
          | inl y ↦ ((new.Partial (a - 224), 1), rw (n, m, y) refl)
          | inr k ↦ let five = number_enough w32 (b ∷ o) (omega (arith, le)) in ((new.Five five.0.0, 5), rw (n, m, k, five.1) refl)
        ]
      ]
    ]

legacy_enough : (bits : ℕ) (o : List ℕ) → bits < 3 → 5 ≤ length o → (x : Length × ℕ) × (legacy_at bits o ≡ Some x)
legacy_enough bits [] low le = absurd (omega arith)
legacy_enough bits (a ∷ o) low le =
    elim (cases_Bool (eqb bits 0)) [
      | inl y ↦ ((OldOne a, 1), rw y refl)
      | inr n ↦ elim (cases_Bool (eqb bits 1)) [
        | inl y ↦ let two = number_enough w16 (a ∷ o) (omega (arith, le)) in ((OldTwo two.0.0, 2), rw (n, y, two.1) refl)
        | inr m ↦
            let y : eqb bits 2 ≡ true = eq-eqb bits 2 (omega (arith, eqb-false bits 0 n, eqb-false bits 1 m)) in
            let four = number_enough w32 (a ∷ o) (omega (arith, le)) in ((OldFour four.0.0, 4), rw (n, m, y, four.1) refl)
      ]
    ]

-- five octets are enough for each length header
pub length_enough : (header : ℕ) (o : List ℕ) → header_fault header ≡ None → 5 ≤ length o → (x : Length × ℕ) × (length_at header o ≡ Some x)
unfolding length_at
length_enough header o read le =
    elim (cases_Bool (leb 192 header)) [
      | inl y ↦ let x = packet_len_enough o le in ((New x.0.0, x.0.1), rw (y, x.1) refl)
      | inr n ↦
          let low : header < 192 = leb-false 192 header n in
          let three : header % 4 ≡ 3 → ⊥ = (read_header header read).definite low in
          let x = legacy_enough (header % 4) o (omega (arith, three)) le in (x.0, rw (n, x.1) refl)
    ]

pub some_is : (r : Option (Length × ℕ)) (x : Length × ℕ) → r ≡ Some x → IsSome r
some_is None x e = absurd cc
some_is (Some y) x e = search rules
