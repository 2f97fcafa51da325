-- The same at the standard alphabet, where `base64_of` stays closed.
use Rattle.std.proofs.Common.{◌≡◌, ℕ, ◌+◌, ◌-◌, ◌*◌, ◌/◌, ◌%◌, ◌==◌, ◌<◌, ◌≤◌, Bool, true, false, not, ◌&&◌, List, [], ◌∷◌, ◌++◌, length, replicate, slice_index, refl, ap, ◌∙◌, arith, inl, inr, ◌⊎◌, Some, Ok, Err}
use Rattle.std.proofs.lemmas.Bool.{cases_Bool, cases_lt, ne_eqb, ltb-true, lt-ltb, lt-leb, le-leb}
use Rattle.std.specs.List.{list_any, list_all}
use Rattle.std.specs.Result.{result_ok}
use Rattle.std.specs.declared.result.Result.{Result}
use Rattle.base64.specs.declared.decode.DecodeError.{DecodeError}
use Rattle.base64.specs.Decode.{decode_group}
use Rattle.base64.specs.Engines.{standard}
use Rattle.base64.specs.GeneralPurpose.{decode_of, decoded_of, IsBytes, IsStrict}
use Rattle.base64.proofs.EngineFacts.{encode_of-append, encode_of-nil, decode_of_strict, decode_of-encode_of}
use Rattle.base64.proofs.Streams.{decoded_of-ok}
use Rattle.base64.proofs.Tables.{all_below_at, encode-decode_table}
use Rattle.opgp_armor.specs.Letters.{is_letter, is_equals, may_stand, is_octet, base64_of}
use Rattle.opgp_armor.proofs.Octets.{AreOctets, each_octet}
use Rattle.opgp_armor.proofs.Groups.{cut_at, AreLetters, partial_group, all_stand, three_of, begins_with_equals, letter_not_equals, encode-one, encode-two, encode-group}

abbrev T : List ℕ
T = standard.encode_table

abbrev D : List ℕ
D = standard.decode_table

standard_letters : AreLetters T
standard_letters i h = all_below_at (λ k. is_letter (slice_index T k)) 64 i refl h

pub base64_of-nil : base64_of [] ≡ []
unfolding base64_of
base64_of-nil = encode_of-nil standard

pub base64_of-append : (a b : List ℕ) → length a % 3 ≡ 0 → base64_of (a ++ b) ≡ base64_of a ++ base64_of b
unfolding base64_of
base64_of-append a b whole = encode_of-append standard a b whole

-- what a cut after whole groups gives
pub record Parts (o a b : List ℕ) : Type 0 where
  pub front : List ℕ
  pub back : List ℕ
  pub whole : o ≡ front ++ back
  pub front_is : a ≡ base64_of front
  pub back_is : b ≡ base64_of back
  pub full : (length front % 3 ≡ 0) ⊎ (back ≡ [])

pub parts_at : (q : ℕ) (o a b : List ℕ) → base64_of o ≡ a ++ b → length a ≡ 4 * q → Parts o a b
unfolding base64_of
parts_at q o a b e l =
    let cut = cut_at T 61 q o a b e l in
    record { front = cut.front; back = cut.back; whole = cut.whole; front_is = cut.front_is; back_is = cut.back_is; full = cut.full }

pub no_equals : (o p b : List ℕ) → AreOctets o → base64_of o ≡ p ++ b → length p < 4 → begins_with_equals b ≡ false → list_any is_equals p ≡ false
unfolding base64_of
no_equals o p b bytes e l n = partial_group T standard_letters o p b bytes e l n

pub base64_stands : (o : List ℕ) → AreOctets o → list_all may_stand (base64_of o) ≡ true
unfolding base64_of
base64_stands o bytes = all_stand T standard_letters o bytes

-- ---- octets, by place and by recursion
pub bytes_from : (o : List ℕ) → AreOctets o → IsBytes o
bytes_from o h = each_octet o h

pub octets_from_test : (o : List ℕ) → list_all is_octet o ≡ true → AreOctets o
octets_from_test [] h = tt
octets_from_test (x ∷ o) h = elim (cases_Bool (is_octet x)) [
  | inl y ↦ (ltb-true x 256 y, octets_from_test o (rw y at h))
  | inr n ↦ cc (rw n at h)
]

pub octets_test : (o : List ℕ) → AreOctets o → list_all is_octet o ≡ true
octets_test [] h = refl
octets_test (x ∷ o) h = rw (lt-ltb x 256 h.0) (octets_test o h.1)

pub letter_octet : (c : ℕ) → may_stand c ≡ true → c < 256
letter_octet c h = elim (cases_lt c 256) [
  | inl l ↦ l
  | inr g ↦ cc (rw (le-leb 65 c (omega arith), le-leb 97 c (omega arith), le-leb 48 c (omega arith), lt-leb c 90 (omega arith), lt-leb c 122 (omega arith), lt-leb c 57 (omega arith), ne_eqb c 43 (omega arith), ne_eqb c 47 (omega arith), ne_eqb c 61 (omega arith)) at h)
]

-- ---- decoding
strict : IsStrict standard
strict = (refl, refl)

result_ok_some : (r : Result (List ℕ) DecodeError) (o : List ℕ) → result_ok r ≡ Some o → r ≡ Ok o
result_ok_some (Ok x) o h = cc
result_ok_some (Err e) o h = cc

pub decoded_is : (s o : List ℕ) → IsBytes s → decoded_of standard s ≡ Some o → s ≡ base64_of o
unfolding base64_of decoded_of
decoded_is s o bytes h = decode_of_strict standard s o strict bytes (result_ok_some (decode_of standard s) o h)

pub decoded_some : (o : List ℕ) → AreOctets o → decoded_of standard (base64_of o) ≡ Some o
unfolding base64_of
decoded_some o bytes = decoded_of-ok standard (base64_of o) o (decode_of-encode_of standard o refl (bytes_from o bytes))

-- ---- the completion of an unfinished group
letter_value : (c : ℕ) → is_letter c ≡ true → (slice_index D c < 64) × (slice_index T (slice_index D c) ≡ c)
letter_value c h =
    let octet : c < 256 = letter_octet c (rw h refl) in
    let known : not (is_letter c && (slice_index D c == 255)) ≡ true = all_below_at (λ k. not (is_letter k && (slice_index D k == 255))) 256 c refl octet in
    elim (encode-decode_table T D refl c octet) [
      | inl bad ↦ cc (rw (h, bad) at known)
      | inr good ↦ good
    ]

pub record Completes (p : List ℕ) : Type 0 where
  pub octets : List ℕ
  pub three : length octets ≡ 3
  pub are_octets : AreOctets octets
  pub is : base64_of octets ≡ p ++ replicate (4 - length p) 65

group_of : (a b c d : ℕ) → is_letter a ≡ true → is_letter b ≡ true → is_letter c ≡ true → is_letter d ≡ true
    → (o : List ℕ) × (length o ≡ 3) × AreOctets o × (base64_of o ≡ a ∷ b ∷ c ∷ d ∷ [])
unfolding base64_of
group_of a b c d ha hb hc hd =
    let va = letter_value a ha in
    let vb = letter_value b hb in
    let vc = letter_value c hc in
    let vd = letter_value d hd in
    let m0 : ℕ = slice_index D a in
    let m1 : ℕ = slice_index D b in
    let m2 : ℕ = slice_index D c in
    let m3 : ℕ = slice_index D d in
    let e = three_of T 61 m0 m1 m2 m3 va.0 vb.0 vc.0 vd.0 in
    (decode_group m0 m1 m2 m3, refl, (omega arith, (omega arith, (omega arith, tt))), e ∙ rw (va.1, vb.1, vc.1, vd.1) refl)

and_true : (a b : Bool) → (a && b) ≡ true → (a ≡ true) × (b ≡ true)
and_true true b h = (refl, h)
and_true false b h = cc h

pub complete : (p : List ℕ) → 0 < length p → length p < 4 → list_all is_letter p ≡ true → Completes p
complete [] some few letters = absurd (omega arith)
complete (a ∷ []) some few letters =
    let h = and_true (is_letter a) true letters in
    let g = group_of a 65 65 65 h.0 refl refl refl in
    record { octets = g.0; three = g.1; are_octets = g.2; is = g.3 }
complete (a ∷ b ∷ []) some few letters =
    let h = and_true (is_letter a) _ letters in
    let k = and_true (is_letter b) true h.1 in
    let g = group_of a b 65 65 h.0 k.0 refl refl in
    record { octets = g.0; three = g.1; are_octets = g.2; is = g.3 }
complete (a ∷ b ∷ c ∷ []) some few letters =
    let h = and_true (is_letter a) _ letters in
    let k = and_true (is_letter b) _ h.1 in
    let l = and_true (is_letter c) true k.1 in
    let g = group_of a b c 65 h.0 k.0 l.0 refl in
    record { octets = g.0; three = g.1; are_octets = g.2; is = g.3 }
complete (a ∷ b ∷ c ∷ d ∷ p) some few letters = absurd (omega arith)

-- the base64 of octets has four letters at least
pub base64_long : (o : List ℕ) → length (base64_of o) < 4 → o ≡ []
unfolding base64_of
base64_long [] h = refl
base64_long (a ∷ []) h = absurd (omega (arith, ap length (encode-one T 61 a)))
base64_long (a ∷ b ∷ []) h = absurd (omega (arith, ap length (encode-two T 61 a b)))
base64_long (a ∷ b ∷ c ∷ o) h = absurd (omega (arith, ap length (encode-group T 61 a b c o)))

-- base64 is whole groups of four, each for at most three octets
pub base64_size : (o : List ℕ) → (q : ℕ) × (length (base64_of o) ≡ 4 * q) × (length o ≤ 3 * q)
unfolding base64_of
base64_size [] = (0, ap length (encode_of-nil standard), omega arith)
base64_size (a ∷ []) = (1, ap length (encode-one T 61 a), omega arith)
base64_size (a ∷ b ∷ []) = (1, ap length (encode-two T 61 a b), omega arith)
base64_size (a ∷ b ∷ c ∷ o) =
    let more = base64_size o in
    (1 + more.0, omega (arith, ap length (encode-group T 61 a b c o), more.1), omega (arith, more.2))

-- base64 doesn't begin with `=`
pub base64_begins : (o : List ℕ) → AreOctets o → begins_with_equals (base64_of o) ≡ false
unfolding base64_of
base64_begins [] h = ap begins_with_equals (encode_of-nil standard)
base64_begins (a ∷ []) h = ap begins_with_equals (encode-one T 61 a) ∙ letter_not_equals _ (standard_letters (a / 4) (let b : a < 256 = h.0 in omega arith))
base64_begins (a ∷ b ∷ []) h = ap begins_with_equals (encode-two T 61 a b) ∙ letter_not_equals _ (standard_letters (a / 4) (let b : a < 256 = h.0 in omega arith))
base64_begins (a ∷ b ∷ c ∷ o) h = ap begins_with_equals (encode-group T 61 a b c o) ∙ letter_not_equals _ (standard_letters (a / 4) (let b : a < 256 = h.0 in omega arith))
