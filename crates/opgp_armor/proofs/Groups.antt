-- Base64 by whole groups: four letters, three octets.
use Rattle.std.proofs.Common.{◌≡◌, ℕ, zero, suc, ◌+◌, ◌*◌, ◌/◌, ◌%◌, ◌<◌, Bool, true, false, List, [], ◌∷◌, ◌++◌, length, slice_index, refl, sym, ap, ◌∙◌, arith, inl, inr, ◌⊎◌}
use Rattle.std.proofs.lemmas.List.{append-nil, length-append, nil_from_length}
use Rattle.std.proofs.lemmas.Bool.{cases_eq, ne_eqb}
use Rattle.base64.specs.Rfc4648.{encode, encode_symbols, encode_group}
use Rattle.base64.specs.Decode.{decode_group}
use Rattle.base64.proofs.EngineFacts.{encode-append, encode-nil}
use Rattle.std.specs.List.{list_any, list_all}
use Rattle.opgp_armor.specs.Letters.{is_letter, is_equals, may_stand}
use Rattle.opgp_armor.proofs.Octets.{AreOctets}

-- a whole group in front
pub encode-group : (t : List ℕ) (pad a b c : ℕ) (o : List ℕ) → encode t pad true (a ∷ b ∷ c ∷ o) ≡ encode_group t a b c ++ encode t pad true o
unfolding encode_symbols
encode-group t pad a b c o = encode-append t pad true (a ∷ b ∷ c ∷ []) o (omega arith)

pub encode-one : (t : List ℕ) (pad a : ℕ) → encode t pad true (a ∷ []) ≡ slice_index t (a / 4) ∷ slice_index t (a % 4 * 16) ∷ pad ∷ pad ∷ []
unfolding encode_symbols
encode-one t pad a = refl

pub encode-two : (t : List ℕ) (pad a b : ℕ) → encode t pad true (a ∷ b ∷ []) ≡ slice_index t (a / 4) ∷ slice_index t (a % 4 * 16 + b / 16) ∷ slice_index t (b % 16 * 4) ∷ pad ∷ []
unfolding encode_symbols
encode-two t pad a b = refl

-- what a cut of an encoding after whole groups gives
pub record Cut (t : List ℕ) (pad : ℕ) (o a b : List ℕ) : Type 0 where
  pub front : List ℕ
  pub back : List ℕ
  pub whole : o ≡ front ++ back
  pub front_is : a ≡ encode t pad true front
  pub back_is : b ≡ encode t pad true back
  pub full : (length front % 3 ≡ 0) ⊎ (back ≡ [])

pub cut_at : (t : List ℕ) (pad q : ℕ) (o a b : List ℕ) → encode t pad true o ≡ a ++ b → length a ≡ 4 * q → Cut t pad o a b
cut_at t pad zero o a b e l =
    let z : a ≡ [] = nil_from_length a (omega arith) in
    record { front = []; back = o; whole = refl; front_is = z ∙ sym (encode-nil t pad true); back_is = sym (rw z at e); full = inl (omega arith) }
cut_at t pad (suc q) [] a b e l =
    absurd (omega (arith, l, ap length e, length-append a b, ap length (encode-nil t pad true)))
cut_at t pad (suc q) (x ∷ []) a b e l =
    let le : 4 ≡ length a + length b = ap length (sym (encode-one t pad x) ∙ e) ∙ length-append a b in
    let z : b ≡ [] = nil_from_length b (omega arith) in
    record { front = x ∷ []; back = []; whole = refl; front_is = sym (append-nil a) ∙ sym (rw z at e); back_is = z ∙ sym (encode-nil t pad true); full = inr refl }
cut_at t pad (suc q) (x ∷ y ∷ []) a b e l =
    let le : 4 ≡ length a + length b = ap length (sym (encode-two t pad x y) ∙ e) ∙ length-append a b in
    let z : b ≡ [] = nil_from_length b (omega arith) in
    record { front = x ∷ y ∷ []; back = []; whole = refl; front_is = sym (append-nil a) ∙ sym (rw z at e); back_is = z ∙ sym (encode-nil t pad true); full = inr refl }
cut_at t pad (suc q) (x ∷ y ∷ z ∷ o) [] b e l = absurd (omega arith)
cut_at t pad (suc q) (x ∷ y ∷ z ∷ o) (a0 ∷ []) b e l = absurd (omega arith)
cut_at t pad (suc q) (x ∷ y ∷ z ∷ o) (a0 ∷ a1 ∷ []) b e l = absurd (omega arith)
cut_at t pad (suc q) (x ∷ y ∷ z ∷ o) (a0 ∷ a1 ∷ a2 ∷ []) b e l = absurd (omega arith)
cut_at t pad (suc q) (x ∷ y ∷ z ∷ o) (a0 ∷ a1 ∷ a2 ∷ a3 ∷ a) b e l =
    let h : encode_group t x y z ++ encode t pad true o ≡ a0 ∷ a1 ∷ a2 ∷ a3 ∷ (a ++ b) = sym (encode-group t pad x y z o) ∙ e in
    let tail : encode t pad true o ≡ a ++ b = cc in
    let e0 : slice_index t (x / 4) ≡ a0 = cc in
    let e1 : slice_index t (x % 4 * 16 + y / 16) ≡ a1 = cc in
    let e2 : slice_index t (y % 16 * 4 + z / 64) ≡ a2 = cc in
    let e3 : slice_index t (z % 64) ≡ a3 = cc in
    let more = cut_at t pad q o a b tail (omega arith) in
    record {
      front = x ∷ y ∷ z ∷ more.front;
      back = more.back;
      whole = ap (λ (w : List ℕ). x ∷ y ∷ z ∷ w) more.whole;
      front_is = sym (rw (encode-group t pad x y z more.front, ← more.front_is, e0, e1, e2, e3) refl);
      back_is = more.back_is;
      full = elim more.full [ inl f ↦ inl (omega arith) | inr n ↦ inr n ];
    }

-- what is known of the table: each symbol is a letter
abbrev pub AreLetters : List ℕ → Type 0
AreLetters t = (i : ℕ) → i < 64 → is_letter (slice_index t i) ≡ true

pub letter_not_equals : (c : ℕ) → is_letter c ≡ true → is_equals c ≡ false
letter_not_equals c h = elim (cases_eq c 61) [
  | inl e ↦ cc (rw e at h)
  | inr n ↦ ne_eqb c 61 n
]

-- Before letters that don't begin with `=` no unfinished group has one.
abbrev pub begins_with_equals : List ℕ → Bool
begins_with_equals [] = false
begins_with_equals (c ∷ cs) = is_equals c

module _ (t : List ℕ) (letters : AreLetters t) where
  at_table : (i : ℕ) → i < 64 → is_equals (slice_index t i) ≡ false
  at_table i h = letter_not_equals _ (letters i h)

  pub partial_group : (o p b : List ℕ) → AreOctets o → encode t 61 true o ≡ p ++ b → length p < 4 → begins_with_equals b ≡ false → list_any is_equals p ≡ false
  partial_group o [] b bytes e l n = refl
  partial_group [] (p0 ∷ p) b bytes e l n = cc (sym (encode-nil t 61 true) ∙ e)
  partial_group (x ∷ []) (p0 ∷ []) b bytes e l n =
      let h = sym (encode-one t 61 x) ∙ e in
      let e0 : slice_index t (x / 4) ≡ p0 = cc in
      let a0 = at_table (x / 4) (omega arith) in
      rw (← e0, a0) refl
  partial_group (x ∷ []) (p0 ∷ p1 ∷ []) b bytes e l n =
      let h = sym (encode-one t 61 x) ∙ e in
      let e0 : slice_index t (x / 4) ≡ p0 = cc in
      let e1 : slice_index t (x % 4 * 16) ≡ p1 = cc in
      let a0 = at_table (x / 4) (omega arith) in
      let a1 = at_table (x % 4 * 16) (omega arith) in
      rw (← e0, ← e1, a0, a1) refl
  partial_group (x ∷ []) (p0 ∷ p1 ∷ p2 ∷ []) b bytes e l n =
      let h = sym (encode-one t 61 x) ∙ e in
      let eb : b ≡ 61 ∷ [] = cc in
      cc (rw eb at n)
  partial_group (x ∷ y ∷ []) (p0 ∷ []) b bytes e l n =
      let h = sym (encode-two t 61 x y) ∙ e in
      let e0 : slice_index t (x / 4) ≡ p0 = cc in
      let a0 = at_table (x / 4) (omega arith) in
      rw (← e0, a0) refl
  partial_group (x ∷ y ∷ []) (p0 ∷ p1 ∷ []) b bytes e l n =
      let h = sym (encode-two t 61 x y) ∙ e in
      let e0 : slice_index t (x / 4) ≡ p0 = cc in
      let e1 : slice_index t (x % 4 * 16 + y / 16) ≡ p1 = cc in
      let a0 = at_table (x / 4) (omega arith) in
      let a1 = at_table (x % 4 * 16 + y / 16) (omega arith) in
      rw (← e0, ← e1, a0, a1) refl
  partial_group (x ∷ y ∷ []) (p0 ∷ p1 ∷ p2 ∷ []) b bytes e l n =
      let h = sym (encode-two t 61 x y) ∙ e in
      let e0 : slice_index t (x / 4) ≡ p0 = cc in
      let e1 : slice_index t (x % 4 * 16 + y / 16) ≡ p1 = cc in
      let e2 : slice_index t (y % 16 * 4) ≡ p2 = cc in
      let a0 = at_table (x / 4) (omega arith) in
      let a1 = at_table (x % 4 * 16 + y / 16) (omega arith) in
      let a2 = at_table (y % 16 * 4) (omega arith) in
      rw (← e0, ← e1, ← e2, a0, a1, a2) refl
  partial_group (x ∷ y ∷ z ∷ o) (p0 ∷ []) b bytes e l n =
      let h = sym (encode-group t 61 x y z o) ∙ e in
      let e0 : slice_index t (x / 4) ≡ p0 = cc in
      let a0 = at_table (x / 4) (omega arith) in
      rw (← e0, a0) refl
  partial_group (x ∷ y ∷ z ∷ o) (p0 ∷ p1 ∷ []) b bytes e l n =
      let h = sym (encode-group t 61 x y z o) ∙ e in
      let e0 : slice_index t (x / 4) ≡ p0 = cc in
      let e1 : slice_index t (x % 4 * 16 + y / 16) ≡ p1 = cc in
      let a0 = at_table (x / 4) (omega arith) in
      let a1 = at_table (x % 4 * 16 + y / 16) (omega arith) in
      rw (← e0, ← e1, a0, a1) refl
  partial_group (x ∷ y ∷ z ∷ o) (p0 ∷ p1 ∷ p2 ∷ []) b bytes e l n =
      let h = sym (encode-group t 61 x y z o) ∙ e in
      let e0 : slice_index t (x / 4) ≡ p0 = cc in
      let e1 : slice_index t (x % 4 * 16 + y / 16) ≡ p1 = cc in
      let e2 : slice_index t (y % 16 * 4 + z / 64) ≡ p2 = cc in
      let a0 = at_table (x / 4) (omega arith) in
      let a1 = at_table (x % 4 * 16 + y / 16) (omega arith) in
      let a2 = at_table (y % 16 * 4 + z / 64) (omega arith) in
      rw (← e0, ← e1, ← e2, a0, a1, a2) refl
  partial_group (x ∷ o) (p0 ∷ p1 ∷ p2 ∷ p3 ∷ p) b bytes e l n = absurd (omega arith)

  -- an encoding has letters and `=` alone
  stands : (i : ℕ) → i < 64 → may_stand (slice_index t i) ≡ true
  stands i h = rw (letters i h) refl

  pub all_stand : (o : List ℕ) → AreOctets o → list_all may_stand (encode t 61 true o) ≡ true
  all_stand [] bytes = rw (encode-nil t 61 true) refl
  all_stand (x ∷ []) bytes =
      rw (encode-one t 61 x, stands (x / 4) (omega arith), stands (x % 4 * 16) (omega arith)) refl
  all_stand (x ∷ y ∷ []) bytes =
      rw (encode-two t 61 x y, stands (x / 4) (omega arith), stands (x % 4 * 16 + y / 16) (omega arith), stands (y % 16 * 4) (omega arith)) refl
  all_stand (x ∷ y ∷ z ∷ o) bytes =
      rw (encode-group t 61 x y z o, stands (x / 4) (omega arith), stands (x % 4 * 16 + y / 16) (omega arith), stands (y % 16 * 4 + z / 64) (omega arith), stands (z % 64) (omega arith)) (all_stand o (bytes.1.1.1))

-- four letters are the encoding of three octets
pub three_of : (t : List ℕ) (pad m0 m1 m2 m3 : ℕ) → m0 < 64 → m1 < 64 → m2 < 64 → m3 < 64
    → encode t pad true (decode_group m0 m1 m2 m3) ≡ slice_index t m0 ∷ slice_index t m1 ∷ slice_index t m2 ∷ slice_index t m3 ∷ []
three_of t pad m0 m1 m2 m3 l0 l1 l2 l3 =
    let e0 : (m0 * 4 + m1 / 16) / 4 ≡ m0 = omega arith in
    let e1 : (m0 * 4 + m1 / 16) % 4 * 16 + (m1 % 16 * 16 + m2 / 4) / 16 ≡ m1 = omega arith in
    let e2 : (m1 % 16 * 16 + m2 / 4) % 16 * 4 + (m2 % 4 * 64 + m3) / 64 ≡ m2 = omega arith in
    let e3 : (m2 % 4 * 64 + m3) % 64 ≡ m3 = omega arith in
    rw (encode-group t pad _ _ _ [], encode-nil t pad true, e0, e1, e2, e3) refl
