-- What a data line gives, against what decoding the letters so far answers.
use Rattle.std.proofs.Common.{◌≡◌, ℕ, ◌%◌, ◌==◌, Bool, true, false, cond, not, ◌||◌, ◌&&◌, nat_lt, List, [], ◌∷◌, ◌++◌, length, refl, sym, ap, ◌∙◌, inl, inr, Ok, Err}
use Rattle.std.proofs.lemmas.Bool.{cases_Bool, eqb-true}
use Rattle.std.specs.List.{list_any, list_all}
use Rattle.base64.specs.declared.decode.DecodeError.{DecodeError}
use Rattle.base64.specs.Engines.{standard}
use Rattle.base64.specs.GeneralPurpose.{decode_of, IsBytes}
use Rattle.base64.proofs.Streams.{decoded_of-ok}
use Rattle.std.specs.declared.result.Result.{Result}
use Rattle.opgp_octets.specs.declared.fault.Reason.{Reason}
use Rattle.opgp_octets.specs.declared.fault.Reason.TheVariants as reason
use Rattle.opgp_armor.specs.Letters.{is_letter, is_equals, may_stand, base64_of, Pending, spoils, data_line, groups_of, rest_of}
use Rattle.opgp_armor.proofs.Octets.{all_octets}
use Rattle.opgp_armor.proofs.Standard.{base64_stands}
use Rattle.opgp_armor.proofs.Decoded.{bytes_test, after_spoilt, after_bad}
use Rattle.opgp_armor.proofs.DataLine.{all_parts, all_both, letters_stand, stand_letters, groups_rest, line_goes}

-- letters that wait where no group was padded
abbrev pub waiting : List ℕ → Pending
waiting l = record { letters = l; padded = false }

pub bad_line : (l c : List ℕ) (d : DecodeError) → decode_of standard (groups_of (l ++ c)) ≡ Err d → data_line (waiting l) c ≡ Err (cond (list_all may_stand c) reason.Padding reason.Letters)
unfolding data_line
bad_line l c d err = elim (cases_Bool (list_all may_stand c)) [
  | inl y ↦ rw y (after_bad (groups_of (l ++ c)) (rest_of (l ++ c)) d err)
  | inr n ↦ rw n refl
]

or_right : (a b : Bool) → b ≡ true → (a || b) ≡ true
or_right true b h = refl
or_right false b h = h

-- letters and `=` that aren't all letters
has_equals : (s : List ℕ) → list_all may_stand s ≡ true → list_all is_letter s ≡ false → list_any is_equals s ≡ true
has_equals s stand h = elim (cases_Bool (list_any is_equals s)) [
  | inl y ↦ y
  | inr n ↦ cc (sym (stand_letters s stand n) ∙ h)
]

spoilt_by : (a b c : Bool) → (a ≡ false → b ≡ true) → (not a || c) ≡ true → (b || c) ≡ true
spoilt_by true b c f h = or_right b c h
spoilt_by false b c f h = rw (f refl) refl

rest_stands : (l c : List ℕ) → list_all is_letter l ≡ true → list_all may_stand c ≡ true → list_all may_stand (rest_of (l ++ c)) ≡ true
rest_stands l c letters stand =
    (all_parts may_stand (groups_of (l ++ c)) (rest_of (l ++ c)) (ap (list_all may_stand) (groups_rest (l ++ c)) ∙ all_both may_stand l c (letters_stand l letters) stand)).1

pub spoilt_line : (l c o : List ℕ) → list_all is_letter l ≡ true → decode_of standard (groups_of (l ++ c)) ≡ Ok o → spoils (rest_of (l ++ c)) (not (length o % 3 == 0)) ≡ true
    → data_line (waiting l) c ≡ Err (cond (list_all may_stand c) reason.Padding reason.Letters)
unfolding data_line
spoilt_line l c o letters ok h = elim (cases_Bool (list_all may_stand c)) [
  | inl y ↦
      let rest : List ℕ = rest_of (l ++ c) in
      let spoilt = spoilt_by (list_all is_letter rest) (list_any is_equals rest) (not (length o % 3 == 0) && nat_lt 0 (length rest)) (has_equals rest (rest_stands l c letters y)) h in
      rw y (after_spoilt (groups_of (l ++ c)) rest o ok spoilt)
  | inr n ↦ rw n refl
]

no_equals_among : (s : List ℕ) → list_all is_letter s ≡ true → list_any is_equals s ≡ false
no_equals_among [] h = refl
no_equals_among (c ∷ s) h = elim (cases_Bool (is_letter c)) [
  | inl y ↦ elim (cases_Bool (is_equals c)) [
    | inl e ↦ cc (rw (eqb-true c 61 e) at y)
    | inr n ↦ rw n (no_equals_among s (rw y at h))
  ]
  | inr n ↦ cc (rw n at h)
]

not_spoilt : (a c : Bool) → (not a || c) ≡ false → (a ≡ true) × (c ≡ false)
not_spoilt true c h = (refl, h)
not_spoilt false c h = cc h

pub good_line : (l c o : List ℕ) → decode_of standard (groups_of (l ++ c)) ≡ Ok o → groups_of (l ++ c) ≡ base64_of o → IsBytes o → spoils (rest_of (l ++ c)) (not (length o % 3 == 0)) ≡ false
    → data_line (waiting l) c ≡ Ok (record { letters = rest_of (l ++ c); padded = not (length o % 3 == 0) }, o)
good_line l c o ok is bytes h =
    let rest : List ℕ = rest_of (l ++ c) in
    let good = not_spoilt (list_all is_letter rest) (not (length o % 3 == 0) && nat_lt 0 (length rest)) h in
    let front : list_all may_stand (groups_of (l ++ c)) ≡ true = ap (list_all may_stand) is ∙ base64_stands o (all_octets o bytes) in
    let whole : list_all may_stand (l ++ c) ≡ true = ap (list_all may_stand) (sym (groups_rest (l ++ c))) ∙ all_both may_stand (groups_of (l ++ c)) rest front (letters_stand rest good.0) in
    line_goes (waiting l) c o (all_parts may_stand l c whole).1 refl (decoded_of-ok standard (groups_of (l ++ c)) o ok) (bytes_test o bytes) (no_equals_among rest good.0) good.1

-- ---- the same of parts under other names
abbrev failed : Reason → Result (Pending × List ℕ) Reason
failed e = Err e

module _ (l c all g r : List ℕ) (joined : all ≡ l ++ c) (front : g ≡ groups_of all) (back : r ≡ rest_of all) where
  groups_are : g ≡ groups_of (l ++ c)
  groups_are = front ∙ ap groups_of joined

  rest_is : r ≡ rest_of (l ++ c)
  rest_is = back ∙ ap rest_of joined

  spoilt_is : (o : List ℕ) (n : ℕ) (b v : Bool) → n ≡ length o → b ≡ spoils r (not (n % 3 == 0)) → b ≡ v → spoils (rest_of (l ++ c)) (not (length o % 3 == 0)) ≡ v
  spoilt_is o n b v count is was =
      ap (λ (k : ℕ). spoils (rest_of (l ++ c)) (not (k % 3 == 0))) (sym count) ∙ ap (λ (w : List ℕ). spoils w (not (n % 3 == 0))) (sym rest_is) ∙ sym is ∙ was

  pub line_spoilt : (o : List ℕ) (n : ℕ) (b : Bool) (e : Reason) → list_all is_letter l ≡ true → decode_of standard g ≡ Ok o → n ≡ length o → b ≡ spoils r (not (n % 3 == 0)) → b ≡ true
      → e ≡ cond (list_all may_stand c) reason.Padding reason.Letters → data_line (waiting l) c ≡ Err e
  line_spoilt o n b e letters ok count is was why =
      spoilt_line l c o letters (ap (decode_of standard) (sym groups_are) ∙ ok) (spoilt_is o n b true count is was) ∙ ap (λ (v : Reason). failed v) (sym why)

  pub line_bad : (d : DecodeError) (e : Reason) → decode_of standard g ≡ Err d → e ≡ cond (list_all may_stand c) reason.Padding reason.Letters → data_line (waiting l) c ≡ Err e
  line_bad d e err why = bad_line l c d (ap (decode_of standard) (sym groups_are) ∙ err) ∙ ap (λ (v : Reason). failed v) (sym why)

  pub line_good : (o : List ℕ) (n : ℕ) (b : Bool) (p : Pending) → decode_of standard g ≡ Ok o → g ≡ base64_of o → IsBytes o → n ≡ length o → b ≡ spoils r (not (n % 3 == 0)) → b ≡ false
      → p ≡ record { letters = r; padded = not (n % 3 == 0) } → data_line (waiting l) c ≡ Ok (p, o)
  line_good o n b p ok exact bytes count is was held =
      let named : ℕ → Result (Pending × List ℕ) Reason = λ k. Ok (record { letters = rest_of (l ++ c); padded = not (k % 3 == 0) }, o) in
      let left : List ℕ → Result (Pending × List ℕ) Reason = λ w. Ok (record { letters = w; padded = not (n % 3 == 0) }, o) in
      let kept : Pending → Result (Pending × List ℕ) Reason = λ q. Ok (q, o) in
      good_line l c o (ap (decode_of standard) (sym groups_are) ∙ ok) (sym groups_are ∙ exact) bytes (spoilt_is o n b false count is was)
      ∙ ap named (sym count) ∙ ap left (sym rest_is) ∙ ap kept (sym held)
