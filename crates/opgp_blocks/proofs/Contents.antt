-- What a line says, cut from its front and from its end.
use Rattle.std.proofs.Common.{◌≡◌, ℕ, suc, ◌-◌, ◌<◌, ◌≤◌, ◌==◌, Bool, true, false, ◌&&◌, if◌then◌else◌, List, [], ◌∷◌, ◌++◌, length, take, drop, slice_index, codes, refl, sym, ap, ◌∙◌, arith, inl, inr, subst}
use Rattle.std.proofs.lemmas.Bool.{cases_eq, eqb-true}
use Rattle.std.proofs.lemmas.List.{length-drop, take-append-drop}
use Rattle.std.specs.Str.{bytes_eq}
use Rattle.opgp_blocks.specs.Line.{behind_leading, ends_label, is_br, is_ending, is_label_octet, is_leading, without_endings}

-- ---- labels
pub label_more : (o : List ℕ) → 0 < length o → is_label_octet (slice_index o 0) ≡ true → ends_label (drop 1 o) ≡ ends_label o
unfolding ends_label
label_more [] some h = absurd (omega arith)
label_more (c ∷ o) some h = rw h refl

pub label_done : (o : List ℕ) → 0 < length o → is_label_octet (slice_index o 0) ≡ false → bytes_eq o (codes "-----") ≡ ends_label o
unfolding ends_label
label_done [] some h = absurd (omega arith)
label_done (c ∷ o) some h = rw h refl

pub label_none : (o : List ℕ) → length o < 1 → false ≡ ends_label o
unfolding ends_label
label_none [] e = refl
label_none (c ∷ o) e = absurd (omega arith)

-- ---- in front
pub leading_skipped : (o : List ℕ) → 0 < length o → is_leading (slice_index o 0) ≡ true → behind_leading (drop 1 o) ≡ behind_leading o
unfolding behind_leading
leading_skipped [] some h = absurd (omega arith)
leading_skipped (c ∷ o) some h = rw h refl

pub leading_done : (o : List ℕ) → 0 < length o → is_leading (slice_index o 0) ≡ false → o ≡ behind_leading o
unfolding behind_leading
leading_done [] some h = absurd (omega arith)
leading_done (c ∷ o) some h = rw h refl

pub leading_ended : (o : List ℕ) → length o < 1 → o ≡ behind_leading o
unfolding behind_leading
leading_ended [] e = refl
leading_ended (c ∷ o) e = absurd (omega arith)

-- ---- at the end
right : (x y : Bool) → (x && y) ≡ true → y ≡ true
right true y h = h
right false y h = cc

left : (x y : Bool) → (x && y) ≡ true → x ≡ true
left true y h = refl
left false y h = cc

alone_four : (a b c d : ℕ) → d ≡ 62 → is_ending (a ∷ b ∷ c ∷ d ∷ []) ≡ true → without_endings (a ∷ b ∷ c ∷ d ∷ []) ≡ []
unfolding without_endings
alone_four a b c d e h = rw e (rw (rw e at h) refl)

alone_five : (a b c d e : ℕ) → d ≡ 47 → e ≡ 62 → is_ending (a ∷ b ∷ c ∷ d ∷ e ∷ []) ≡ true → without_endings (a ∷ b ∷ c ∷ d ∷ e ∷ []) ≡ []
unfolding without_endings
alone_five a b c d e x y h = rw (x, y) (rw (rw (x, y) at h) refl)

alone_six : (a b c d e f : ℕ) → d ≡ 32 → e ≡ 47 → f ≡ 62 → is_ending (a ∷ b ∷ c ∷ d ∷ e ∷ f ∷ []) ≡ true → without_endings (a ∷ b ∷ c ∷ d ∷ e ∷ f ∷ []) ≡ []
unfolding without_endings
alone_six a b c d e f x y z h = rw (x, y, z) (rw (rw (x, y, z) at h) refl)

alone : (e : List ℕ) → is_ending e ≡ true → without_endings e ≡ []
unfolding without_endings
alone [] h = refl
alone (a ∷ []) h = rw h refl
alone (a ∷ b ∷ []) h = cc
alone (a ∷ b ∷ c ∷ []) h = cc
alone (a ∷ b ∷ c ∷ d ∷ []) h = alone_four a b c d (eqb-true d 62 (right (is_br a b c) (d == 62) h)) h
alone (a ∷ b ∷ c ∷ d ∷ e ∷ []) h =
    let t = right (is_br a b c) ((d == 47) && (e == 62)) h in
    alone_five a b c d e (eqb-true d 47 (left (d == 47) (e == 62) t)) (eqb-true e 62 (right (d == 47) (e == 62) t)) h
alone (a ∷ b ∷ c ∷ d ∷ e ∷ f ∷ []) h =
    let t = right (is_br a b c) ((d == 32) && ((e == 47) && (f == 62))) h in
    let u = right (d == 32) ((e == 47) && (f == 62)) t in
    alone_six a b c d e f (eqb-true d 32 (left (d == 32) ((e == 47) && (f == 62)) t)) (eqb-true e 47 (left (e == 47) (f == 62) u)) (eqb-true f 62 (right (e == 47) (f == 62) u)) h
alone (a ∷ b ∷ c ∷ d ∷ e ∷ f ∷ g ∷ o) h = cc

abbrev stand : ℕ → List ℕ → List ℕ
stand c t = if is_ending (c ∷ t) then [] else c ∷ t

last_cut : (a e : List ℕ) → is_ending e ≡ true → without_endings (a ++ e) ≡ without_endings a
unfolding without_endings
last_cut [] e h = alone e h
last_cut (x ∷ a) e h = ap (stand x) (last_cut a e h)

pub shorter : (l : List ℕ) (n k : ℕ) → n ≡ length l → is_ending (drop (n - k) l) ≡ true → without_endings (take (n - k) l) ≡ without_endings l
shorter l n k e h = sym (ap without_endings (sym (take-append-drop (n - k) l)) ∙ last_cut (take (n - k) l) (drop (n - k) l) h)

pub none_left : (l : List ℕ) → ((k : ℕ) → is_ending (drop k l) ≡ false) → l ≡ without_endings l
unfolding without_endings
none_left [] h = refl
none_left (x ∷ l) h =
    let here : is_ending (x ∷ l) ≡ false = h 0 in
    sym (ap (stand x) (sym (none_left l (λ k. h (suc k)))) ∙ rw here refl)

-- ---- an ending has 1, 4, 5 or 6 octets
other_size : (o : List ℕ) → (length o ≡ 1 → ⊥) → (length o ≡ 4 → ⊥) → (length o ≡ 5 → ⊥) → (length o ≡ 6 → ⊥) → is_ending o ≡ false
other_size [] p q r s = refl
other_size (a ∷ []) p q r s = absurd (p refl)
other_size (a ∷ b ∷ []) p q r s = refl
other_size (a ∷ b ∷ c ∷ []) p q r s = refl
other_size (a ∷ b ∷ c ∷ d ∷ []) p q r s = absurd (q refl)
other_size (a ∷ b ∷ c ∷ d ∷ e ∷ []) p q r s = absurd (r refl)
other_size (a ∷ b ∷ c ∷ d ∷ e ∷ f ∷ []) p q r s = absurd (s refl)
other_size (a ∷ b ∷ c ∷ d ∷ e ∷ f ∷ g ∷ o) p q r s = refl

-- the line doesn't end in an ending of so many octets
abbrev pub NotBy : List ℕ → ℕ → Type 0
NotBy l size = size ≤ length l → is_ending (drop (length l - size) l) ≡ false

not_by : (l : List ℕ) (k size : ℕ) → 0 < size → NotBy l size → length (drop k l) ≡ size → is_ending (drop k l) ≡ false
not_by l k size some h e =
    let n : length l - k ≡ size = sym (length-drop k l) ∙ e in
    let at : length l - size ≡ k = omega arith in
    subst (λ (j : ℕ). is_ending (drop j l) ≡ false) at (h (omega arith))

pub no_ending : (l : List ℕ) → NotBy l 1 → NotBy l 4 → NotBy l 5 → NotBy l 6 → (k : ℕ) → is_ending (drop k l) ≡ false
no_ending l p q r s k =
    elim (cases_eq (length (drop k l)) 1) [
      | inl e ↦ not_by l k 1 (omega arith) p e
      | inr n1 ↦ elim (cases_eq (length (drop k l)) 4) [
        | inl e ↦ not_by l k 4 (omega arith) q e
        | inr n4 ↦ elim (cases_eq (length (drop k l)) 5) [
          | inl e ↦ not_by l k 5 (omega arith) r e
          | inr n5 ↦ elim (cases_eq (length (drop k l)) 6) [
            | inl e ↦ not_by l k 6 (omega arith) s e
            | inr n6 ↦ other_size (drop k l) n1 n4 n5 n6
          ]
        ]
      ]
    ]
