-- Words in pieces.
use Rattle.std.proofs.Common.{◌≡◌, ◌∙◌, ℕ, ◌+◌, ◌/◌, ◌%◌, ◌<◌, true, false, List, [], ◌∷◌, ◌++◌, refl, sym, ap, arith, length, take, drop, slice_index, codes}
use Rattle.std.proofs.lemmas.List.{take_more, take-append-drop, append-nil}
use Rattle.std.proofs.lemmas.List.Concat.{flat_map-append}
use Rattle.hex.specs.Hex.{encode_with, encode_upper, upper_digits}
use Rattle.opgp_io.specs.Texts.{is_plain, escape, escaped}

-- ---- hexadecimal
pub upper-nil : encode_upper [] ≡ []
unfolding encode_with
upper-nil = refl

upper-append : (xs ys : List ℕ) → encode_upper (xs ++ ys) ≡ encode_upper xs ++ encode_upper ys
unfolding encode_with
upper-append [] ys = refl
upper-append (x ∷ xs) ys = ap (λ (v : List ℕ). slice_index upper_digits (x / 16) ∷ slice_index upper_digits (x % 16) ∷ v) (upper-append xs ys)

pub upper_split : (rest front back : List ℕ) (n : ℕ) → front ≡ take n rest → back ≡ drop n rest → encode_upper rest ≡ encode_upper front ++ encode_upper back
upper_split rest front back n e f =
    ap encode_upper (sym (take-append-drop n rest)) ∙ upper-append (take n rest) (drop n rest)
    ∙ ap (λ (v : List ℕ). encode_upper v ++ encode_upper (drop n rest)) (sym e) ∙ ap (λ (v : List ℕ). encode_upper front ++ encode_upper v) (sym f)

-- ---- escapes
pub escaped-nil : escaped [] ≡ []
unfolding escaped
escaped-nil = refl

escaped-one : (c : ℕ) → escaped (c ∷ []) ≡ escape c
unfolding escaped
escaped-one c = append-nil (escape c)

pub escaped-append : (xs ys : List ℕ) → escaped (xs ++ ys) ≡ escaped xs ++ escaped ys
unfolding escaped
escaped-append xs ys = flat_map-append escape xs ys

pub escape_plain : (c : ℕ) → is_plain c ≡ true → escape c ≡ c ∷ []
escape_plain c h = rw h refl

pub escape_other : (c : ℕ) → is_plain c ≡ false → escape c ≡ codes "\\x" ++ encode_upper (c ∷ [])
escape_other c h = rw h refl

-- a run of plain octets grows
pub plain_more : (xs : List ℕ) (i : ℕ) → i < length xs → is_plain (slice_index xs i) ≡ true → escaped (take i xs) ≡ take i xs → escaped (take (i + 1) xs) ≡ take (i + 1) xs
plain_more xs i l p e =
    let m : take (i + 1) xs ≡ take i xs ++ slice_index xs i ∷ [] = take_more xs i 0 l in
    ap escaped m ∙ escaped-append (take i xs) (slice_index xs i ∷ [])
    ∙ ap (λ (v : List ℕ). v ++ escaped (slice_index xs i ∷ [])) e
    ∙ ap (λ (v : List ℕ). take i xs ++ v) (escaped-one (slice_index xs i) ∙ escape_plain (slice_index xs i) p) ∙ sym m

-- a run of plain octets, and what is behind it
pub run_split : (rest run after : List ℕ) (n : ℕ) → run ≡ take n rest → after ≡ drop n rest → escaped (take n rest) ≡ take n rest → escaped rest ≡ run ++ escaped after
run_split rest run after n e f p =
    ap escaped (sym (take-append-drop n rest)) ∙ escaped-append (take n rest) (drop n rest)
    ∙ ap (λ (v : List ℕ). v ++ escaped (drop n rest)) (p ∙ sym e) ∙ ap (λ (v : List ℕ). run ++ escaped v) (sym f)

pub escape_split : (after : List ℕ) (c : ℕ) (rest : List ℕ) → 0 < length after → c ≡ slice_index after 0 → rest ≡ drop 1 after → escaped after ≡ escape c ++ escaped rest
unfolding escaped
escape_split [] c rest h e f = absurd (omega arith)
escape_split (x ∷ xs) c rest h e f = ap (λ (v : ℕ). escape v ++ escaped xs) (sym e) ∙ ap (λ (v : List ℕ). escape c ++ escaped v) (sym f)
