-- A piece of a text, fed octet after octet.
use Rattle.std.proofs.Common.{◌≡◌, ℕ, ◌+◌, ◌-◌, ◌<◌, ◌≤◌, Bool, ◌==◌, List, [], ◌∷◌, ◌++◌, length, get_or, take, drop}
use Rattle.std.proofs.Common.{refl, sym, ap, ◌∙◌, arith, append_assoc, append-nil, length-append, length-drop}
use Rattle.std.proofs.Common.{true, false, inl, inr}
use Rattle.std.proofs.lemmas.Bool.{cases_eq, ne_eqb}
use Rattle.std.proofs.lemmas.List.{take_all, take_more, drop-append-le, length-take-le, drop-take, drop_all, take_rest, take-append-drop}
use Rattle.opgp_document.specs.Text.{octet_as_text, to_text, ends_cr}
use Rattle.opgp_document.proofs.Text.{text_append, ends_append}

pub next_text : (b : Bool) (o : List ℕ) (i : ℕ) → i < length o
    → to_text b (take (i + 1) o) ≡ to_text b (take i o) ++ octet_as_text (ends_cr b (take i o)) (get_or o i 0)
next_text b o i h =
    ap (λ (t : List ℕ). to_text b t) (take_more o i 0 h) ∙ text_append b (take i o) (get_or o i 0 ∷ [])
    ∙ ap (λ (t : List ℕ). to_text b (take i o) ++ t) (append-nil (octet_as_text (ends_cr b (take i o)) (get_or o i 0)))

pub next_ends : (b : Bool) (o : List ℕ) (i : ℕ) → i < length o → ends_cr b (take (i + 1) o) ≡ (get_or o i 0 == 13)
next_ends b o i h = ap (λ (t : List ℕ). ends_cr b t) (take_more o i 0 h) ∙ ends_append b (take i o) (get_or o i 0 ∷ [])

-- what waits to be fed grows by an octet
pub next_cut : (o : List ℕ) (s i : ℕ) → s ≤ i → i < length o → drop s (take (i + 1) o) ≡ drop s (take i o) ++ (get_or o i 0 ∷ [])
next_cut o s i w h =
    let size : length (take i o) ≡ i = length-take-le i o (omega arith) in
    ap (λ (t : List ℕ). drop s t) (take_more o i 0 h) ∙ drop-append-le s (take i o) (get_or o i 0 ∷ []) (omega arith)

-- as a slice it is this
pub cut_is : (o : List ℕ) (s i : ℕ) → s ≤ i → drop s (take i o) ≡ take (i - s) (drop s o)
cut_is o s i w =
    let e : s + (i - s) ≡ i = omega arith in
    ap (λ (n : ℕ). drop s (take n o)) (sym e) ∙ drop-take s (i - s) o

-- what was fed, and what waits, is the text of the first i octets
abbrev pub IsFed : Bool → List ℕ → ℕ → ℕ → Type 0
IsFed b o s i = to_text b (take i o) ≡ to_text b (take s o) ++ drop s (take i o)

-- an octet that stays as it is waits too
pub waits : (b : Bool) (o : List ℕ) (s i : ℕ) → s ≤ i → i < length o → IsFed b o s i
    → octet_as_text (ends_cr b (take i o)) (get_or o i 0) ≡ get_or o i 0 ∷ [] → IsFed b o s (i + 1)
waits b o s i w h fed same =
    next_text b o i h ∙ ap (λ (t : List ℕ). to_text b (take i o) ++ t) same
    ∙ ap (λ (t : List ℕ). t ++ (get_or o i 0 ∷ [])) fed
    ∙ append_assoc (to_text b (take s o)) (drop s (take i o)) (get_or o i 0 ∷ [])
    ∙ ap (λ (t : List ℕ). to_text b (take s o) ++ t) (sym (next_cut o s i w h))

-- at a line feed alone all is fed, and a canonical line end
pub ends : (b : Bool) (o : List ℕ) (s i : ℕ) → i < length o → IsFed b o s i
    → octet_as_text (ends_cr b (take i o)) (get_or o i 0) ≡ 13 ∷ 10 ∷ []
    → to_text b (take (i + 1) o) ≡ (to_text b (take s o) ++ drop s (take i o)) ++ (13 ∷ 10 ∷ [])
ends b o s i h fed line =
    next_text b o i h ∙ ap (λ (t : List ℕ). to_text b (take i o) ++ t) line
    ∙ ap (λ (t : List ℕ). t ++ (13 ∷ 10 ∷ [])) fed

-- ---- what an octet becomes
pub line_end : (e : Bool) (x : ℕ) → x ≡ 10 → e ≡ false → octet_as_text e x ≡ 13 ∷ 10 ∷ []
line_end e x p q = rw (p, q) refl

pub kept_other : (e : Bool) (x : ℕ) → (x ≡ 10 → ⊥) → octet_as_text e x ≡ x ∷ []
kept_other e x n =
    let f : (x == 10) ≡ false = ne_eqb x 10 n in
    rw f refl

pub kept_behind : (e : Bool) (x : ℕ) → e ≡ true → octet_as_text e x ≡ x ∷ []
kept_behind e x q = elim (cases_eq x 10) [
  | inl p ↦ rw (p, q) refl
  | inr n ↦ kept_other e x n
]

-- ---- what is fed in all
regrouped : (m t k e : List ℕ) → ((m ++ t) ++ k) ++ e ≡ m ++ ((t ++ k) ++ e)
regrouped m t k e = append_assoc (m ++ t) k e ∙ append_assoc m t (k ++ e) ∙ ap (λ (x : List ℕ). m ++ x) (sym (append_assoc t k e))

-- a line's octets, and its end
pub line_fed : (m t k e u : List ℕ) → e ≡ 13 ∷ 10 ∷ [] → u ≡ (t ++ k) ++ (13 ∷ 10 ∷ []) → ((m ++ t) ++ k) ++ e ≡ m ++ u
line_fed m t k e u is line =
    ap (λ (x : List ℕ). ((m ++ t) ++ k) ++ x) is ∙ regrouped m t k (13 ∷ 10 ∷ []) ∙ ap (λ (x : List ℕ). m ++ x) (sym line)

-- at the end of the piece
pub all_fed : (b : Bool) (o : List ℕ) (s : ℕ) (m : List ℕ) → to_text b o ≡ to_text b (take s o) ++ drop s o
    → (m ++ to_text b (take s o)) ++ take (length o - s) (drop s o) ≡ m ++ to_text b o
all_fed b o s m all =
    append_assoc m (to_text b (take s o)) (take (length o - s) (drop s o))
    ∙ ap (λ (x : List ℕ). m ++ (to_text b (take s o) ++ x)) (take_rest o s)
    ∙ ap (λ (x : List ℕ). m ++ x) (sym all)

-- nothing waits behind a line end
pub fresh : (b : Bool) (o : List ℕ) (n : ℕ) → n ≤ length o → IsFed b o n n
fresh b o n h =
    let size : length (take n o) ≡ n = length-take-le n o h in
    let none : drop n (take n o) ≡ [] = drop_all n (take n o) (omega arith) in
    sym (append-nil (to_text b (take n o))) ∙ ap (λ (x : List ℕ). to_text b (take n o) ++ x) (sym none)

-- as a slice up to a line end
pub line_cut : (b : Bool) (o : List ℕ) (s i : ℕ) → s ≤ i → i < length o → IsFed b o s i
    → octet_as_text (ends_cr b (take i o)) (get_or o i 0) ≡ 13 ∷ 10 ∷ []
    → to_text b (take (i + 1) o) ≡ (to_text b (take s o) ++ take (i - s) (drop s o)) ++ (13 ∷ 10 ∷ [])
line_cut b o s i w h fed line =
    ends b o s i h fed line ∙ ap (λ (x : List ℕ). (to_text b (take s o) ++ x) ++ (13 ∷ 10 ∷ [])) (cut_is o s i w)

-- .. and to the end
pub last_cut : (b : Bool) (o : List ℕ) (s : ℕ) → IsFed b o s (length o) → to_text b o ≡ to_text b (take s o) ++ drop s o
last_cut b o s fed =
    let whole : take (length o) o ≡ o = take_all (length o) o (omega arith) in
    sym (ap (λ (x : List ℕ). to_text b x) whole) ∙ fed ∙ ap (λ (x : List ℕ). to_text b (take s o) ++ drop s x) whole

-- ---- how long a text is
pub text_most : (b : Bool) (o : List ℕ) (n : ℕ) → length (to_text b (take n o)) ≤ length (to_text b o)
text_most b o n =
    let whole : to_text b o ≡ to_text b (take n o) ++ to_text (ends_cr b (take n o)) (drop n o) =
    ap (λ (x : List ℕ). to_text b x) (sym (take-append-drop n o)) ∙ text_append b (take n o) (drop n o) in
    omega (arith, ap (λ (x : List ℕ). length x) whole, length-append (to_text b (take n o)) (to_text (ends_cr b (take n o)) (drop n o)))

pub line_length : (b : Bool) (o : List ℕ) (s e : ℕ) → s ≤ e → e < length o
    → to_text b (take (e + 1) o) ≡ (to_text b (take s o) ++ take (e - s) (drop s o)) ++ (13 ∷ 10 ∷ [])
    → length (to_text b (take (e + 1) o)) ≡ (length (to_text b (take s o)) + (e - s)) + 2
line_length b o s e w h line =
    let size : length (take (e - s) (drop s o)) ≡ e - s = length-take-le (e - s) (drop s o) (omega (arith, length-drop s o)) in
    ap (λ (x : List ℕ). length x) line
    ∙ length-append (to_text b (take s o) ++ take (e - s) (drop s o)) (13 ∷ 10 ∷ [])
    ∙ ap (λ (n : ℕ). n + 2) (length-append (to_text b (take s o)) (take (e - s) (drop s o)) ∙ ap (λ (n : ℕ). length (to_text b (take s o)) + n) size)

pub last_length : (b : Bool) (o : List ℕ) (s : ℕ) → to_text b o ≡ to_text b (take s o) ++ drop s o
    → length (to_text b o) ≡ length (to_text b (take s o)) + (length o - s)
last_length b o s all =
    ap (λ (x : List ℕ). length x) all ∙ length-append (to_text b (take s o)) (drop s o)
    ∙ ap (λ (n : ℕ). length (to_text b (take s o)) + n) (length-drop s o)
