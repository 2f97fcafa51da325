-- The lines of a file that names keys.
use Rattle.std.proofs.Common.{◌≡◌, ◌∙◌, ℕ, zero, suc, ◌+◌, ◌-◌, ◌<◌, ◌≤◌, Bool, true, false, cond, not, List, [], ◌∷◌, ◌++◌, length, take, drop, filter, Option, Some, None, slice_get, refl, sym, ap, subst, append-nil, arith, length-append, append_assoc}
use Rattle.std.specs.List.{AllZip, onto_first, position_or_len}
use Rattle.std.proofs.lemmas.List.{take_rest}
use Rattle.std.proofs.lemmas.List.Elements.{filter-append}
use Rattle.opgp_stack.specs.KeyFile.{IsKeyLine, NameKeys, NameNoneAt, is_comment, is_line_end, lines_behind, lines_in, names_key, trimmed}
use Rattle.opgp_stack.specs.KeyText.{IsKeyText}
use Rattle.opgp_stack.specs.declared.key_name.KeyName.{KeyName}
use Rattle.opgp_stack.proofs.Zips.{zip_push}

-- ---- the first line
more_line : (c : ℕ) (rest line : List ℕ) (more : List (List ℕ)) → is_line_end c ≡ false → lines_in rest ≡ line ∷ more → lines_in (c ∷ rest) ≡ (c ∷ line) ∷ more
more_line c rest line more e h = ap (λ (b : Bool). cond b ([] ∷ lines_in rest) (onto_first c (lines_in rest))) e ∙ ap (onto_first c) h

no_line : (c : ℕ) (rest : List ℕ) → is_line_end c ≡ true → lines_in (c ∷ rest) ≡ [] ∷ lines_in rest
no_line c rest e = ap (λ (b : Bool). cond b ([] ∷ lines_in rest) (onto_first c (lines_in rest))) e

no_end_step : (c : ℕ) (rest : List ℕ) → (length rest ≤ position_or_len is_line_end rest → lines_in rest ≡ rest ∷ []) → (is : Bool) → is_line_end c ≡ is
    → length (c ∷ rest) ≤ cond (not is) (1 + position_or_len is_line_end rest) 0 → lines_in (c ∷ rest) ≡ (c ∷ rest) ∷ []
no_end_step c rest later true e past = absurd (omega (arith, past))
no_end_step c rest later false e past = more_line c rest rest [] e (later (omega (arith, past)))

no_end : (octets : List ℕ) → length octets ≤ position_or_len is_line_end octets → lines_in octets ≡ octets ∷ []
no_end [] h = refl
no_end (c ∷ rest) h = no_end_step c rest (no_end rest) (is_line_end c) refl h

at_end_step : (c : ℕ) (rest : List ℕ) → ((n : ℕ) → n ≡ position_or_len is_line_end rest → n < length rest → lines_in rest ≡ take n rest ∷ lines_in (drop (n + 1) rest)) → (is : Bool) (m : ℕ) → is_line_end c ≡ is
    → m ≡ cond (not is) (1 + position_or_len is_line_end rest) 0 → m < length (c ∷ rest) → lines_in (c ∷ rest) ≡ take m (c ∷ rest) ∷ lines_in (drop (m + 1) (c ∷ rest))
at_end_step c rest later true zero is e h = no_line c rest is
at_end_step c rest later true (suc m) is e h = absurd (omega (arith, e))
at_end_step c rest later false zero is e h = absurd (omega (arith, e))
at_end_step c rest later false (suc m) is e h =
    let next : suc (m + 1) ≡ suc m + 1 = omega arith in
    more_line c rest (take m rest) (lines_in (drop (m + 1) rest)) is (later m (omega (arith, e)) (omega (arith, h))) ∙ ap (λ (k : ℕ). (c ∷ take m rest) ∷ lines_in (drop k (c ∷ rest))) next

at_end : (octets : List ℕ) (n : ℕ) → n ≡ position_or_len is_line_end octets → n < length octets → lines_in octets ≡ take n octets ∷ lines_in (drop (n + 1) octets)
at_end [] n e h = absurd (omega arith)
at_end (c ∷ rest) n e h = at_end_step c rest (at_end rest) (is_line_end c) n refl e h

pub whole_line : (octets : List ℕ) (n : ℕ) → n ≡ position_or_len is_line_end octets → length octets ≤ n → lines_in octets ≡ octets ∷ lines_behind None
whole_line octets n e h = no_end octets (omega (arith, e, h))

pub cut_line : (octets : List ℕ) (n : ℕ) → n ≡ position_or_len is_line_end octets → n < length octets
    → lines_in octets ≡ take n octets ∷ lines_in (take (length octets - (n + 1)) (drop (n + 1) octets))
cut_line octets n e h = at_end octets n e h ∙ ap (λ (r : List ℕ). take n octets ∷ lines_in r) (sym (take_rest octets (n + 1)))

-- ---- a line more
line_alone : (line : List ℕ) (b : Bool) → names_key line ≡ b → filter names_key (line ∷ []) ≡ cond b (line ∷ []) []
line_alone line true e = rw e refl
line_alone line false e = rw e refl

pub comment_more : (lines : List (List ℕ)) (line text : List ℕ) (keys : List KeyName) → text ≡ trimmed line → is_comment text ≡ true → NameKeys lines keys → NameKeys (lines ++ line ∷ []) keys
comment_more lines line text keys e comment h =
    let none : names_key line ≡ false = ap (λ (b : Bool). not b) (ap is_comment (sym e) ∙ comment) in
    let same : filter names_key (lines ++ line ∷ []) ≡ filter names_key lines = filter-append names_key lines (line ∷ []) ∙ ap (λ (l : List (List ℕ)). filter names_key lines ++ l) (line_alone line false none) ∙ append-nil (filter names_key lines) in
    subst (λ (ls : List (List ℕ)). AllZip IsKeyLine ls keys) (sym same) h

pub key_more : (lines : List (List ℕ)) (line text : List ℕ) (keys new : List KeyName) (key : KeyName) → text ≡ trimmed line → is_comment text ≡ false → IsKeyText text key → new ≡ keys ++ key ∷ [] → NameKeys lines keys → NameKeys (lines ++ line ∷ []) new
key_more lines line text keys new key e named said is h =
    let some : names_key line ≡ true = ap (λ (b : Bool). not b) (ap is_comment (sym e) ∙ named) in
    let same : filter names_key (lines ++ line ∷ []) ≡ filter names_key lines ++ line ∷ [] = filter-append names_key lines (line ∷ []) ∙ ap (λ (l : List (List ℕ)). filter names_key lines ++ l) (line_alone line true some) in
    let here : IsKeyLine line key = subst (λ (t : List ℕ). IsKeyText t key) e said in
    subst (λ (ks : List KeyName). NameKeys (lines ++ line ∷ []) ks) (sym is)
    (subst (λ (ls : List (List ℕ)). AllZip IsKeyLine ls (keys ++ key ∷ [])) (sym same) (zip_push IsKeyLine (filter names_key lines) keys line key h here))

pub none_here : (line text : List ℕ) → text ≡ trimmed line → is_comment text ≡ false → ((key : KeyName) → IsKeyText text key → ⊥) → (names_key line ≡ true) × ((key : KeyName) → IsKeyLine line key → ⊥)
none_here line text e named none =
    (ap (λ (b : Bool). not b) (ap is_comment (sym e) ∙ named), λ key said. none key (subst (λ (t : List ℕ). IsKeyText t key) (sym e) said))

-- ---- the lines that were read, and those that are to come
get_at : (xs : List (List ℕ)) (x : List ℕ) (ys : List (List ℕ)) → slice_get (xs ++ x ∷ ys) (length xs) ≡ Some x
get_at [] x ys = refl
get_at (w ∷ xs) x ys = get_at xs x ys

take_front : (xs ys : List (List ℕ)) → take (length xs) (xs ++ ys) ≡ xs
take_front [] ys = refl
take_front (x ∷ xs) ys = ap (λ (l : List (List ℕ)). x ∷ l) (take_front xs ys)

pub record SoFar (file : List ℕ) (left : Option (List ℕ)) (line : ℕ) (keys : List KeyName) : Type 0 where
  pub above : List (List ℕ)
  pub number : line ≡ length above + 1
  pub all : lines_in file ≡ above ++ lines_behind left
  pub named : NameKeys above keys

pub at_first : (file : List ℕ) → SoFar file (Some file) 1 []
at_first file = record { above = []; number = refl; all = refl; named = tt }

pub one_more : (file octets first : List ℕ) (left : Option (List ℕ)) (line next : ℕ) (keys new : List KeyName) → next ≡ line + 1 → lines_in octets ≡ first ∷ lines_behind left
    → ((lines : List (List ℕ)) → NameKeys lines keys → NameKeys (lines ++ first ∷ []) new) → SoFar file (Some octets) line keys → SoFar file left next new
one_more file octets first left line next keys new counts lines adds h = record {
  above = h.above ++ first ∷ [];
  number = counts ∙ ap (λ (n : ℕ). n + 1) h.number ∙ omega (arith, length-append h.above (first ∷ []));
  all = h.all ∙ ap (λ (l : List (List ℕ)). h.above ++ l) lines ∙ sym (append_assoc h.above (first ∷ []) (lines_behind left));
  named = adds h.above h.named;
}

pub none_at : (file octets first : List ℕ) (left : Option (List ℕ)) (line : ℕ) (keys : List KeyName) → lines_in octets ≡ first ∷ lines_behind left
    → (names_key first ≡ true) × ((key : KeyName) → IsKeyLine first key → ⊥) → SoFar file (Some octets) line keys → (above : ℕ) × (line ≡ above + 1) × NameNoneAt (lines_in file) above
none_at file octets first left line keys lines bad h =
    let all : lines_in file ≡ h.above ++ first ∷ lines_behind left = h.all ∙ ap (λ (l : List (List ℕ)). h.above ++ l) lines in (
      length h.above,
      h.number,
      record {
        keys = keys;
        above = subst (λ (ls : List (List ℕ)). NameKeys ls keys) (sym (ap (take (length h.above)) all ∙ take_front h.above (first ∷ lines_behind left))) h.named;
        line = first;
        is = ap (λ (l : List (List ℕ)). slice_get l (length h.above)) all ∙ get_at h.above first (lines_behind left);
        names = bad.0;
        none = bad.1;
      },
    )

pub all_named : (file : List ℕ) (line : ℕ) (keys : List KeyName) → SoFar file None line keys → NameKeys (lines_in file) keys
all_named file line keys h = subst (λ (ls : List (List ℕ)). NameKeys ls keys) (sym (h.all ∙ append-nil h.above)) h.named
