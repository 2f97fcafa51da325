-- Data lines, row by row.
use Rattle.std.proofs.Common.{◌≡◌, ◌∙◌, ℕ, zero, suc, ◌*◌, ◌/◌, ◌%◌, ◌<◌, ◌≤◌, List, [], ◌∷◌, ◌++◌, length, take, drop, refl, sym, ap, arith}
use Rattle.std.proofs.lemmas.List.{append_assoc, append-nil, length-append, length-take-le, length-drop, nil_from_length, take_all, drop_all, take_at, drop_at, take-append-drop}
use Rattle.opgp_armor.specs.Letters.{base64_of}
use Rattle.opgp_armor.specs.Written.{text_of, letter_lines, data_lines}
use Rattle.opgp_armor.proofs.Standard.{base64_of-nil}
use Rattle.opgp_armor.proofs.WrittenLines.{letter_lines-nil, row_more}

pub no_lines : data_lines [] ≡ []
no_lines = ap (λ (v : List ℕ). text_of (letter_lines v)) base64_of-nil ∙ ap text_of letter_lines-nil

first_line : (o : List ℕ) → 0 < length o → data_lines o ≡ (base64_of (take 48 o) ++ 10 ∷ []) ++ data_lines (drop 48 o)
first_line o some = row_more (base64_of (take 48 o) ++ 10 ∷ []) [] o some refl

pub one_line : (row : List ℕ) → 0 < length row → length row ≤ 48 → data_lines row ≡ base64_of row ++ 10 ∷ []
one_line row some short =
    first_line row some
    ∙ ap (λ (v : List ℕ). (base64_of v ++ 10 ∷ []) ++ data_lines (drop 48 row)) (take_all 48 row short)
    ∙ ap (λ (v : List ℕ). (base64_of row ++ 10 ∷ []) ++ data_lines v) (drop_all 48 row short)
    ∙ ap (λ (v : List ℕ). (base64_of row ++ 10 ∷ []) ++ v) no_lines
    ∙ append-nil (base64_of row ++ 10 ∷ [])

row_first : (row more : List ℕ) → length row ≡ 48 → data_lines (row ++ more) ≡ data_lines row ++ data_lines more
row_first row more size =
    first_line (row ++ more) (omega (arith, length-append row more))
    ∙ ap (λ (v : List ℕ). (base64_of v ++ 10 ∷ []) ++ data_lines (drop 48 (row ++ more))) (take_at row more 48 size)
    ∙ ap (λ (v : List ℕ). (base64_of row ++ 10 ∷ []) ++ data_lines v) (drop_at row more 48 size)
    ∙ ap (λ (v : List ℕ). v ++ data_lines more) (sym (one_line row (omega arith) (omega arith)))

rows_by : (k : ℕ) (rows more : List ℕ) → length rows ≡ 48 * k → data_lines (rows ++ more) ≡ data_lines rows ++ data_lines more
rows_by zero rows more size =
    let none : rows ≡ [] = nil_from_length rows (omega arith) in
    ap (λ (v : List ℕ). data_lines (v ++ more)) none ∙ ap (λ (v : List ℕ). v ++ data_lines more) (sym no_lines)
    ∙ ap (λ (v : List ℕ). data_lines v ++ data_lines more) (sym none)
rows_by (suc k) rows more size =
    let row : List ℕ = take 48 rows in
    let rest : List ℕ = drop 48 rows in
    let whole : rows ≡ row ++ rest = sym (take-append-drop 48 rows) in
    let full : length row ≡ 48 = length-take-le 48 rows (omega arith) in
    let left : length rest ≡ 48 * k = omega (arith, length-drop 48 rows) in
    ap (λ (v : List ℕ). data_lines (v ++ more)) whole ∙ ap data_lines (append_assoc row rest more) ∙ row_first row (rest ++ more) full
    ∙ ap (λ (v : List ℕ). data_lines row ++ v) (rows_by k rest more left) ∙ sym (append_assoc (data_lines row) (data_lines rest) (data_lines more))
    ∙ ap (λ (v : List ℕ). v ++ data_lines more) (sym (row_first row rest full)) ∙ ap (λ (v : List ℕ). data_lines v ++ data_lines more) (sym whole)

pub rows_join : (rows more : List ℕ) → length rows % 48 ≡ 0 → data_lines (rows ++ more) ≡ data_lines rows ++ data_lines more
rows_join rows more whole = rows_by (length rows / 48) rows more (omega arith)
