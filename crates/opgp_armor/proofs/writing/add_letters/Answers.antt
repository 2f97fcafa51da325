use Rattle.std.proofs.Common.{◌≡◌, ◌∙◌, ℕ, List, [], ◌∷◌, ◌++◌, sym, ap, arith, length, take, drop, min}
use Rattle.std.proofs.lemmas.List.{append-nil, take_min, drop_min, nil_from_length}
use Rattle.opgp_armor.specs.Letters.{base64_of}
use Rattle.opgp_armor.specs.Written.{letter_lines, text_of}
use Rattle.opgp_armor.proofs.Standard.{base64_of-nil}
use Rattle.opgp_armor.proofs.WrittenLines.{letter_lines-nil, row_more}
use Rattle.opgp_armor.proofs.writing.add_letters.Goals as goal

pub rows-preserved : goal.rows-preserved
rows-preserved c =
    let rest : List ℕ = c.rows.rest.now in
    let n : c.min.result ≡ min 48 (length rest) = omega (arith, c.min.ensures) in
    let front : c.split_at.result.0.now ≡ take 48 rest = c.split_at.ensures.front ∙ ap (λ (v : ℕ). take v rest) n ∙ take_min 48 rest in
    let after : c.split_at.result.1.now ≡ drop 48 rest = c.split_at.ensures.back ∙ ap (λ (v : ℕ). drop v rest) n ∙ drop_min 48 rest in
    let added : c.add_line.new.text.items ≡ c.rows.text.items ++ (base64_of (take 48 rest) ++ 10 ∷ []) =
    c.in_ok-add_line.ensures ∙ ap (λ (v : List ℕ). c.rows.text.items ++ (v ++ 10 ∷ [])) (c.encode_row-count.ensures.letters ∙ ap base64_of front) in
    ap (λ (v : List ℕ). c.add_line.new.text.items ++ text_of (letter_lines (base64_of v))) after
    ∙ sym (row_more c.add_line.new.text.items c.rows.text.items rest c.rows-test.true added) ∙ c.rows.invariant

pub returns : goal.returns
returns c =
    let none : c.rows.rest.now ≡ [] = nil_from_length c.rows.rest.now (omega arith) in
    sym (append-nil c.rows.text.items) ∙ ap (λ v. c.rows.text.items ++ text_of v) (sym letter_lines-nil)
    ∙ ap (λ (v : List ℕ). c.rows.text.items ++ text_of (letter_lines v)) (sym base64_of-nil)
    ∙ ap (λ (v : List ℕ). c.rows.text.items ++ text_of (letter_lines (base64_of v))) (sym none) ∙ c.rows.invariant
