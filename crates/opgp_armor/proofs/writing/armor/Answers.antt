use Rattle.std.proofs.Common.{◌≡◌, ◌∙◌, ℕ, List, [], ◌∷◌, ◌++◌, arith, sym, ap, subst, map}
use Rattle.opgp_armor.specs.Armored.{Armored}
use Rattle.opgp_armor.specs.Blocks.{headers_of}
use Rattle.opgp_armor.specs.Letters.{base64_of}
use Rattle.opgp_armor.specs.Text.{Line, begin_line, end_line}
use Rattle.opgp_armor.specs.Written.{header_line, letter_lines, text_of}
use Rattle.opgp_armor.proofs.WrittenLines.{assembled, written_armored}
use Rattle.opgp_armor.proofs.writing.armor.Goals as goal

pub returns-clause-text : goal.returns-clause-text
returns-clause-text c =
    let hs : List Line = map header_line (headers_of c.args.headers.now) in
    let b : Line = begin_line c.args.label in
    let e : Line = end_line c.args.label in
    let empty : c.new-text.result.items ≡ [] = c.new-text.ensures.items in
    let t0 : c.reserve_exact.new.self.items ≡ [] = c.in_ok-reserve_exact.ensures.items ∙ empty in
    let t1 : c.add_line.new.text.items ≡ [] ++ (b ++ 10 ∷ []) =
    c.in_ok-add_line.ensures ∙ ap (λ (v : List ℕ). v ++ (c.begin_line.result.now ++ 10 ∷ [])) t0 ∙ ap (λ (v : List ℕ). [] ++ (v ++ 10 ∷ [])) c.begin_line.ensures in
    let t2 : c.add_headers.new.text.items ≡ ([] ++ (b ++ 10 ∷ [])) ++ text_of hs = c.in_ok-add_headers.ensures ∙ ap (λ (v : List ℕ). v ++ text_of hs) t1 in
    let t3 : c.add_line-2.new.text.items ≡ (([] ++ (b ++ 10 ∷ [])) ++ text_of hs) ++ ([] ++ 10 ∷ []) = c.in_ok-add_line-2.ensures ∙ ap (λ (v : List ℕ). v ++ ([] ++ 10 ∷ [])) t2 in
    let t4 : c.add_letters.new.text.items ≡ ((([] ++ (b ++ 10 ∷ [])) ++ text_of hs) ++ ([] ++ 10 ∷ [])) ++ text_of (letter_lines (base64_of c.args.octets.now)) =
    c.in_ok-add_letters.ensures ∙ ap (λ (v : List ℕ). v ++ text_of (letter_lines (base64_of c.args.octets.now))) t3 in
    let t5 : c.add_line-3.new.text.items ≡ (((([] ++ (b ++ 10 ∷ [])) ++ text_of hs) ++ ([] ++ 10 ∷ [])) ++ text_of (letter_lines (base64_of c.args.octets.now))) ++ (e ++ 10 ∷ []) =
    c.in_ok-add_line-3.ensures ∙ ap (λ (v : List ℕ). c.add_letters.new.text.items ++ (v ++ 10 ∷ [])) c.end_line.ensures ∙ ap (λ (v : List ℕ). v ++ (e ++ 10 ∷ [])) t4 in
    t5 ∙ assembled b e hs (letter_lines (base64_of c.args.octets.now))

pub returns-clause-block : goal.returns-clause-block
returns-clause-block c = λ rule large within.
    subst (λ (v : List ℕ). Armored rule v (record { label = c.args.label; headers = headers_of c.args.headers.now; octets = c.args.octets.now } ∷ [])) (sym (returns-clause-text c))
    (written_armored rule c.args.label (headers_of c.args.headers.now) c.args.octets.now large (λ i. omega (arith, c.type_inv.octets i)) c.requires within)
