use Rattle.std.proofs.Common.{◌≡◌, ◌∙◌, sym, ap, true, false, nat_eq, List, ℕ, ◌+◌, ◌-◌, ◌++◌, length, take, drop}
use Rattle.std.proofs.lemmas.List.{take_rest}
use Rattle.std.specs.List.{starts_with}
use Rattle.opgp_armor.specs.Text.{begin_mark}
use Rattle.opgp_armor.proofs.Keeping.{keeps_passing, keeps_beginning}
use Rattle.opgp_armor.proofs.reader.keep_outside.Goals as goal

pub returns-in_ok-fill-clause-kept : goal.returns-in_ok-fill-clause-kept
returns-in_ok-fill-clause-kept c = λ tail is.
    let b : List ℕ = c.args.buffer.now.items in
    let part : List ℕ = c.args.part.now in
    let added : c.fill.new.buffer.items ≡ b ++ take (15 - length b) part = c.in_ok-count.ensures.added in
    let text : c.as_slice.result.now ≡ b ++ take (15 - length b) part = c.as_slice.ensures.value ∙ added in
    let test : starts_with nat_eq (b ++ take (15 - length b) part) begin_mark ≡ true =
    ap (λ (v : List ℕ). starts_with nat_eq v begin_mark) (sym text) ∙ ap (λ (v : List ℕ). starts_with nat_eq c.as_slice.result.now v) (sym c.as_slice-2.ensures) ∙ sym c.starts_with.ensures.value ∙ c.if-starts_with.true in
    let n : ℕ = c.in_ok-count.count in
    let last = c.in_ok-fill.ensures.added in
    last
    ∙ ap (λ (v : List ℕ). v ++ take (c.args.limit + 1 - length v) (take (length part - n) (drop n part))) added
    ∙ keeps_beginning c.args.limit n tail part b (take (length part - n) (drop n part)) c.requires.low is test c.in_ok-count.ensures.count.0 c.in_ok-count.ensures.count.1 (take_rest part n)

pub returns-else-starts_with-clause-kept : goal.returns-else-starts_with-clause-kept
returns-else-starts_with-clause-kept c = λ tail is.
    let b : List ℕ = c.args.buffer.now.items in
    let part : List ℕ = c.args.part.now in
    let added : c.fill.new.buffer.items ≡ b ++ take (15 - length b) part = c.in_ok-count.ensures.added in
    let text : c.as_slice.result.now ≡ b ++ take (15 - length b) part = c.as_slice.ensures.value ∙ added in
    let test : starts_with nat_eq (b ++ take (15 - length b) part) begin_mark ≡ false =
    ap (λ (v : List ℕ). starts_with nat_eq v begin_mark) (sym text) ∙ ap (λ (v : List ℕ). starts_with nat_eq c.as_slice.result.now v) (sym c.as_slice-2.ensures) ∙ sym c.starts_with.ensures.value ∙ c.if-starts_with.false in
    added ∙ keeps_passing c.args.limit tail part b c.requires.low is test
