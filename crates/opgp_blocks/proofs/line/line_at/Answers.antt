use Rattle.std.proofs.Common.{◌-◌, ◌+◌, ◌∙◌, ℕ, List, length, take, drop, refl, sym, arith, true≢false}
use Rattle.std.proofs.lemmas.List.{take_rest}
use Rattle.std.proofs.lemmas.Bool.{eqb-true, eq-eqb}
use Rattle.opgp_blocks.proofs.Lines.{line_found, none_found, rest_found, showing}
use Rattle.opgp_blocks.proofs.line.line_at.Goals as goal

pub returns-in-Some-clause-some : goal.returns-in-Some-clause-some
returns-in-Some-clause-some c =
    let t : List ℕ = c.args.text.now in
    let a : ℕ = c.args.at in
    let h = c.in-Some.ensures in
    showing t a (a + c.in-Some.size + 1) c.shown.result.next _ _ c.shown.ensures.value c.shown.ensures.next
    (line_found t (take (length t - a) (drop a t)) a c.in-Some.size (take_rest t a) h.0.high (λ k l e. h.0.before k (omega arith) l e) h.1)

pub returns-then-is_empty-clause-none : goal.returns-then-is_empty-clause-none
returns-then-is_empty-clause-none c =
    let t : List ℕ = c.args.text.now in
    let a : ℕ = c.args.at in
    let o : List ℕ = take (length t - a) (drop a t) in
    none_found t o a (take_rest t a) (eqb-true (length o) 0 (sym c.is_empty.ensures ∙ c.if-is_empty.true))

pub returns-else-is_empty-clause-some : goal.returns-else-is_empty-clause-some
returns-else-is_empty-clause-some c =
    let t : List ℕ = c.args.text.now in
    let a : ℕ = c.args.at in
    let o : List ℕ = take (length t - a) (drop a t) in
    showing t a (length t) c.shown-else-is_empty.result.next _ _ c.shown-else-is_empty.ensures.value c.shown-else-is_empty.ensures.next
    (rest_found t o a (length t) (take_rest t a) refl
    (λ z. true≢false (sym (eq-eqb (length o) 0 z) ∙ sym c.is_empty.ensures ∙ c.if-is_empty.false))
    (λ k l e. c.in-None.ensures k (omega arith) l e))
