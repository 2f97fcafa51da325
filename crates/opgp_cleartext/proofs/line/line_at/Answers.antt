use Rattle.std.proofs.Common.{◌-◌, ◌∙◌, inl, ℕ, List, length, take, drop, refl, sym, arith, true≢false}
use Rattle.std.proofs.lemmas.List.{length-take-le, take_rest}
use Rattle.std.proofs.lemmas.Bool.{eqb-true, eq-eqb}
use Rattle.opgp_cleartext.proofs.Cutting.{line_found, none_found, octets_found, rest_found}
use Rattle.opgp_cleartext.proofs.line.line_at.Goals as goal

pub returns-in-Some-clause-some : goal.returns-in-Some-clause-some
returns-in-Some-clause-some c =
    let t : List ℕ = c.args.text.now in
    let a : ℕ = c.args.at in
    let h = c.in-Some.ensures in
    line_found t (take (length t - a) (drop a t)) a c.in-Some.size (take_rest t a) h.0.high (λ k l e. h.0.before k (omega arith) l e) h.1

pub returns-then-is_empty-clause-none : goal.returns-then-is_empty-clause-none
returns-then-is_empty-clause-none c =
    let t : List ℕ = c.args.text.now in
    let a : ℕ = c.args.at in
    let o : List ℕ = take (length t - a) (drop a t) in
    none_found t o a (take_rest t a) (eqb-true (length o) 0 (sym c.is_empty.ensures ∙ c.if-is_empty.true))

pub returns-else-is_empty-clause-some : goal.returns-else-is_empty-clause-some
returns-else-is_empty-clause-some c =
    let t : List ℕ = c.args.text.now in
    let a : ℕ = c.args.at in
    let o : List ℕ = take (length t - a) (drop a t) in
    rest_found t o a (length t) (take_rest t a) refl
    (λ z. true≢false (sym (eq-eqb (length o) 0 z) ∙ sym c.is_empty.ensures ∙ c.if-is_empty.false))
    (λ k l e. c.in-None.ensures k (omega arith) l e)

pub returns-in-Some-clause-ended : goal.returns-in-Some-clause-ended
returns-in-Some-clause-ended c =
    let t : List ℕ = c.args.text.now in
    let a : ℕ = c.args.at in
    let h = c.in-Some.ensures in
    let size = length-take-le c.in-Some.size (take (length t - a) (drop a t)) (omega (arith, h.0.high)) in
    inl (omega (arith, size), octets_found t (take (length t - a) (drop a t)) a c.in-Some.size (take_rest t a) h.0.high h.1)
