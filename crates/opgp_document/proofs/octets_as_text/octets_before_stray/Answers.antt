use Rattle.std.proofs.Common.{sym, ◌∙◌, arith, eqb-true, slice_index}
use Rattle.std.proofs.lemmas.Bool.{eq-eqb}
use Rattle.opgp_document.proofs.Places.{front_till, stray_till, stray_none}
use Rattle.opgp_document.proofs.octets_as_text.octets_before_stray.Goals as goal

pub returns-then-is_other-2 : goal.returns-then-is_other-2
returns-then-is_other-2 c =
    let o = c.args.octets.now in
    let p = c.in-Some.place in
    let h = c.in-Some.ensures in
    let yes = c.is_other-in-Some.ensures.yes c.if-is_other-2.true in
    let front = front_till o c.returns.from p h.0.low h.0.high (λ k l u e. h.0.before k l u (eq-eqb (slice_index o k) 13 e)) (eqb-true (slice_index o p) 13 h.1) in (
      sym c.returns.invariant.left
          ∙ stray_till o c.returns.from p h.0.low h.0.high (λ k l u e. h.0.before k l u (eq-eqb (slice_index o k) 13 e)) (eqb-true (slice_index o p) 13 h.1)
          ∙ yes.0,
      omega (arith, front, yes.1, c.returns.invariant.front),
    )

pub returns-preserved : goal.returns-preserved
returns-preserved c =
    let o = c.args.octets.now in
    let p = c.in-Some.place in
    let h = c.in-Some.ensures in
    let no = c.is_other-in-Some.ensures.no c.if-is_other-2.false in
    let front = front_till o c.returns.from p h.0.low h.0.high (λ k l u e. h.0.before k l u (eq-eqb (slice_index o k) 13 e)) (eqb-true (slice_index o p) 13 h.1) in
    record {
      within = omega (arith, h.0.high);
      left = sym (sym c.returns.invariant.left
          ∙ stray_till o c.returns.from p h.0.low h.0.high (λ k l u e. h.0.before k l u (eq-eqb (slice_index o k) 13 e)) (eqb-true (slice_index o p) 13 h.1)
          ∙ no.0);
      front = omega (arith, front, no.1, c.returns.invariant.front);
    }

pub returns : goal.returns
returns c =
    let o = c.args.octets.now in
    sym c.returns.invariant.left ∙ stray_none o c.returns.from (λ k l u e. c.in_default.ensures k l u (eq-eqb (slice_index o k) 13 e))
