use Rattle.std.proofs.Common.{◌∙◌, Ok, sym, ap, arith}
use Rattle.opgp_cleartext.specs.Faults.{Headers, InFront}
use Rattle.opgp_octets.specs.declared.fault.Reason.TheVariants as reason
use Rattle.opgp_cleartext.specs.Machine.{turn}
use Rattle.opgp_cleartext.proofs.Walking.{advance, end, refuse, refuse_long, told}
use Rattle.opgp_cleartext.proofs.reading.headers_at.Goals as goal

pub returns-then-line-most-clause-err : goal.returns-then-line-most-clause-err
returns-then-line-most-clause-err c =
    let e = c.fault_at.ensures in
    told _ c.fault_at.result reason.LineTooLong c.lines.at e.layer e.others e.reason e.place
    (c.lines.invariant.left ∙ refuse_long c.args.most c.args.text.now InFront c.lines.at c.in-Some.next c.in-Some.line.now c.in-Some.ensures.some (omega (arith, c.if-line-most.true)))

pub returns-in-Ok-true-clause-ok : goal.returns-in-Ok-true-clause-ok
returns-in-Ok-true-clause-ok c =
    c.lines.invariant.left
    ∙ advance c.args.most c.args.text.now InFront Headers c.lines.at c.in-Some.next c.in-Some.line.now c.in-Some.ensures.some c.in-Some.ensures.ended (omega (arith, c.if-line-most.false))
    (ap (turn Headers InFront) (sym c.ends_front.ensures ∙ c.in-Ok-true.is ∙ ap Ok c.in-Ok-true.field-0-test))

pub lines-preserved : goal.lines-preserved
lines-preserved c = record {
  within = c.in-Some.ensures.within.1;
  left =
      c.lines.invariant.left
      ∙ advance c.args.most c.args.text.now InFront InFront c.lines.at c.in-Some.next c.in-Some.line.now c.in-Some.ensures.some c.in-Some.ensures.ended (omega (arith, c.if-line-most.false))
      (ap (turn Headers InFront) (sym c.ends_front.ensures ∙ c.in-Ok-false.is ∙ ap Ok c.in-Ok-false.field-0-test));
}

pub returns-in-Err-clause-err : goal.returns-in-Err-clause-err
returns-in-Err-clause-err c =
    let e = c.fault_at-in-Err.ensures in
    told _ c.fault_at-in-Err.result c.in-Err.why c.lines.at e.layer e.others e.reason e.place
    (c.lines.invariant.left ∙ refuse c.args.most c.args.text.now InFront c.in-Err.why c.lines.at c.in-Some.next c.in-Some.line.now c.in-Some.ensures.some (omega (arith, c.if-line-most.false))
    (ap (turn Headers InFront) (sym c.ends_front.ensures ∙ c.in-Err.is)))

pub returns-clause-err : goal.returns-clause-err
returns-clause-err c =
    let e = c.fault_at-2.ensures in
    told _ c.fault_at-2.result _ _ e.layer e.others e.reason e.place
    (c.lines.invariant.left ∙ end c.args.most c.args.text.now InFront c.lines.at c.in_default.ensures.none)
