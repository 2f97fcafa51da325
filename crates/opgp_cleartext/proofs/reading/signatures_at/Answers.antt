use Rattle.std.proofs.Common.{◌∙◌, ◌++◌, ◌∷◌, ℕ, List, [], Ok, sym, ap, map, arith}
use Rattle.opgp_octets.specs.declared.fault.Reason.TheVariants as reason
use Rattle.opgp_cleartext.specs.Faults.{Text}
use Rattle.opgp_cleartext.specs.Line.{shown_of}
use Rattle.opgp_cleartext.specs.Machine.{closing, text_turn}
use Rattle.opgp_cleartext.proofs.Passing.{passed_lines, passed_more, passed_none, passed_nothing, passed_some}
use Rattle.opgp_cleartext.proofs.Walking.{advance, end, finish, refuse, refuse_long, told}
use Rattle.opgp_cleartext.proofs.reading.signatures_at.Goals as goal

pub lines-init : goal.lines-init
lines-init c = record {
  behind = omega arith;
  within = c.requires;
  passed = passed_none c.args.most c.args.text.now c.args.start;
}

pub returns-then-line-most-clause-err : goal.returns-then-line-most-clause-err
returns-then-line-most-clause-err c =
    let e = c.fault_at.ensures in
    let p = c.lines.invariant.passed in
    told _ c.fault_at.result reason.LineTooLong c.lines.at e.layer e.others e.reason e.place
    (p.left ∙ refuse_long c.args.most c.args.text.now (Text (map shown_of p.passed)) c.lines.at c.in-Some.next c.in-Some.line.now c.in-Some.ensures.some (omega (arith, c.if-line-most.true)))

pub returns-in-Ok-true-clause-err : goal.returns-in-Ok-true-clause-err
returns-in-Ok-true-clause-err c =
    let e = c.fault_at-in-Ok-true.ensures in
    let p = c.lines.invariant.passed in
    let l : List ℕ = c.in-Some.line.now in
    let none = passed_nothing c.args.most c.args.text.now c.args.start c.lines.at p (omega (arith, c.in-Some.ensures.within)) (omega (arith, c.if-at-start.true)) in
    told _ c.fault_at-in-Ok-true.result reason.NoText c.lines.at e.layer e.others e.reason e.place
    (p.left ∙ refuse c.args.most c.args.text.now (Text (map shown_of p.passed)) reason.NoText c.lines.at c.in-Some.next l c.in-Some.ensures.some (omega (arith, c.if-line-most.false))
    (ap (text_turn (map shown_of p.passed) l) (sym c.ends_text.ensures ∙ c.in-Ok-true.is ∙ ap Ok c.in-Ok-true.field-0-test) ∙ ap closing none))

pub returns-in-Ok-true-2-clause-ok : goal.returns-in-Ok-true-2-clause-ok
returns-in-Ok-true-2-clause-ok c =
    let p = c.lines.invariant.passed in
    let l : List ℕ = c.in-Some.line.now in
    let t : List ℕ = c.args.text.now in
    let a : ℕ = c.lines.at in
    let some = passed_some c.args.most t c.args.start a p (omega (arith, c.in-Some.ensures.within)) c.lines.invariant.behind (λ z. c.if-at-start.false z) in
    p.left ∙ finish c.args.most t (Text (map shown_of p.passed)) (map shown_of p.passed) a c.in-Some.next l c.in-Some.ensures.some (omega (arith, c.if-line-most.false))
    (ap (text_turn (map shown_of p.passed) l) (sym c.ends_text.ensures ∙ c.in-Ok-true.is ∙ ap Ok c.in-Ok-true.field-0-test) ∙ some)
    ∙ ap (λ (d : List (List ℕ)). Ok (d, a)) (passed_lines c.args.most t c.args.start a p (omega (arith, c.in-Some.ensures.within)) c.lines.invariant.behind)

pub lines-preserved : goal.lines-preserved
lines-preserved c =
    let p = c.lines.invariant.passed in
    let l : List ℕ = c.in-Some.line.now in
    let d : List (List ℕ) = map shown_of p.passed in
    record {
      behind = omega (arith, c.in-Some.ensures.within, c.lines.invariant.behind);
      within = c.in-Some.ensures.within.1;
      passed =
          passed_more c.args.most c.args.text.now c.args.start c.lines.at c.in-Some.next l p c.in-Some.ensures.some c.in-Some.ensures.ended (omega (arith, c.in-Some.ensures.within))
          (advance c.args.most c.args.text.now (Text d) (Text (d ++ shown_of l ∷ [])) c.lines.at c.in-Some.next l c.in-Some.ensures.some c.in-Some.ensures.ended (omega (arith, c.if-line-most.false))
          (ap (text_turn d l) (sym c.ends_text.ensures ∙ c.in-Ok-false.is ∙ ap Ok c.in-Ok-false.field-0-test)));
    }

pub returns-in-Err-clause-err : goal.returns-in-Err-clause-err
returns-in-Err-clause-err c =
    let e = c.fault_at-in-Err.ensures in
    let p = c.lines.invariant.passed in
    let l : List ℕ = c.in-Some.line.now in
    told _ c.fault_at-in-Err.result c.in-Err.why c.lines.at e.layer e.others e.reason e.place
    (p.left ∙ refuse c.args.most c.args.text.now (Text (map shown_of p.passed)) c.in-Err.why c.lines.at c.in-Some.next l c.in-Some.ensures.some (omega (arith, c.if-line-most.false))
    (ap (text_turn (map shown_of p.passed) l) (sym c.ends_text.ensures ∙ c.in-Err.is)))

pub returns-clause-err : goal.returns-clause-err
returns-clause-err c =
    let e = c.fault_at-2.ensures in
    let p = c.lines.invariant.passed in
    told _ c.fault_at-2.result _ _ e.layer e.others e.reason e.place
    (p.left ∙ end c.args.most c.args.text.now (Text (map shown_of p.passed)) c.lines.at c.in_default.ensures.none)
