use Rattle.std.proofs.Common.{arith, ◌+◌, inr, drop, map}
use Rattle.opgp_io.proofs.Extended.{extends_broken_left, extends_less_left, extends_nothing_left}
use Rattle.opgp_stack.specs.Documents.{digest_lines, read_shown}
use Rattle.opgp_stack.proofs.DocumentLines.{lines_next_or, lines_none}
use Rattle.opgp_stack.proofs.digest_lines.add_lines.Goals as goal

pub returns-in_err-add_line : goal.returns-in_err-add_line
returns-in_err-add_line g c =
    let n = c.signatures.number in
    extends_broken_left (digest_lines (n + 1) (drop (n + 1) (map read_shown c.args.reads.now)) (drop (n + 1) c.args.answers.now)) c.signatures.invariant.but
    (lines_next_or n c.args.reads.now c.args.answers.now c.index-reads-number.result _ (omega arith) (omega arith) c.index-reads-number.is) c.from_residual.ensures.0 c.in_err-add_line.ensures

pub signatures-preserved : goal.signatures-preserved
signatures-preserved g c =
    let n = c.signatures.number in
    record {
      but = extends_less_left c.signatures.invariant.but
          (lines_next_or n c.args.reads.now c.args.answers.now c.index-reads-number.result _ (omega arith) (omega arith) c.index-reads-number.is) c.in_ok-add_line.ensures;
      count = omega arith;
    }

pub returns-else-number-answers : goal.returns-else-number-answers
returns-else-number-answers g c =
    extends_nothing_left c.signatures.invariant.but (lines_none c.signatures.number c.signatures.number c.args.reads.now c.args.answers.now (inr (omega arith)))
