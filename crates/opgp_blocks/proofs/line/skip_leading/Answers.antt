use Rattle.std.proofs.Common.{◌∙◌, ℕ, sym, ap, length, arith}
use Rattle.std.proofs.lemmas.List.{length-drop, take_rest}
use Rattle.opgp_blocks.specs.Line.{behind_leading}
use Rattle.opgp_blocks.proofs.Contents.{leading_done, leading_ended, leading_skipped}
use Rattle.opgp_blocks.proofs.line.skip_leading.Goals as goal

pub returns-then-not-is_leading_octet-clause-value : goal.returns-then-not-is_leading_octet-clause-value
returns-then-not-is_leading_octet-clause-value c =
    let o = c.leading.rest.now in
    leading_done o (omega (arith, c.in-len1-up.len_at_least)) (sym c.is_leading_octet.ensures ∙ c.if-not-is_leading_octet.true) ∙ c.leading.invariant.left

pub leading-preserved : goal.leading-preserved
leading-preserved c =
    let o = c.leading.rest.now in
    record {
      left = ap behind_leading (take_rest o 1) ∙ leading_skipped o (omega (arith, c.in-len1-up.len_at_least)) (sym c.is_leading_octet.ensures ∙ c.if-not-is_leading_octet.false) ∙ c.leading.invariant.left;
      few = omega (arith, c.leading.invariant.few, ap (length {A = ℕ}) (take_rest o 1), length-drop 1 o);
    }

pub returns-clause-value : goal.returns-clause-value
returns-clause-value c = leading_ended c.leading.rest.now (omega (arith, c.in_default.len_below)) ∙ c.leading.invariant.left
