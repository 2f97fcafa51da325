use Rattle.std.proofs.Common.{◌∙◌, ◌-◌, length, refl, arith}
use Rattle.std.proofs.lemmas.List.{length-take-le}
use Rattle.opgp_blocks.proofs.Contents.{none_left, shorter}
use Rattle.opgp_blocks.proofs.line.cut_endings.Goals as goal

pub endings-preserved : goal.endings-preserved
endings-preserved c =
    let v = c.endings.invariant in
    let o = c.endings.rest.now in
    let e = c.ending_size-size-in-endings.ensures in
    record {
      left = shorter o (length o) c.endings.size refl (v.found (omega arith)) ∙ v.left;
      few = omega (arith, v.few, length-take-le (length o - c.endings.size) o (omega arith));
      within = e.within;
      found = e.found;
      none = e.none;
    }

pub returns-clause-value : goal.returns-clause-value
returns-clause-value c = none_left c.endings.rest.now (c.endings.invariant.none (omega arith)) ∙ c.endings.invariant.left
