use Rattle.std.proofs.Common.{◌-◌, drop, length, take}
use Rattle.opgp_io.proofs.Extended.{extends_broken_left, extends_less_left}
use Rattle.opgp_stack.specs.Values.{numbers_text}
use Rattle.opgp_stack.proofs.NumberTexts.{first_number}
use Rattle.opgp_stack.proofs.values.add_each.Goals as goal

pub returns-in_err-add_one : goal.returns-in_err-add_one
returns-in_err-add_one g c =
    let left = c.numbers.left.now in
    extends_broken_left (numbers_text (take (length left - 1) (drop 1 left))) c.numbers.invariant (first_number left c.in-len1-up.len_at_least) c.from_residual.ensures.0 c.in_err-add_one.ensures

pub numbers-preserved : goal.numbers-preserved
numbers-preserved g c = extends_less_left c.numbers.invariant (first_number c.numbers.left.now c.in-len1-up.len_at_least) c.in_ok-add_one.ensures
