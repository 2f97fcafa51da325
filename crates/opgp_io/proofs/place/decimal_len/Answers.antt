use Rattle.std.proofs.Common.{◌≤◌, length, arith}
use Rattle.std.proofs.lemmas.Fmt.{length-decimal-le}
use Rattle.std.specs.Fmt.{decimal}
use Rattle.itoa.proofs.Decimal.{length_four}
use Rattle.opgp_io.proofs.place.decimal_len.Goals as goal

pub overflow_add-count : goal.overflow_add-count
overflow_add-count c =
    let short : length (decimal c.args.n) ≤ 20 = length-decimal-le 20 c.args.n (omega arith) (omega arith) (omega arith) in
    omega arith

pub fours-preserved : goal.fours-preserved
fours-preserved c = omega (arith, length_four c.fours.left c.fours-test.true c.fours.auto.left-fits.fits)

pub overflow_add-result : goal.overflow_add-result
overflow_add-result c =
    let short : length (decimal c.args.n) ≤ 20 = length-decimal-le 20 c.args.n (omega arith) (omega arith) (omega arith) in
    omega arith
