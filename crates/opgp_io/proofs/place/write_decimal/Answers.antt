use Rattle.std.proofs.Common.{◌≤◌, length, arith}
use Rattle.std.proofs.lemmas.Fmt.{length-decimal-le}
use Rattle.std.specs.Fmt.{decimal}
use Rattle.opgp_io.proofs.Places.{text_between}
use Rattle.opgp_io.proofs.place.write_decimal.Goals as goal

pub overflow_add-end : goal.overflow_add-end
overflow_add-end c =
    let short : length (decimal c.args.n) ≤ 20 = length-decimal-le 20 c.args.n (omega arith) (omega arith) (omega arith) in
    omega arith

pub write_digits-requires : goal.write_digits-requires
write_digits-requires c =
    let short : length (decimal c.args.n) ≤ 20 = length-decimal-le 20 c.args.n (omega arith) (omega arith) (omega arith) in
    (omega arith, omega arith)

pub returns : goal.returns
returns c =
    let short : length (decimal c.args.n) ≤ 20 = length-decimal-le 20 c.args.n (omega arith) (omega arith) (omega arith) in
    text_between c.args.place.now c.write_digits.new.buf (decimal c.args.n) c.args.at c.write_digits.result _ (omega arith) (omega arith) (omega arith) (omega arith) c.write_digits.ensures.written c.write_digits.ensures.before
