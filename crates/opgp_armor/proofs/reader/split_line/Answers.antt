use Rattle.std.proofs.Common.{arith}
use Rattle.opgp_armor.proofs.Feeding.{split_some, split_none}
use Rattle.opgp_armor.proofs.reader.split_line.Goals as goal

pub returns-in-Some-clause-split : goal.returns-in-Some-clause-split
returns-in-Some-clause-split c =
    let h = c.in-Some.ensures in
    split_some c.args.rest.now c.in-Some.i h.0.high (λ k lt e. h.0.before k (omega arith) lt e) h.1

pub returns-in-None-clause-split : goal.returns-in-None-clause-split
returns-in-None-clause-split c = split_none c.args.rest.now c.requires (λ k lt e. c.in-None.ensures k (omega arith) lt e)
