use Rattle.std.proofs.Common.{◌∙◌, arith}
use Rattle.opgp_frame.proofs.Lengths.{length_is_found, length_enough, some_is}
use Rattle.opgp_frame.proofs.length.read_length.Goals as goal

pub returns-clause-found : goal.returns-clause-found
returns-clause-found c = length_is_found c.args.header c.args.o.now c.length_of.result (λ i. omega (arith, c.type_inv.o i)) c.length_of.ensures

pub returns-clause-enough : goal.returns-clause-enough
returns-clause-enough c = λ le read.
    let x = length_enough c.args.header c.args.o.now read le in
    some_is c.length_of.result x.0 (c.length_of.ensures ∙ x.1)
