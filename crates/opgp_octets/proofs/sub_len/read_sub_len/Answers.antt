use Rattle.std.proofs.Common.{arith}
use Rattle.opgp_octets.proofs.SubLens.{sub_len_is_found, sub_len_is_none}
use Rattle.opgp_octets.proofs.sub_len.read_sub_len.Goals as goal

pub returns-clause-found : goal.returns-clause-found
returns-clause-found c = sub_len_is_found c.args.o.now c.len_of.result (λ i. omega (arith, c.type_inv.o i)) c.len_of.ensures

pub returns-clause-none : goal.returns-clause-none
returns-clause-none c = sub_len_is_none c.args.o.now c.len_of.result c.len_of.ensures
