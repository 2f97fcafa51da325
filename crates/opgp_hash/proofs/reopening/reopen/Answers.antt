use Rattle.std.proofs.Common.{arith}
use Rattle.opgp_hash.specs.Question.{question_value}
use Rattle.opgp_hash.proofs.Questions.{read_found, read_only, read_none}
use Rattle.opgp_hash.proofs.reopening.reopen.Goals as goal

pub returns-clause-found : goal.returns-clause-found
returns-clause-found c = read_found c.fields_are_read.ensures question_value c.args.o.now c.read.result (λ i. omega (arith, c.type_inv.o i)) c.read.ensures.exact

pub returns-clause-only : goal.returns-clause-only
returns-clause-only c = read_only c.fields_are_read.ensures question_value c.args.o.now c.read.result c.read.ensures.exact

pub returns-clause-none : goal.returns-clause-none
returns-clause-none c = read_none c.fields_are_read.ensures question_value c.args.o.now c.read.result c.read.ensures.exact
