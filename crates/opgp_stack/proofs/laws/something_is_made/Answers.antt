use Rattle.opgp_stack.proofs.MadeOnce.{some_made}
use Rattle.opgp_stack.proofs.laws.something_is_made.Goals as goal

pub returns : goal.returns
returns c = some_made (record {
  packets = c.some_list_of_packets.ensures;
  ring = c.some_answer.ensures;
  signed = c.some_signed_literal.ensures;
})
