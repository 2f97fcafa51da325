use Rattle.opgp_stack.proofs.MadeOnce.{one_made}
use Rattle.opgp_stack.proofs.laws.one_thing_is_made.Goals as goal

pub returns : goal.returns
returns c = one_made (record {
  packets = c.one_list_of_packets.ensures;
  ring = c.one_answer.ensures;
  signed = c.one_signed_literal.ensures;
})
