use Rattle.std.proofs.Common.{arith}
use Rattle.opgp_packet.specs.UserIdBody.{user_id, user_id_fields}
use Rattle.opgp_packet.specs.UserId.{user_id_octets}
use Rattle.opgp_packet.proofs.GrammarLaws.{parsed_found, parsed_only}
use Rattle.opgp_packet.proofs.user_id.UserId.parse_body.Goals as goal

pub returns-clause-found : goal.returns-clause-found
returns-clause-found c = parsed_found (λ x. user_id_fields (user_id_octets x)) user_id c.args.o.now c.read.result (λ i. omega (arith, c.type_inv.o i)) c.read.ensures.exact

pub returns-clause-only : goal.returns-clause-only
returns-clause-only c = parsed_only (λ x. user_id_fields (user_id_octets x)) user_id c.args.o.now c.read.result c.read.ensures.exact
