use Rattle.std.proofs.Common.{List, ℕ, IfOk, subst}
use Rattle.opgp_packet.specs.Parsed.{body_octets}
use Rattle.opgp_explain.specs.Key.{cut, key_front, key_sizes}
use Rattle.opgp_explain.specs.Telling.{Tells}
use Rattle.opgp_explain.proofs.Keys.{then_told}
use Rattle.opgp_explain.proofs.key.tell_key.Goals as goal

pub returns-clause-tells : goal.returns-clause-tells
returns-clause-tells c =
    then_told c.args.telling c.in_ok-telling.telling (key_front c.args.role c.args.version (body_octets c.args.key.now)) (cut c.args.role (key_sizes c.args.version) (body_octets c.args.key.now)) c.tell_key_body.result c.in_ok-telling.ensures.tells
    (subst (λ (l : List ℕ). IfOk c.tell_key_body.result (λ t. Tells c.in_ok-telling.telling t (cut c.args.role (key_sizes c.args.version) l))) c.body.ensures.value c.tell_key_body.ensures.tells)
