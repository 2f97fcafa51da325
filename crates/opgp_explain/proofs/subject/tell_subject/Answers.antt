use Rattle.std.proofs.Common.{ℕ, List, IfOk, subst}
use Rattle.opgp_packet.specs.Parsed.{body_octets}
use Rattle.opgp_explain.specs.Fields.{body_fields}
use Rattle.opgp_explain.specs.Key.{key_fields}
use Rattle.opgp_explain.specs.Telling.{Tells}
use Rattle.opgp_explain.specs.declared.meaning.Meaning.TheVariants as meaning
use Rattle.opgp_explain.specs.declared.meaning.Role.TheVariants.{Primary, Subkey}
use Rattle.opgp_explain.proofs.Keys.{then_told}
use Rattle.opgp_explain.proofs.subject.tell_subject.Goals as goal

pub returns-in_ok-telling-in-Two-clause-tells : goal.returns-in_ok-telling-in-Two-clause-tells
returns-in_ok-telling-in-Two-clause-tells c =
    rw c.in-Two.is (then_told c.args.telling c.in_ok-telling-in-Two.telling (key_fields Primary c.args.version (body_octets c.in-Two.primary)) (key_fields Subkey c.args.version (body_octets c.in-Two.subkey)) c.tell_key-in-Two-2.result c.in_ok-telling-in-Two.ensures.tells c.tell_key-in-Two-2.ensures.tells)

pub returns-in_ok-telling-in-OnUserId-clause-tells : goal.returns-in_ok-telling-in-OnUserId-clause-tells
returns-in_ok-telling-in-OnUserId-clause-tells c =
    rw c.in-OnUserId.is (then_told c.args.telling c.in_ok-telling-in-OnUserId.telling (key_fields Primary c.args.version (body_octets c.in-OnUserId.primary)) (body_fields meaning.UserId 0xB4 c.in-OnUserId.id.now) c.tell_user_id.result c.in_ok-telling-in-OnUserId.ensures.tells c.tell_user_id.ensures.tells)

pub returns-in_ok-telling-in-OnAttribute-clause-tells : goal.returns-in_ok-telling-in-OnAttribute-clause-tells
returns-in_ok-telling-in-OnAttribute-clause-tells c =
    rw c.in-OnAttribute.is (then_told c.args.telling c.in_ok-telling-in-OnAttribute.telling (key_fields Primary c.args.version (body_octets c.in-OnAttribute.primary)) (body_fields meaning.Attribute 0xD1 (body_octets c.in-OnAttribute.attribute)) c.tell_attribute.result c.in_ok-telling-in-OnAttribute.ensures.tells
    (subst (λ (l : List ℕ). IfOk c.tell_attribute.result (λ t. Tells c.in_ok-telling-in-OnAttribute.telling t (body_fields meaning.Attribute 0xD1 l))) c.body.ensures.value c.tell_attribute.ensures.tells))
