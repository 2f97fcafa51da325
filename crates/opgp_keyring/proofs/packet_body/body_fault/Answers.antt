use Rattle.std.proofs.Common.{arith}
use Rattle.opgp_packet.specs.AttributeBody.{attribute, attribute_fields}
use Rattle.opgp_packet.specs.Attribute.{attribute_value}
use Rattle.opgp_keyring.proofs.packet_body.body_fault.Goals as goal

pub returns-in-Ok-clause-none : goal.returns-in-Ok-clause-none
returns-in-Ok-clause-none c = λ f h.
    c.no_fault.ensures attribute (attribute_fields (attribute_value c.in-Ok.field-0)) c.args.body.now f (λ i. omega (arith, c.type_inv.body i)) c.in-Ok.ensures.found
    (rw c.in-UserAttribute.is at h)
