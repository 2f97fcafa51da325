use Rattle.std.proofs.Common.{◌∙◌}
use Rattle.opgp_keyring.proofs.SignedBodies.{sound_literal}
use Rattle.opgp_keyring.proofs.signed_literal.SignedLiteral.literal.Goals as goal

pub unreachable-requires : goal.unreachable-requires
unreachable-requires c = sound_literal c.in-Some.packet.now c.body.result.now c.in-Err.field-0 c.in-Some.ensures.sound (c.in-Some.ensures.kind ∙ c.number.ensures) c.body.ensures.value c.in-Err.ensures.fault
