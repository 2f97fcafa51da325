-- The signed literal of an input (RFC 9580, 10.3).
use Rattle.std.specs.Prelude.{Bool, true, false, List, Option, Some, None, Ok, Err}
use Rattle.opgp_octets.specs.declared.limits.Limits.{Limits}
use Rattle.opgp_octets.specs.Limits.{malformed_of}
use Rattle.opgp_armor.specs.declared.label.Label.{Label}
use Rattle.opgp_armor.specs.declared.label.Label.TheVariants as label
use Rattle.opgp_frame.specs.Packet.{PacketValue}
use Rattle.opgp_keyring.specs.Composition.{Item}
use Rattle.opgp_keyring.specs.declared.signed_literal.SignedLiteral.{SignedLiteral}
use Rattle.opgp_keyring.specs.Signed.{IsSignedFault, IsSignedOf}
use Rattle.opgp_codec.specs.declared.answer.SignedAnswer.{SignedAnswer}
use Rattle.opgp_codec.specs.declared.answer.SignedAnswer.TheVariants as answer
use Rattle.opgp_codec.specs.Reading.{Outcome}

-- a message's block, or a binary one
abbrev pub message_label : Option Label → Bool
message_label None = true
message_label (Some label.Message) = true
message_label (Some label.PublicKeyBlock) = false
message_label (Some label.PrivateKeyBlock) = false
message_label (Some label.Signature) = false

-- the labels and packets are those of the signed literal with these packets; or this is their
-- fault: that of the first body that has one, else the first in the order
abbrev pub AreSigned : Limits → List Item → Outcome (List PacketValue) → Type 0
AreSigned limits items (Ok ps) = IsSignedOf (malformed_of limits) items ps
AreSigned limits items (Err f) = IsSignedFault (malformed_of limits) items f

-- what an answer says
abbrev pub signed_told : SignedAnswer → Outcome SignedLiteral
signed_told (answer.Literal signed) = Ok signed
signed_told (answer.Refused fault) = Err fault
