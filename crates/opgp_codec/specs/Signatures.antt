-- The detached signatures of an input (RFC 9580, 10.4).
use Rattle.std.specs.Prelude.{Bool, true, false, List, Option, Some, None, Ok, Err}
use Rattle.opgp_octets.specs.declared.limits.Limits.{Limits}
use Rattle.opgp_octets.specs.Limits.{malformed_of}
use Rattle.opgp_armor.specs.declared.label.Label.{Label}
use Rattle.opgp_armor.specs.declared.label.Label.TheVariants as label
use Rattle.opgp_frame.specs.Packet.{PacketValue}
use Rattle.opgp_keyring.specs.Composition.{Item}
use Rattle.opgp_keyring.specs.Detached.{IsDetachedFault, IsDetachedOf}
use Rattle.opgp_codec.specs.Reading.{Outcome}

-- a block of signatures, or a binary one
abbrev pub signature_label : Option Label → Bool
signature_label None = true
signature_label (Some label.Signature) = true
signature_label (Some label.Message) = false
signature_label (Some label.PublicKeyBlock) = false
signature_label (Some label.PrivateKeyBlock) = false

-- the labels and packets are those of the detached signatures with these packets; or this is their
-- fault: that of the first body that has one, else the first in the order
abbrev pub AreDetachedSignatures : Limits → List Item → Outcome (List PacketValue) → Type 0
AreDetachedSignatures limits items (Ok ps) = IsDetachedOf (malformed_of limits) items ps
AreDetachedSignatures limits items (Err f) = IsDetachedFault (malformed_of limits) items f
