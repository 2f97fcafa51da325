-- The keyring of an input (RFC 9580, 10.1).
use Rattle.std.specs.Prelude.{Bool, true, false, List, Option, Some, None, Ok, Err}
use Rattle.std.specs.Prelude.{MatchResult}
use Rattle.opgp_octets.specs.declared.limits.Limits.{Limits}
use Rattle.opgp_armor.specs.declared.label.Label.{Label}
use Rattle.opgp_armor.specs.declared.label.Label.TheVariants as label
use Rattle.opgp_keyring.specs.Composed.{IsKeyringOf, IsFault}
use Rattle.opgp_keyring.specs.Composition.{Item}
use Rattle.opgp_keyring.specs.Keyring.{KeyringValue}
use Rattle.opgp_codec.specs.declared.answer.Answer.{Answer}
use Rattle.opgp_codec.specs.declared.answer.Answer.TheVariants as answer
use Rattle.opgp_codec.specs.Reading.{Outcome}

-- a block of public keys, or a binary one
abbrev pub key_label : Option Label → Bool
key_label None = true
key_label (Some label.PublicKeyBlock) = true
key_label (Some label.Message) = false
key_label (Some label.PrivateKeyBlock) = false
key_label (Some label.Signature) = false

-- the labels and packets are those of the keyring; or this is their fault: that of the first body
-- that has one, else the first in the order
abbrev pub ComposesTo : Limits → List Item → Outcome KeyringValue → Type 0
ComposesTo limits items answer =
    MatchResult answer (IsKeyringOf limits items) (IsFault limits items)

-- what an answer says
abbrev pub keyring_told : Answer → Outcome KeyringValue
keyring_told (answer.Ring r) = Ok r
keyring_told (answer.Refused fault) = Err fault
