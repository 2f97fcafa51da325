-- A keyring in the making: a composer, and a keyring of the parts that were taken from it.
use Rattle.std.specs.Prelude.{◌≡◌, false, List}
use Rattle.opgp_octets.specs.declared.limits.Limits.{Limits}
use Rattle.opgp_keyring.specs.declared.composer.Composer.{Composer}
use Rattle.opgp_keyring.specs.Composed.{PartValue}
use Rattle.opgp_keyring.specs.Composition.{Item}
use Rattle.opgp_keyring.specs.Fed.{Fed, is_ready, is_spent}
use Rattle.opgp_keyring.specs.Keyring.{KeyringValue}
use Rattle.opgp_keyring.specs.Parts.{HasParts}

-- the composer was given these items, and the keyring has all parts that were taken from it
pub record Gathers (limits : Limits) (c : Composer) (ring : KeyringValue)
    (given : List Item) : Type 0 where
  pub parts : List PartValue
  pub fed : Fed limits c given parts
  pub has : HasParts ring parts
  pub free : is_ready c ≡ false
  pub sound : is_spent c ≡ false
