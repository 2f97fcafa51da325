-- The state of the gathering of a signed literal.
use Rattle.std.specs.Prelude.{◌≡◌, List}
use Rattle.opgp_octets.specs.declared.malformed.Malformed.{Malformed}
use Rattle.opgp_keyring.specs.declared.signed_gathering.SignedGathering.{SignedGathering}
use Rattle.opgp_keyring.specs.Composition.{Item}
use Rattle.opgp_keyring.specs.Signed.{end_block, told_end}
use Rattle.opgp_keyring.specs.SignedState.{IsSignedIn}

-- By this policy for malformed signatures these items were given, and the end of the last block is
-- known in 64 bits.
pub record GathersSigned (policy : Malformed) (g : SignedGathering)
    (items : List Item) : Type 0 where
  pub policy_kept : g.malformed ≡ policy
  pub state : IsSignedIn policy g.state items g.flat.items
  pub block : g.block ≡ end_block items
  pub end : g.end ≡ told_end items
