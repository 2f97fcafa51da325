-- The gathering of detached signatures.
use Rattle.std.specs.Prelude.{◌≡◌, List}
use Rattle.opgp_octets.specs.declared.malformed.Malformed.{Malformed}
use Rattle.opgp_keyring.specs.declared.detached_gathering.DetachedGathering.{DetachedGathering}
use Rattle.opgp_keyring.specs.Composition.{Item}
use Rattle.opgp_keyring.specs.DetachedState.{IsDetachedIn}
use Rattle.opgp_keyring.specs.Signed.{end_block, told_end}

-- By this policy for malformed signatures these items were given, and the end of the last block is
-- known in 64 bits.
pub record GathersDetached (policy : Malformed) (g : DetachedGathering)
    (items : List Item) : Type 0 where
  pub policy_kept : g.malformed ≡ policy
  pub state : IsDetachedIn policy g.state items g.flat.items
  pub block : g.block ≡ end_block items
  pub end : g.end ≡ told_end items
