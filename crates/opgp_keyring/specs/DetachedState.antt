-- The state of the gathering of detached signatures, and what it says of the items given.
use Rattle.std.specs.Prelude.{◌≡◌, Bool, true, false, List, All}
use Rattle.opgp_octets.specs.declared.malformed.Malformed.{Malformed}
use Rattle.opgp_frame.specs.Packet.{PacketValue}
use Rattle.opgp_keyring.specs.declared.detached_gathering.DetachedState.{DetachedState}
use Rattle.opgp_keyring.specs.declared.detached_gathering.DetachedState.TheVariants as state
use Rattle.opgp_keyring.specs.Bodies.{IsSound, IsFirstBodyFault}
use Rattle.opgp_keyring.specs.Composition.{Item, placed_in, packets_in, labels_fit}
use Rattle.opgp_keyring.specs.Detached.{IsDetached, DetachedStopsAt}

-- By the policy for malformed signatures the items have no fault so far; the packets are kept.
pub record AreOpen (policy : Malformed) (items : List Item)
    (kept : List PacketValue) : Type 0 where
  pub labels : labels_fit items ≡ true
  pub sound : All (IsSound policy) (placed_in items)
  pub flat : kept ≡ packets_in items
  pub types : All IsDetached kept

-- what a state says of the items given and of the packets kept
abbrev pub IsDetachedIn : Malformed → DetachedState → List Item → List PacketValue → Type 0
IsDetachedIn policy state.Open items kept = AreOpen policy items kept
IsDetachedIn policy (state.Disordered f) items kept =
    All (IsSound policy) (placed_in items) × DetachedStopsAt items f
IsDetachedIn policy (state.Broken f) items kept = IsFirstBodyFault policy (placed_in items) f

-- no fault has come
abbrev pub is_open_detached : DetachedState → Bool
is_open_detached state.Open = true
is_open_detached (state.Disordered f) = false
is_open_detached (state.Broken f) = false
