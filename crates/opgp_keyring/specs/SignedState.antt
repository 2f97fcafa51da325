-- The state of the gathering of a signed literal, and what it says of the items given.
use Rattle.std.specs.Prelude.{◌≡◌, ℕ, Bool, true, false, List, All}
use Rattle.opgp_octets.specs.declared.malformed.Malformed.{Malformed}
use Rattle.opgp_frame.specs.Packet.{PacketValue}
use Rattle.opgp_keyring.specs.declared.shape.Shape.{Shape}
use Rattle.opgp_keyring.specs.declared.signed_gathering.SignedState.{SignedState}
use Rattle.opgp_keyring.specs.declared.signed_gathering.SignedState.TheVariants as state
use Rattle.opgp_keyring.specs.Bodies.{IsSound, IsFirstBodyFault}
use Rattle.opgp_keyring.specs.Composition.{Item, placed_in, packets_in, labels_fit}
use Rattle.opgp_keyring.specs.Shape.{Stands, opened}
use Rattle.opgp_keyring.specs.Signed.{StopsAt}

-- By the policy for malformed signatures the items have no fault so far; the packets are kept, and
-- they have come this far.
pub record IsOpen (policy : Malformed) (shape : Shape) (items : List Item)
    (kept : List PacketValue) : Type 0 where
  pub labels : labels_fit items ≡ true
  pub sound : All (IsSound policy) (placed_in items)
  pub flat : kept ≡ packets_in items
  pub stands : Stands shape kept

-- what a state says of the items given and of the packets kept
abbrev pub IsSignedIn : Malformed → SignedState → List Item → List PacketValue → Type 0
IsSignedIn policy (state.Open shape) items kept = IsOpen policy shape items kept
IsSignedIn policy (state.Disordered f) items kept =
    All (IsSound policy) (placed_in items) × StopsAt items f
IsSignedIn policy (state.Broken f) items kept = IsFirstBodyFault policy (placed_in items) f

-- how many one-pass signatures a state counts
abbrev pub opened_in : SignedState → ℕ
opened_in (state.Open shape) = opened shape
opened_in (state.Disordered f) = 0
opened_in (state.Broken f) = 0

-- no fault has come
abbrev pub is_open : SignedState → Bool
is_open (state.Open shape) = true
is_open (state.Disordered f) = false
is_open (state.Broken f) = false
