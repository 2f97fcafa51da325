-- What a composer has been given, and what was taken from it.
use Rattle.std.specs.Prelude.{◌≡◌, ℕ, ◌+◌, Bool, true, false, List, [], ◌∷◌, ◌++◌, All, ◌⊎◌}
use Rattle.std.specs.Prelude.{Option, Some, None, is_some}
use Rattle.opgp_octets.specs.declared.limits.Limits.{Limits}
use Rattle.opgp_octets.specs.Limits.{malformed_of}
use Rattle.opgp_octets.specs.declared.fault.Fault.{Fault}
use Rattle.opgp_keyring.specs.declared.composer.Composer.{Composer}
use Rattle.opgp_keyring.specs.Bodies.{IsSound, IsFirstBodyFault}
use Rattle.opgp_keyring.specs.Composed.{IsKeyringOf, PartValue, parts_of}
use Rattle.opgp_keyring.specs.Composition.{Item, placed_in, IsOrderFault}
use Rattle.opgp_keyring.specs.Keyring.{KeyringValue, octets_of}
use Rattle.opgp_keyring.specs.State.{is_spent_state, fault_of_state, is_broken_state, open_parts}
use Rattle.opgp_keyring.specs.State.{ready_octets, open_octets}
use Rattle.opgp_keyring.specs.Taken.{AreHandedOut, so_far}

-- a push ran out of memory
abbrev pub is_spent : Composer → Bool
is_spent c = is_spent_state c.state

-- the fault of what was given: that of the first body that has one, else that in the order
abbrev pub fault_of : Composer → Option Fault
fault_of c = fault_of_state c.state

-- that fault is in a body
abbrev pub is_broken : Composer → Bool
is_broken c = is_broken_state c.state

-- a part is ready to be taken
abbrev pub is_ready : Composer → Bool
is_ready c = is_some c.ready

-- the limits that it keeps
abbrev pub limits_of : Composer → Limits
limits_of c = c.limits

-- the octets of the unfinished part, of what is ready, and of what lies in spare memory; no other
-- field is a list
abbrev pub held_of : Composer → ℕ
held_of c = open_octets c.state + ready_octets c.ready + octets_of c.spare

-- a fault in a body, or one in the order if no body has any
abbrev pub IsFaultOf : Bool → Limits → List Item → Fault → Type 0
IsFaultOf true limits given f = IsFirstBodyFault (malformed_of limits) (placed_in given) f
IsFaultOf false limits given f =
    All (IsSound (malformed_of limits)) (placed_in given) × IsOrderFault limits given f

-- Within these limits the composer was given these items, and these parts were taken from it.
pub record Fed (limits : Limits) (c : Composer) (given : List Item)
    (taken : List PartValue) : Type 0 where
  pub limits_kept : c.limits ≡ limits
  pub unspent : is_spent c ≡ false
  -- up to the first fault all parts but the last were taken or are ready, and none after it
  pub handed : AreHandedOut limits given (so_far c taken)
  -- until there is a fault, all that was given is a keyring, and its last part is kept
  pub kept : fault_of c ≡ None → (r : KeyringValue) × IsKeyringOf limits given r
      × (parts_of r ≡ so_far c taken ++ open_parts c.state)
  pub fault : (f : Fault) → fault_of c ≡ Some f → IsFaultOf (is_broken c) limits given f

-- A fault stays, whatever follows; but one in the order is replaced by one in a body.
abbrev pub StaysFaulty : Composer → Composer → Type 0
StaysFaulty old new =
    (fault : Fault) → fault_of old ≡ Some fault
    → (fault_of new ≡ Some fault) ⊎ ((is_broken old ≡ false) × (is_broken new ≡ true))

-- Whatever the old composer was given and had handed out, the new one was also given these items
-- and has also handed out these parts.
abbrev pub KeepsFed : Composer → Composer → List Item → List PartValue → Type 0
KeepsFed old new items parts =
    (limits : Limits) (given : List Item) (taken : List PartValue)
    → Fed limits old given taken → Fed limits new (given ++ items) (taken ++ parts)

-- it was also given this item
abbrev pub TakesIn : Composer → Composer → Item → Type 0
TakesIn old new item =
    (limits : Limits) (given : List Item) (taken : List PartValue)
    → Fed limits old given taken → Fed limits new (given ++ item ∷ []) taken
