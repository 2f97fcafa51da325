-- Faults of packets' bodies, by the policy for malformed signatures.
use Rattle.std.specs.Prelude.{◌≡◌, List, ◌∷◌, ◌++◌, All}
use Rattle.opgp_octets.specs.Octets.{IsOctets}
use Rattle.opgp_octets.specs.PacketType.{packet_type_of}
use Rattle.opgp_octets.specs.declared.fault.Fault.{Fault}
use Rattle.opgp_octets.specs.declared.fault.BodyFault.{BodyFault}
use Rattle.opgp_octets.specs.declared.fault.Layer.TheVariants.{Body}
use Rattle.opgp_octets.specs.declared.malformed.Malformed.{Malformed}
use Rattle.opgp_frame.specs.declared.packet.Placed.{Placed}
use Rattle.opgp_frame.specs.Packet.{PacketValue}
use Rattle.opgp_keyring.specs.PacketBody.{HasBodyFault}

-- the packet's body isn't one of its type, and this is its first fault
abbrev pub HasFault : Malformed → PacketValue → BodyFault → Type 0
HasFault policy p f = HasBodyFault policy (packet_type_of p.kind) p.body f

-- the packet's body has no fault
abbrev pub HasNoFault : Malformed → PacketValue → Type 0
HasNoFault policy p = (f : BodyFault) → ¬ HasFault policy p f

abbrev pub IsSound : Malformed → Placed → Type 0
IsSound policy p = HasNoFault policy p.packet

abbrev pub placed_fault : Placed → BodyFault → Fault
placed_fault p f =
    record { layer = Body; reason = f.reason; block = p.block; pos = p.pos; inner = f.inner }

-- the fault of the packet's body
pub record IsPlacedFault (policy : Malformed) (p : Placed) (f : Fault) : Type 0 where
  pub why : BodyFault
  pub octets : IsOctets p.packet.body
  pub here : HasFault policy p.packet why
  pub is : f ≡ placed_fault p why

-- the fault of the first packet whose body has one
pub record IsFirstBodyFault (policy : Malformed) (ps : List Placed) (f : Fault) : Type 0 where
  pub before : List Placed
  pub at : Placed
  pub after : List Placed
  pub why : BodyFault
  pub whole : ps ≡ before ++ at ∷ after
  pub sound : All (IsSound policy) before
  pub octets : IsOctets at.packet.body
  pub here : HasFault policy at.packet why
  pub is : f ≡ placed_fault at why
