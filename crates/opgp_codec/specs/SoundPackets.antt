-- The packets of an input, whose bodies are checked one after the other.
use Rattle.std.specs.Prelude.{Bool, true, false, List, [], All, Option, Some, None, MatchResult}
use Rattle.opgp_octets.specs.declared.fault.Fault.{Fault}
use Rattle.opgp_octets.specs.declared.malformed.Malformed.{Malformed}
use Rattle.opgp_frame.specs.declared.packet.Placed.{Placed}
use Rattle.opgp_keyring.specs.Bodies.{IsSound, IsFirstBodyFault}
use Rattle.opgp_codec.specs.Reading.{Outcome}

-- By the policy for malformed signatures no body has a fault, and the packets are kept; or this is
-- the fault of the first body that has one, and the packets before it are kept.
abbrev pub AreSoFar : Malformed → (List Placed → Type 0) → Option Fault → List Placed → Type 0
AreSoFar policy kept None packets = All (IsSound policy) packets × kept packets
AreSoFar policy kept (Some fault) packets =
    (first : IsFirstBodyFault policy packets fault) × kept first.before

-- the packet that was found, if it passes
abbrev pub passed_if : Bool → List Placed → List Placed
passed_if true packets = packets
passed_if false packets = []

-- the same of an answer
abbrev pub AreSound : {A : Type 0} → Malformed
    → (A → List Placed → Type 0) → List Placed → Outcome A
    → Type 0
AreSound policy kept packets answer = MatchResult answer
    (λ value. All (IsSound policy) packets × kept value packets)
    (IsFirstBodyFault policy packets)
