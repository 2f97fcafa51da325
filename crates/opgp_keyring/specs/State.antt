-- The state of a composer.
use Rattle.std.specs.Prelude.{ℕ, Bool, true, false, List, [], ◌∷◌, Option, Some, None}
use Rattle.opgp_keyring.specs.declared.composer.State.{State}
use Rattle.opgp_octets.specs.declared.fault.Fault.{Fault}
use Rattle.opgp_keyring.specs.declared.composer.State.TheVariants as state
use Rattle.opgp_keyring.specs.declared.ready.Ready.{Ready}
use Rattle.opgp_keyring.specs.declared.ready.Ready.TheVariants.{Lead, Certificate}
use Rattle.opgp_keyring.specs.Composed.{PartValue, of_lead, of_certificate, lead_parts}
use Rattle.opgp_keyring.specs.Keyring.{certificate_packets, octets_of}

-- a part that became ready
abbrev pub part_of : Ready → PartValue
part_of (Lead packets) = of_lead packets
part_of (Certificate c) = of_certificate c

abbrev pub ready_parts : Option Ready → List PartValue
ready_parts None = []
ready_parts (Some r) = part_of r ∷ []

abbrev pub is_spent_state : State → Bool
is_spent_state state.Spent = true
is_spent_state (state.Leading lead) = false
is_spent_state (state.Growing c) = false
is_spent_state (state.Disordered f) = false
is_spent_state (state.Broken f) = false

-- the part that isn't finished; none after a fault
abbrev pub open_parts : State → List PartValue
open_parts (state.Leading lead) = lead_parts lead
open_parts (state.Growing c) = of_certificate c ∷ []
open_parts (state.Disordered f) = []
open_parts (state.Broken f) = []
open_parts state.Spent = []

-- its octets
abbrev pub open_octets : State → ℕ
open_octets (state.Leading lead) = octets_of lead
open_octets (state.Growing c) = octets_of (certificate_packets c)
open_octets (state.Disordered f) = 0
open_octets (state.Broken f) = 0
open_octets state.Spent = 0

-- the octets of what is ready
abbrev pub ready_octets : Option Ready → ℕ
ready_octets None = 0
ready_octets (Some (Lead packets)) = octets_of packets
ready_octets (Some (Certificate c)) = octets_of (certificate_packets c)

-- the fault of what was given
abbrev pub fault_of_state : State → Option Fault
fault_of_state (state.Leading lead) = None
fault_of_state (state.Growing c) = None
fault_of_state (state.Disordered f) = Some f
fault_of_state (state.Broken f) = Some f
fault_of_state state.Spent = None

-- there is no fault, and memory hasn't run out
abbrev pub is_open : State → Bool
is_open (state.Leading lead) = true
is_open (state.Growing c) = true
is_open (state.Disordered f) = false
is_open (state.Broken f) = false
is_open state.Spent = false

-- a certificate has begun
abbrev pub has_begun : State → Bool
has_begun (state.Leading lead) = false
has_begun (state.Growing c) = true
has_begun (state.Disordered f) = false
has_begun (state.Broken f) = false
has_begun state.Spent = false

-- the fault is in a body
abbrev pub is_broken_state : State → Bool
is_broken_state (state.Leading lead) = false
is_broken_state (state.Growing c) = false
is_broken_state (state.Disordered f) = false
is_broken_state (state.Broken f) = true
is_broken_state state.Spent = false
