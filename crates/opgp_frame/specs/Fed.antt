-- What a reader of packets has been given, and what was taken from it.
use Rattle.std.specs.Prelude.{◌≡◌, ℕ, ◌<◌, Bool, true, false, List, [], ◌++◌, length, take, Option}
use Rattle.std.specs.Prelude.{Some, None, is_some, option_to_list, IsSome, ◌+◌, ◌≤◌, take, Result, Ok, IfOk, OnOk, OnErr}
use Rattle.opgp_octets.specs.declared.limits.Limits.{Limits}
use Rattle.opgp_octets.specs.declared.fault.Fault.{Fault}
use Rattle.opgp_octets.specs.declared.fault.Layer.TheVariants.{Framing}
use Rattle.opgp_frame.specs.declared.packet.Placed.{Placed}
use Rattle.opgp_frame.specs.declared.deframe.Deframe.{Deframe}
use Rattle.opgp_frame.specs.declared.deframe.State.{State}
use Rattle.opgp_frame.specs.declared.deframe.State.TheVariants as states
use Rattle.opgp_frame.specs.Frames.{spelled, StandFrom}
use Rattle.opgp_frame.specs.PacketFault.{PacketFault}
use Rattle.opgp_frame.specs.ReaderState.{held_in}
use Rattle.opgp_frame.specs.Unfinished.{IsAtLength, IsInPiece}

abbrev pub is_spent_state : State → Bool
is_spent_state states.Between = false
is_spent_state (states.InLength header seen count) = false
is_spent_state (states.InPiece header l from until) = false
is_spent_state (states.Faulty reason inner) = false
is_spent_state states.Spent = true

abbrev pub is_between_state : State → Bool
is_between_state states.Between = true
is_between_state (states.InLength header seen count) = false
is_between_state (states.InPiece header l from until) = false
is_between_state (states.Faulty reason inner) = false
is_between_state states.Spent = false

-- the fault that a state keeps, of a packet that begins at this offset in this block
abbrev pub fault_of_state : State → ℕ → ℕ → Option Fault
fault_of_state states.Between block pos = None
fault_of_state (states.InLength header seen count) block pos = None
fault_of_state (states.InPiece header l from until) block pos = None
fault_of_state (states.Faulty reason inner) block pos =
    Some (record { layer = Framing; reason = reason; block = block; pos = pos; inner = inner })
fault_of_state states.Spent block pos = None

-- a push ran out of memory
abbrev pub is_spent : Deframe → Bool
is_spent d = is_spent_state d.state

-- the fault that the octets given have, whatever follows
abbrev pub fault_of : Deframe → Option Fault
fault_of d = fault_of_state d.state d.block d.start

-- it is between packets
abbrev pub is_between : Deframe → Bool
is_between d = is_between_state d.state

-- a packet is ready to be taken
abbrev pub is_ready : Deframe → Bool
is_ready d = is_some d.ready

-- how many octets the pushes have taken
abbrev pub count_of : Deframe → ℕ
count_of d = d.given

-- Of the packet that is unfinished or ready: its first octet, the octets of the length header that
-- is being read, the joined octets of the body, and one octet a piece.
abbrev pub held_of : Deframe → ℕ
held_of d = held_in d.state (length d.exponents.items) (length d.body.items) d.ready

-- the limits that it keeps
abbrev pub limits_of : Deframe → Limits
limits_of d = d.limits

-- the packets so far: those taken, and the one that is ready
abbrev pub packets_of : Deframe → List Placed → List Placed
packets_of d taken = taken ++ option_to_list d.ready

-- the octets after the last whole packet, as the state keeps them
abbrev pub IsRest : Limits → State → List ℕ → List ℕ → List ℕ → Type 0
IsRest limits states.Between exponents body rest = (rest ≡ []) × (exponents ≡ []) × (body ≡ [])
IsRest limits (states.InLength header seen count) exponents body rest =
    IsAtLength limits header (take count seen) exponents body rest
IsRest limits (states.InPiece header l from until) exponents body rest =
    IsInPiece limits header l from until exponents body rest × (length body < until)
IsRest limits (states.Faulty reason inner) exponents body rest =
    (more : List ℕ) → PacketFault limits (rest ++ more) reason inner
IsRest limits states.Spent exponents body rest = ⊥

-- Within these limits the reader was given these octets of the block, and these packets were taken
-- from it.
pub record Fed (limits : Limits) (block : ℕ) (d : Deframe) (given : List ℕ)
    (taken : List Placed) : Type 0 where
  pub rest : List ℕ
  pub limits_kept : d.limits ≡ limits
  pub block_kept : d.block ≡ block
  pub whole : given ≡ spelled (packets_of d taken) ++ rest
  pub stand : StandFrom limits block 0 (packets_of d taken)
  pub start : d.start ≡ length (spelled (packets_of d taken))
  pub count : d.given ≡ length given
  pub state : IsRest limits d.state d.exponents.items d.body.items rest
  pub waits : IsSome d.ready → rest ≡ []

-- Whatever the old reader was given and had handed out, the new one was also given these octets and
-- has also handed out these packets.
abbrev pub KeepsFed : Deframe → Deframe → List ℕ → List Placed → Type 0
KeepsFed old new octets packets =
    (limits : Limits) (block : ℕ) (given : List ℕ) (taken : List Placed)
    → Fed limits block old given taken → Fed limits block new (given ++ octets) (taken ++ packets)

-- Octets of a piece are taken up to the one that makes a packet ready, or all of them. After a
-- fault all are taken, and nothing becomes ready.
pub record Takes {E : Type 0} (old new : Deframe) (piece : List ℕ)
    (result : Result ℕ E) : Type 0 where
  pub fed : IfOk result (λ n. KeepsFed old new (take n piece) [])
  pub within : IfOk result (λ n. n ≤ length piece)
  pub moves : IfOk result (λ n. 0 < length piece → 0 < n)
  pub stops : IfOk result (λ n. n < length piece → is_ready new ≡ true)
  pub count : IfOk result (λ n. count_of new ≡ count_of old + n)
  pub faulty : (fault : Fault) → fault_of old ≡ Some fault
      → (result ≡ Ok (length piece)) × (fault_of new ≡ Some fault) × (is_ready new ≡ false)
  pub sound : OnOk result (is_spent new ≡ false)
  pub free : OnErr result (is_ready new ≡ false)
  pub limits : limits_of new ≡ limits_of old
