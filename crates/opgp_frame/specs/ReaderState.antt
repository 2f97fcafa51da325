-- The state of a reader of packets: how much it holds, and what is at fault if the octets end.
use Rattle.std.specs.Prelude.{ℕ, ◌+◌, Bool, ◌&&◌, ◌==◌, nat_lt, nat_le, length, Option, Some, None}
use Rattle.std.specs.Prelude.{is_none, if◌then◌else◌}
use Rattle.opgp_octets.specs.declared.limits.Limits.{Limits}
use Rattle.opgp_octets.specs.Limits.{body_limit, pieces_limit}
use Rattle.opgp_octets.specs.declared.fault.Reason.{Reason}
use Rattle.opgp_octets.specs.declared.fault.Reason.TheVariants.{Truncated}
use Rattle.opgp_frame.specs.declared.deframe.State.{State}
use Rattle.opgp_frame.specs.declared.deframe.State.TheVariants as states
use Rattle.opgp_frame.specs.declared.packet.Placed.{Placed}
use Rattle.opgp_frame.specs.Form.{exponents_of}
use Rattle.opgp_frame.specs.Length.{is_partial}
use Rattle.opgp_frame.specs.PacketFault.{header_fault}

-- this many exponents and octets of the body are within the limits
abbrev pub within : Limits → ℕ → ℕ → Bool
within limits exponents body =
    nat_le exponents (pieces_limit limits) && nat_le body (body_limit limits)

-- A reader in this state has this many exponents and octets of the body: none between packets,
-- after a fault, and after running out of memory.
abbrev pub state_fits : Limits → State → ℕ → ℕ → Bool
state_fits limits states.Between exponents body = (exponents == 0) && (body == 0)
state_fits limits (states.InLength header seen count) exponents body =
    nat_lt count 5 && is_none (header_fault header) && within limits exponents body
state_fits limits (states.InPiece header l from until) exponents body =
    is_none (header_fault header) && nat_le from until && nat_lt body until
    && within limits exponents until
    && nat_le (if is_partial l then exponents + 1 else exponents) (pieces_limit limits)
state_fits limits (states.Faulty reason inner) exponents body = (exponents == 0) && (body == 0)
state_fits limits states.Spent exponents body = (exponents == 0) && (body == 0)

-- the packet's first octet, and the octets of the length header that is being read
abbrev pub held_in_state : State → ℕ
held_in_state states.Between = 0
held_in_state (states.InLength header seen count) = 1 + count
held_in_state (states.InPiece header l from until) = 1
held_in_state (states.Faulty reason inner) = 0
held_in_state states.Spent = 0

-- of a packet the first octet, one octet a piece, and the body
abbrev pub held_in_ready : Option Placed → ℕ
held_in_ready None = 0
held_in_ready (Some p) = 1 + length (exponents_of p.packet.form) + length p.packet.body

-- what is held of the packet that is unfinished or ready
abbrev pub held_in : State → ℕ → ℕ → Option Placed → ℕ
held_in state exponents body ready = held_in_state state + exponents + body + held_in_ready ready

-- the fault of the unfinished packet if the octets end here, and its offset in the packet
abbrev pub state_fault : State → ℕ → ℕ → Option (Reason × ℕ)
state_fault states.Between exponents body = None
state_fault (states.InLength header seen count) exponents body =
    Some (Truncated, 1 + (exponents + body))
state_fault (states.InPiece header l from until) exponents body =
    Some (Truncated, 1 + (exponents + from))
state_fault (states.Faulty reason inner) exponents body = Some (reason, inner)
state_fault states.Spent exponents body = None

-- in a length header
abbrev pub IsInLength : State → Type 0
IsInLength (states.InLength header seen count) = Unit {0}
IsInLength states.Between = ⊥
IsInLength (states.InPiece header l from until) = ⊥
IsInLength (states.Faulty reason inner) = ⊥
IsInLength states.Spent = ⊥
