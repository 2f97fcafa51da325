-- Packets that are read in pieces, and wait until they are taken.
use Rattle.std.specs.Prelude.{◌≡◌, ◌≤◌, ℕ, ◌+◌, List, ◌++◌, Option}
use Rattle.opgp_octets.specs.declared.fault.Fault.{Fault}
use Rattle.opgp_octets.specs.declared.limits.Limits.{Limits}
use Rattle.opgp_octets.specs.declared.malformed.Malformed.{Malformed}
use Rattle.opgp_octets.specs.Limits.{body_limit, line_limit, malformed_of, pieces_limit}
use Rattle.opgp_frame.specs.declared.packet.Placed.{Placed}
use Rattle.opgp_frame.specs.Fed.{held_of as packet_held}
use Rattle.opgp_keyring.specs.Composition.{Item, placed_in}
use Rattle.opgp_codec.specs.declared.accepts.Accepts.TheVariants.{Any}
use Rattle.opgp_codec.specs.declared.packet_reader.PacketReader.{PacketReader}
use Rattle.opgp_codec.specs.declared.waiting_packets.WaitingPackets.{WaitingPackets}
use Rattle.opgp_codec.specs.Items.{Fed, IsDone, count_of}
use Rattle.opgp_codec.specs.Packets.{any_label}
use Rattle.opgp_codec.specs.Parts.{front_held}
use Rattle.opgp_codec.specs.Reading.{AnswerOf, Outcome}
use Rattle.opgp_codec.specs.SoundPackets.{AreSoFar, AreSound}
pub use Rattle.opgp_codec.specs.Found.{handed}
pub use Rattle.opgp_codec.specs.Used.{UseOf, given, shown_count, taking, unused}

-- how a reader of packets was used
abbrev pub PacketUse : Type 0
PacketUse = UseOf Placed

-- in order
abbrev pub packets_in : WaitingPackets → List Placed
packets_in w = w.packets.items

-- The packets up to the first whose body has a fault are those that were taken, and behind them
-- those that wait.
abbrev pub IsSoFar : Malformed → List Placed → Option Fault → WaitingPackets → List Item → Type 0
IsSoFar policy taken fault waiting items =
    AreSoFar policy (λ packets. packets ≡ taken ++ packets_in waiting) fault (placed_in items)

-- The reader was used so: what was taken of it and what waits are the packets of what the input
-- begins with.
pub record IsUsed (u : PacketUse) (r : PacketReader) : Type 0 where
  pub items : List Item
  pub fed : Fed Any u.mode u.limits r.items u.input items
  pub policy : r.malformed ≡ malformed_of u.limits
  pub so_far : IsSoFar r.malformed u.taken r.fault r.waiting items
  pub counted : r.taken ≡ shown_count u.taken
  pub done : IsDone r.items

-- how many octets it was given
abbrev pub octets_given : PacketReader → ℕ
octets_given r = count_of r.items

-- the packets that wait to be taken, in order
abbrev pub waits : PacketReader → List Placed
waits r = packets_in r.waiting

-- how many packets were taken from it, as it is shown
abbrev pub taken_count : PacketReader → ℕ
taken_count r = r.taken

-- What its two readers hold together: of the armor an unfinished line, and the unfinished packet.
-- The packets that wait are not counted.
abbrev pub held_of : PacketReader → ℕ
held_of r = front_held r.items.front + packet_held r.items.framer.deframe

-- the most that is
abbrev pub most_held : Limits → ℕ
most_held l = line_limit l + body_limit l + pieces_limit l + 32

-- within these limits it was given some octets, and holds no more than they allow
pub record IsReading (limits : Limits) (r : PacketReader) : Type 0 where
  pub so_far : PacketUse
  pub limits_kept : so_far.limits ≡ limits
  pub used : IsUsed so_far r
  pub held : held_of r ≤ most_held limits

-- The answer to all octets (RFC 9580, 4): their packets, none of which has a fault in its body, are
-- those that were taken and those that still wait; or the one fault.
abbrev pub Ends : PacketUse → Outcome WaitingPackets → Type 0
Ends u answer = AnswerOf any_label (λ items. AreSound (malformed_of u.limits)
    (λ waiting packets. packets ≡ u.taken ++ packets_in waiting) (placed_in items))
    u.mode u.limits u.input answer
