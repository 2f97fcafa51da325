-- What is shown of the packets of octets.
use Rattle.std.specs.Prelude.{◌≡◌, ℕ, Bool, false, List, [], Option, Ok, Err, MatchResult}
use Rattle.std.specs.List.{flat_map}
use Rattle.opgp_octets.specs.declared.limits.Limits.{Limits}
use Rattle.opgp_frame.specs.declared.packet.Placed.{Placed}
use Rattle.opgp_codec.specs.IncomingPackets.{IsOver, PacketsCame}
use Rattle.opgp_codec.specs.declared.incoming_packets.IncomingPackets.{IncomingPackets}
use Rattle.opgp_codec.specs.declared.mode.Mode.{Mode}
use Rattle.opgp_codec.specs.Packets.{ArePackets, BlockValue, any_label}
use Rattle.opgp_codec.specs.Reading.{AnswerOf, Outcome}
use Rattle.opgp_stack.specs.PacketText.{lines_of_packet}
use Rattle.opgp_stack.specs.Showing.{lines_of}
use Rattle.opgp_stack.specs.declared.packet_text.PacketText.{PacketText}
use Rattle.opgp_stack.specs.declared.task.Task.{Task}

-- The octets are blocks of packets, and what has a text has the lines of them all; or this is the
-- fault of the octets.
abbrev pub IsShownOf : {A : Type 0} → (A → List ℕ → Type 0) → PacketText → Task → List ℕ → Outcome A
    → Type 0
IsShownOf has text task octets answer = MatchResult answer
    (λ draft. (blocks : List BlockValue)
    × AnswerOf any_label (ArePackets task.limits) task.mode task.limits octets (Ok blocks)
    × has draft (lines_of (lines_of_packet text) blocks))
    (λ fault. AnswerOf {A = List BlockValue} any_label (ArePackets task.limits)
    task.mode task.limits octets
    (Err fault))

-- Packets came up to the end of what a source had, and the lines of each were added to a text.
pub record Shows {R D : Type 0} (has : D → List ℕ → Type 0) (text : PacketText)
    (left : R → Option (List ℕ)) (failed : R → Bool) (old new : R) (p p' : IncomingPackets)
    (draft draft' : D) : Type 0 where
  pub packets : List Placed
  pub sound : failed new ≡ false
  pub came : (mode : Mode) (limits : Limits) (before : Option (List ℕ))
      → PacketsCame mode limits before (left old) p []
      → PacketsCame mode limits before (left new) p' packets
  pub over : IsOver p' (left new)
  pub added : has draft [] → has draft' (flat_map (lines_of_packet text) packets)
