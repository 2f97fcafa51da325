-- The packets that come from a source, each checked.
use Rattle.std.specs.Prelude.{◌≡◌, ◌≢◌, ℕ, Bool, true, false, List, [], Option, Ok, Err, Result}
use Rattle.std.specs.List.{flat_map}
use Rattle.opgp_octets.specs.Limits.{malformed_of}
use Rattle.opgp_octets.specs.declared.limits.Limits.{Limits}
use Rattle.opgp_frame.specs.declared.packet.Placed.{Placed}
use Rattle.opgp_keyring.specs.Composition.{Item, placed_in}
use Rattle.opgp_codec.specs.declared.accepts.Accepts.TheVariants.{Any}
use Rattle.opgp_codec.specs.declared.incoming_packets.IncomingPackets.{IncomingPackets}
use Rattle.opgp_codec.specs.declared.mode.Mode.{Mode}
use Rattle.opgp_codec.specs.declared.read_error.ReadError.{ReadError}
use Rattle.opgp_codec.specs.declared.read_error.ReadError.TheVariants as read
use Rattle.opgp_codec.specs.Incoming.{Came, HasEnded, IsHere, IsThrough}
use Rattle.opgp_codec.specs.Packets.{ArePackets, BlockValue, any_label}
use Rattle.opgp_codec.specs.Pulled.{OfInput}
use Rattle.opgp_codec.specs.Reading.{AnswerOf}
use Rattle.opgp_codec.specs.SoundPackets.{AreSoFar}

-- the packets of blocks, in order
abbrev pub packets_of : List BlockValue → List Placed
packets_of blocks = flat_map (λ b. b.packets) blocks

-- the packet that was found last
abbrev pub IsLent : IncomingPackets → List Placed → Type 0
IsLent p packets = IsHere p.incoming packets

-- so it is where one was found, which there is then, else none was
abbrev pub LentIf : Bool → IncomingPackets → List Placed → Type 0
LentIf true p packets = IsLent p packets × (packets ≢ [])
LentIf false p packets = packets ≡ []

-- Of what the source had before, octets have come up to where it is now, and the packets that they
-- complete, up to the first whose body has a fault, are those that were found.
pub record PacketsCame (mode : Mode) (limits : Limits) (before now : Option (List ℕ))
    (p : IncomingPackets) (packets : List Placed) : Type 0 where
  pub items : List Item
  pub came : Came Any mode limits before now p.incoming items
  pub policy : p.malformed ≡ malformed_of limits
  pub so_far : AreSoFar p.malformed (λ ps. ps ≡ packets) p.fault (placed_in items)

-- the source has no more, or one octet past the limit has come, and nothing waits
abbrev pub IsOver : IncomingPackets → Option (List ℕ) → Type 0
IsOver p now = IsThrough p.incoming × HasEnded p.incoming now

-- the result at the end, unless memory ran out: the octets that came are these packets, or have
-- this fault
abbrev pub EndsAs : Mode → Limits → Option (List ℕ) → Option (List ℕ) → List Placed
    → Result Unit ReadError → Type 0
EndsAs mode limits before now packets (Ok done) = OfInput before now limits
    (λ octets. (blocks : List BlockValue)
    × AnswerOf any_label (ArePackets limits) mode limits octets (Ok blocks)
    × (packets_of blocks ≡ packets))
EndsAs mode limits before now packets (Err (read.Refused fault)) = OfInput before now limits
    (λ octets. AnswerOf any_label (ArePackets limits) mode limits octets (Err fault))
EndsAs mode limits before now packets (Err read.Read) = ⊥
EndsAs mode limits before now packets (Err read.Memory) = Unit {0}
