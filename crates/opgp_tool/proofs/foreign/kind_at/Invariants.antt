use Rattle.std.proofs.Common.{◌≡◌, false, ℕ, List, Option, []}
use Rattle.opgp_octets.specs.declared.limits.Limits.{Limits}
use Rattle.opgp_frame.specs.declared.packet.Placed.{Placed}
use Rattle.opgp_codec.specs.declared.mode.Mode.{Mode}
use Rattle.opgp_codec.specs.Incoming.{left_in}
use Rattle.opgp_codec.specs.IncomingPackets.{PacketsCame}
use Rattle.opgp_tool.proofs.foreign.kind_at.Given as goal

-- some packets came
abbrev pub invariant-packets : goal.invariant-packets
invariant-packets g l = (g.R.Source.has_failed l.source ≡ false) × (list : List Placed) × (mode : Mode) × (limits : Limits) × (before : Option (List ℕ))
    × PacketsCame mode limits before (g.R.Source.left l.source) l.packets list

abbrev pub decreases-packets : goal.decreases-packets
decreases-packets g l = left_in l.packets.incoming
