use Rattle.std.proofs.Common.{◌≡◌, false, ℕ, List, Option, [], flat_map}
use Rattle.opgp_octets.specs.declared.limits.Limits.{Limits}
use Rattle.opgp_frame.specs.declared.packet.Placed.{Placed}
use Rattle.opgp_codec.specs.declared.mode.Mode.{Mode}
use Rattle.opgp_codec.specs.Draft.{DraftHas}
use Rattle.opgp_codec.specs.Incoming.{left_in}
use Rattle.opgp_codec.specs.IncomingPackets.{PacketsCame}
use Rattle.opgp_stack.specs.PacketText.{lines_of_packet}
use Rattle.opgp_stack.proofs.showing_from.show_each.Given as goal

-- the draft has the lines of the packets that came
abbrev pub invariant-packets : goal.invariant-packets
invariant-packets g l = (g.R.Source.has_failed l.source ≡ false) × (list : List Placed)
    × ((mode : Mode) (limits : Limits) (before : Option (List ℕ)) → PacketsCame mode limits before (g.R.Source.left l.fn.source) l.fn.incoming [] → PacketsCame mode limits before (g.R.Source.left l.source) l.incoming list)
    × (DraftHas g.S.Spool.serves g.S.Spool.tells g.S.Spool.holds g.S.Spool.has_failed l.fn.draft [] → DraftHas g.S.Spool.serves g.S.Spool.tells g.S.Spool.holds g.S.Spool.has_failed l.draft (flat_map (lines_of_packet l.text) list))

abbrev pub decreases-packets : goal.decreases-packets
decreases-packets g l = left_in l.incoming.incoming
