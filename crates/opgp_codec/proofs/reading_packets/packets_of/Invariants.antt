use Rattle.std.proofs.Common.{◌≡◌, false, List}
use Rattle.opgp_keyring.specs.Composition.{Item}
use Rattle.opgp_codec.specs.Incoming.{Came, left_in}
use Rattle.opgp_codec.specs.Packets.{AreIn}
use Rattle.opgp_codec.specs.declared.accepts.Accepts.TheVariants.{Any}
use Rattle.opgp_codec.proofs.reading_packets.packets_of.Given as goal

-- the blocks have all that was found
abbrev pub invariant-steps : goal.invariant-steps
invariant-steps g l = record {
  sound : g.R.Source.has_failed l.reader ≡ false;
  has : (items : List Item) × Came Any l.fn.mode l.fn.limits (g.R.Source.left l.fn.reader) (g.R.Source.left l.reader) l.incoming items × AreIn l.blocks items;
}

abbrev pub decreases-steps : goal.decreases-steps
decreases-steps g l = left_in l.incoming
