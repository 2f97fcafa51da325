use Rattle.std.proofs.Common.{◌≡◌, false}
use Rattle.opgp_codec.specs.IncomingOctets.{OctetsCame, octets_left}
use Rattle.opgp_stack.proofs.reading_octets.read_octets.Given as goal

-- what came is kept
abbrev pub invariant-pieces : goal.invariant-pieces
invariant-pieces g l = record {
  sound : g.R.Source.has_failed l.source ≡ false;
  came : OctetsCame l.limits (g.R.Source.left l.fn.source) (g.R.Source.left l.source) l.incoming l.octets.items;
}

abbrev pub decreases-pieces : goal.decreases-pieces
decreases-pieces g l = octets_left l.incoming
