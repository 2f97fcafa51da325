use Rattle.std.proofs.Common.{◌≡◌, false, List, ℕ}
use Rattle.opgp_codec.specs.Draft.{DraftHas}
use Rattle.opgp_codec.specs.IncomingOctets.{OctetsCame, octets_left}
use Rattle.opgp_stack.specs.Canonical.{HasTextOf}
use Rattle.opgp_stack.proofs.canonical.add_all.Given as goal

-- what came is held as text
abbrev pub invariant-pieces : goal.invariant-pieces
invariant-pieces g l = record {
  sound : g.R.Source.has_failed l.source ≡ false;
  octets : List ℕ;
  came : OctetsCame l.limits (g.R.Source.left l.fn.source) (g.R.Source.left l.source) l.incoming octets;
  held : HasTextOf (DraftHas g.S.Spool.serves g.S.Spool.tells g.S.Spool.holds g.S.Spool.has_failed) l.text octets;
}

abbrev pub decreases-pieces : goal.decreases-pieces
decreases-pieces g l = octets_left l.incoming
