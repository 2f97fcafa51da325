use Rattle.std.proofs.Common.{◌≡◌, ◌+◌, ◌≤◌, false, length, true}
use Rattle.opgp_codec.proofs.Spooling.{Took}
use Rattle.opgp_codec.proofs.spooled.add_spooled.Given as goal

-- all is added but what the spool still holds, of which each turn takes some
abbrev pub invariant-pieces : goal.invariant-pieces
invariant-pieces g l = record {
  took : Took g.S.Spool.tells g.W.Sink.held g.W.Sink.has_failed l.fn.output l.fn.armoring l.output l.armoring (g.S.Spool.holds l.spool) (g.S.Spool.holds l.fn.spool);
  sound : g.S.Spool.has_failed l.spool ≡ false;
  few : g.S.Spool.tells ≡ true → l._turn + length (g.S.Spool.holds l.spool) ≤ length (g.S.Spool.holds l.fn.spool);
}
