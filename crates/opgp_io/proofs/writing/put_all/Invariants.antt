use Rattle.std.proofs.Common.{length, take, ◌-◌, ◌≡◌, ◌≤◌, false}
use Rattle.std.specs.Io.KnownBytes.{Appends}
use Rattle.opgp_io.proofs.writing.put_all.Given as goal

-- the octets before `at` are put, and nothing failed
abbrev pub invariant-pieces : goal.invariant-pieces
invariant-pieces g l = record {
  within : l.at ≤ length l.octets;
  put : Appends (g.W.Sink.held l.fn.writer) (g.W.Sink.held l.writer) (take l.at l.octets);
  sound : g.W.Sink.has_failed l.writer ≡ false;
}

abbrev pub decreases-pieces : goal.decreases-pieces
decreases-pieces g l = length l.octets - l.at
