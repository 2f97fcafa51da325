use Rattle.std.proofs.Common.{◌≤◌, ◌-◌, drop, length, map}
use Rattle.opgp_io.proofs.Extended.{ExtendsAllBut}
use Rattle.opgp_stack.specs.Documents.{digest_lines, read_shown}
use Rattle.opgp_stack.proofs.digest_lines.add_lines.Given as goal

-- all lines are added but those of the signatures that are left
abbrev pub invariant-signatures : goal.invariant-signatures
invariant-signatures g l = record {
  but : ExtendsAllBut g.W.Sink.held g.W.Sink.has_failed l.fn.output l.output (digest_lines l.number (drop l.number (map read_shown l.reads)) (drop l.number l.answers)) (digest_lines 0 (map read_shown l.fn.reads) l.fn.answers);
  count : l.number ≤ length l.reads;
}

abbrev pub decreases-signatures : goal.decreases-signatures
decreases-signatures g l = length l.reads - l.number
