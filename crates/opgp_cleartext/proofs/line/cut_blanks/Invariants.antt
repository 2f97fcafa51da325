use Rattle.std.proofs.Common.{◌≡◌, ◌≤◌, length, take}
use Rattle.opgp_cleartext.specs.Line.{without_blanks}
use Rattle.opgp_cleartext.proofs.line.cut_blanks.Given as goal

abbrev pub invariant-strip : goal.invariant-strip
invariant-strip l = (l.end ≤ length l.line) × (without_blanks (take l.end l.line) ≡ without_blanks l.line)

abbrev pub decreases-strip : goal.decreases-strip
decreases-strip l = l.end
