use Rattle.std.proofs.Common.{◌≡◌, ◌≤◌, length, take}
use Rattle.opgp_armor.specs.Text.{content}
use Rattle.opgp_cleartext.proofs.line.content_of.Given as goal

abbrev pub invariant-strip : goal.invariant-strip
invariant-strip l = (l.end ≤ length l.line) × (content (take l.end l.line) ≡ content l.line)

abbrev pub decreases-strip : goal.decreases-strip
decreases-strip l = l.end
