use Rattle.std.proofs.Common.{◌≡◌, length}
use Rattle.opgp_blocks.specs.Line.{ends_label}
use Rattle.opgp_blocks.proofs.kind.ends_label.Given as goal

abbrev pub invariant-label : goal.invariant-label
invariant-label l = ends_label l.rest ≡ ends_label l.octets

abbrev pub decreases-label : goal.decreases-label
decreases-label l = length l.rest
