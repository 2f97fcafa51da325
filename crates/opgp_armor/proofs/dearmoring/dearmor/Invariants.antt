use Rattle.std.proofs.Common.{length, ◌-◌}
use Rattle.opgp_armor.specs.Rules.{line_rule}
use Rattle.opgp_armor.proofs.Reading.{Reads}
use Rattle.opgp_armor.proofs.dearmoring.dearmor.Given as goal

abbrev pub invariant-pieces : goal.invariant-pieces
invariant-pieces l = Reads (line_rule l.limits) l.reader l.building l.text l.at

abbrev pub decreases-pieces : goal.decreases-pieces
decreases-pieces l = length l.text - l.at
