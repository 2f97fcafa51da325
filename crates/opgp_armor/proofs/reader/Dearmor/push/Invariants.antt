use Rattle.std.proofs.Common.{length, ◌-◌}
use Rattle.opgp_armor.proofs.Pushing.{Pushed}
use Rattle.opgp_armor.proofs.reader.Dearmor.push.Given as goal

abbrev pub invariant-parts : goal.invariant-parts
invariant-parts l = Pushed l.fn.self l.self l.piece l.taken

abbrev pub decreases-parts : goal.decreases-parts
decreases-parts l = length l.piece - l.taken
