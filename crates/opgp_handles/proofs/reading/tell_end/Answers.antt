use Rattle.std.proofs.Common.{refl}
use Rattle.opgp_handles.proofs.reading.tell_end.Goals as goal

-- the fault is the one that the reading keeps
pub returns-in-Refused-clause-refused : goal.returns-in-Refused-clause-refused
returns-in-Refused-clause-refused g c = λ _. (c.in-Refused.found, rw c.in-Refused.is (refl, rw c.in-Refused.is at c.requires), c.of.ensures)
