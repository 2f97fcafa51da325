use Rattle.opgp_handles.proofs.reading.end.Goals as goal

pub finish-requires : goal.finish-requires
finish-requires g c = (g.so_far, rw c.in-Going.is at c.requires)

-- a reading that was refused is refused again
pub returns-in-Refused-clause-over : goal.returns-in-Refused-clause-over
returns-in-Refused-clause-over g c = rw c.in-Refused.is at c.requires

pub returns-in-Ok-Err-clause-over : goal.returns-in-Ok-Err-clause-over
returns-in-Ok-Err-clause-over g c = rw c.in-Ok-Err.field-0-is at (c.in-Ok-Err.ensures g.so_far (rw c.in-Going.is at c.requires))
