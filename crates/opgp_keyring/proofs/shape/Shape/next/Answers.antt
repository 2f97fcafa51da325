use Rattle.opgp_keyring.proofs.shape.Shape.next.Goals as goal

pub returns-in-Opening-clause-ends : goal.returns-in-Opening-clause-ends
returns-in-Opening-clause-ends c = rw c.in-Opening.is c.open.ensures.ends

pub returns-in-Closing-clause-ends : goal.returns-in-Closing-clause-ends
returns-in-Closing-clause-ends c = rw c.in-Closing.is c.close.ensures.ends
