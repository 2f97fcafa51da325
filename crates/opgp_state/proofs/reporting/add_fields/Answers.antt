use Rattle.opgp_state.proofs.reporting.add_fields.Goals as goal

pub returns-in-Asked : goal.returns-in-Asked
returns-in-Asked g c = rw c.in-Asked.is c.add_asked.ensures

pub returns-in-NotAsked : goal.returns-in-NotAsked
returns-in-NotAsked g c = rw c.in-NotAsked.is c.add_none.ensures
