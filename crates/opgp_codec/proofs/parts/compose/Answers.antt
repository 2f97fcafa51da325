use Rattle.opgp_codec.proofs.parts.compose.Goals as goal

pub returns-in-Ok-clause-fed : goal.returns-in-Ok-clause-fed
returns-in-Ok-clause-fed c = rw c.in-Some.is c.in-Ok.ensures.fed
