use Rattle.opgp_codec.proofs.parts.open_block.Goals as goal

pub returns-in-Some-clause-fed : goal.returns-in-Some-clause-fed
returns-in-Some-clause-fed c = rw c.in-Some.is c.begin_block.ensures.fed
