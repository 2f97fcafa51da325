use Rattle.std.proofs.Common.{length}
use Rattle.opgp_frame.proofs.Holding.{faulty_held, spent_held}
use Rattle.opgp_frame.proofs.laws.nothing_is_held_after_a_fault.Goals as goal

pub returns-clause-fault : goal.returns-clause-fault
returns-clause-fault c d fault e free =
    faulty_held d.limits d.state (length d.exponents.items) (length d.body.items) d.block d.start d.ready fault d.fits e free

pub returns-clause-spent : goal.returns-clause-spent
returns-clause-spent c d e free =
    spent_held d.limits d.state (length d.exponents.items) (length d.body.items) d.ready d.fits e free
