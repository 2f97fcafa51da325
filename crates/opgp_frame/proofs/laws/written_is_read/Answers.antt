use Rattle.std.proofs.Common.{[], refl}
use Rattle.opgp_frame.proofs.Lists.{Fed-longest, Frames-longest, one_longest}
use Rattle.opgp_frame.proofs.laws.written_is_read.Goals as goal

pub returns : goal.returns
returns c limits block d packets taken stand f =
    (one_longest limits block _ _ packets f.rest [] (Fed-longest limits block d _ taken f) (Frames-longest limits block _ packets (record { whole = refl; stand = stand }))).0
