use Rattle.clap.specs.Words.{found_of, rows_of}
use Rattle.opgp_tool.proofs.Reading.{no_time}
use Rattle.opgp_tool.proofs.states.at_of.Goals as goal

pub returns-in-Some-clause-none : goal.returns-in-Some-clause-none
returns-in-Some-clause-none c = no_time (rows_of (found_of c.args.matches.now)) c.in-Some.text.now c.time_in.result c.in-Some.ensures c.time_in.ensures.none
