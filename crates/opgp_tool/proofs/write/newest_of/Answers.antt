use Rattle.clap.specs.Words.{found_of, rows_of}
use Rattle.opgp_tool.proofs.Reading.{no_newest}
use Rattle.opgp_tool.proofs.write.newest_of.Goals as goal

pub returns-in-None-time_in-clause-none : goal.returns-in-None-time_in-clause-none
returns-in-None-time_in-clause-none c = no_newest (rows_of (found_of c.args.matches.now)) c.in-Some.text.now c.in-Some.ensures c.in-None-time_in.ensures.none
