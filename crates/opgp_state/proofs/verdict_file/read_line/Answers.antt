use Rattle.opgp_report.specs.Row.{row_value}
use Rattle.opgp_state.proofs.Lines.{line_found, line_missed, line_unfit}
use Rattle.opgp_state.proofs.verdict_file.read_line.Goals as goal

pub returns-in-Some-clause-some : goal.returns-in-Some-clause-some
returns-in-Some-clause-some c = line_found c.args.number (row_value c.args.row.now) c.args.file.now c.in-Some.octets.now c.said_of.result (rw (c.deref.ensures.value, c.in_ok-front.ensures) at c.in-Some.ensures.some) c.said_of.ensures.some

pub returns-in-Some-clause-none : goal.returns-in-Some-clause-none
returns-in-Some-clause-none c = line_missed c.args.number (row_value c.args.row.now) c.args.file.now c.in-Some.octets.now c.said_of.result (rw (c.deref.ensures.value, c.in_ok-front.ensures) at c.in-Some.ensures.some) c.said_of.ensures.none

pub returns-clause-none : goal.returns-clause-none
returns-clause-none c = line_unfit c.args.number (row_value c.args.row.now) c.args.file.now (rw (c.deref.ensures.value, c.in_ok-front.ensures) at c.in-None.ensures.none)
