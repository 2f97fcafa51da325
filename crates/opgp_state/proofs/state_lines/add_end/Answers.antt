use Rattle.std.proofs.Common.{codes, ◌++◌}
use Rattle.opgp_io.proofs.Extended.{extends_stop, extends_then}
use Rattle.opgp_state.specs.Report.{joined}
use Rattle.opgp_state.specs.StateLines.{cause_words}
use Rattle.opgp_state.proofs.StateTexts.{values_line}
use Rattle.opgp_state.proofs.state_lines.add_end.Goals as goal

pub returns-in_err-add_dates : goal.returns-in_err-add_dates
returns-in_err-add_dates g c =
    extends_stop (joined (cause_words c.args.cause) ++ codes "\n") (values_line c.args.values c.args.state c.args.cause c.if-not-values.false) c.from_residual.ensures.0 c.in_err-add_dates.ensures

pub returns : goal.returns
returns g c = extends_then (values_line c.args.values c.args.state c.args.cause c.if-not-values.false) c.in_ok-add_dates.ensures c.add_cause.ensures
