use Rattle.std.proofs.Common.{◌∙◌}
use Rattle.opgp_report.proofs.Reported.{reported}
use Rattle.opgp_report.proofs.reporting.Reporting.report.Goals as goal

pub returns : goal.returns
returns c r so = c.signed.ensures ∙ reported c.args.self r so
