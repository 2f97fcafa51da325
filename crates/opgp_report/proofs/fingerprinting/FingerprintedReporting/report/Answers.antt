use Rattle.opgp_report.proofs.Fingerprints.{all_reported}
use Rattle.opgp_report.proofs.fingerprinting.FingerprintedReporting.report.Goals as goal

pub returns : goal.returns
returns c r so = all_reported c.args.self _ r so (rw c.deref.ensures.value at c.sign_rows.ensures)
