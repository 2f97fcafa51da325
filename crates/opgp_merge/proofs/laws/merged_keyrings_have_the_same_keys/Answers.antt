use Rattle.opgp_report.specs.Report.{keys_in}
use Rattle.opgp_merge.specs.Merged.{merged_of}
use Rattle.opgp_merge.proofs.Asking.{keys_all, keys_only}
use Rattle.opgp_merge.proofs.Within.{contains, within}
use Rattle.opgp_merge.proofs.laws.merged_keyrings_have_the_same_keys.Goals as goal

pub returns-clause-all : goal.returns-clause-all
returns-clause-all c r body h = contains (keys_in (merged_of r)) body (keys_all r body (within (keys_in r) body h))

pub returns-clause-only : goal.returns-clause-only
returns-clause-only c r body h = contains (keys_in r) body (keys_only r body (within (keys_in (merged_of r)) body h))
