use Rattle.opgp_report.specs.Asked.{asked_of}
use Rattle.opgp_merge.specs.Merged.{merged_of}
use Rattle.opgp_merge.proofs.Asking.{asked_all, asked_only}
use Rattle.opgp_merge.proofs.Within.{contains, within}
use Rattle.opgp_merge.proofs.laws.merged_keyrings_ask_the_same.Goals as goal

pub returns-clause-all : goal.returns-clause-all
returns-clause-all c r a h = contains (asked_of (merged_of r)) a (asked_all r a (within (asked_of r) a h))

pub returns-clause-only : goal.returns-clause-only
returns-clause-only c r a h = contains (asked_of r) a (asked_only r a (within (asked_of (merged_of r)) a h))
