use Rattle.std.proofs.Common.{◌≡◌, ◌++◌, drop, length}
use Rattle.opgp_hash.specs.Subject.{subject_value}
use Rattle.opgp_keyring.specs.Grouped.{hangs_left}
use Rattle.opgp_valid.specs.KnownKeys.{knowns}
use Rattle.opgp_bound.specs.Judged.{judged_hangs, rows_on}
use Rattle.opgp_bound.proofs.role.Context.judge_hangs.Given as goal

abbrev pub invariant-hangs : goal.invariant-hangs
invariant-hangs l = record {
  judged : l.all.items ++ judged_hangs (knowns l.fn.self.known.now) l.fn.self.primary (subject_value l.fn.subject) (hangs_left l.hangs) l.rest
      ≡ judged_hangs (knowns l.fn.self.known.now) l.fn.self.primary (subject_value l.fn.subject) (hangs_left l.fn.hangs) l.fn.verdicts;
  rows : drop (rows_on (subject_value l.fn.subject) (hangs_left l.hangs)) l.rest ≡ drop (rows_on (subject_value l.fn.subject) (hangs_left l.fn.hangs)) l.fn.verdicts;
}

abbrev pub decreases-hangs : goal.decreases-hangs
decreases-hangs l = length (hangs_left l.hangs)
