use Rattle.std.proofs.Common.{◌≡◌, ◌++◌, All, drop, length}
use Rattle.opgp_hash.specs.Subject.{subject_value}
use Rattle.opgp_keyring.specs.Grouped.{hangs_left}
use Rattle.opgp_keyring.specs.Keyring.{IsHung, certificate_packets}
use Rattle.opgp_valid.specs.KnownKeys.{knowns}
use Rattle.opgp_bound.specs.Judged.{rows_on}
use Rattle.opgp_bound.specs.Newest.{newest_hangs, newest_rows}
use Rattle.opgp_bound.specs.Replacing.{time_of}
use Rattle.opgp_bound.proofs.role.Context.add_newest_hangs.Given as goal

abbrev pub invariant-hangs : goal.invariant-hangs
invariant-hangs l = record {
  hung : All IsHung (hangs_left l.hangs);
  packets : certificate_packets l.chosen ++ newest_hangs (time_of l.fn.times) (knowns l.fn.self.known.now) l.fn.self.primary (subject_value l.fn.subject) (hangs_left l.hangs) l.rest
      ≡ certificate_packets l.fn.chosen ++ newest_hangs (time_of l.fn.times) (knowns l.fn.self.known.now) l.fn.self.primary (subject_value l.fn.subject) (hangs_left l.fn.hangs) l.fn.verdicts;
  founds : l.founds.items ++ newest_rows (time_of l.fn.times) (knowns l.fn.self.known.now) l.fn.self.primary (subject_value l.fn.subject) (hangs_left l.hangs) l.rest
      ≡ l.fn.founds.items ++ newest_rows (time_of l.fn.times) (knowns l.fn.self.known.now) l.fn.self.primary (subject_value l.fn.subject) (hangs_left l.fn.hangs) l.fn.verdicts;
  rows : drop (rows_on (subject_value l.fn.subject) (hangs_left l.hangs)) l.rest ≡ drop (rows_on (subject_value l.fn.subject) (hangs_left l.fn.hangs)) l.fn.verdicts;
}

abbrev pub decreases-hangs : goal.decreases-hangs
decreases-hangs l = length (hangs_left l.hangs)
