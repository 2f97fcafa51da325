use Rattle.std.proofs.Common.{◌≡◌, ◌++◌, All, length}
use Rattle.opgp_keyring.specs.Grouped.{hangs_left}
use Rattle.opgp_keyring.specs.Keyring.{IsHung, certificate_packets}
use Rattle.opgp_merge.specs.Chosen.{own_hangs}
use Rattle.opgp_merge.proofs.own.add_own.Given as goal

abbrev pub invariant-hangs : goal.invariant-hangs
invariant-hangs l = record {
  hung : All IsHung (hangs_left l.hangs);
  value : certificate_packets l.chosen ++ own_hangs l.fn.own (hangs_left l.hangs) ≡ certificate_packets l.fn.chosen ++ own_hangs l.fn.own (hangs_left l.fn.hangs);
}

abbrev pub decreases-hangs : goal.decreases-hangs
decreases-hangs l = length (hangs_left l.hangs)
