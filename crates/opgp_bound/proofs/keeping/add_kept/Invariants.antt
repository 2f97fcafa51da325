use Rattle.std.proofs.Common.{◌≡◌, ◌++◌, All, length}
use Rattle.std.specs.List.{filter}
use Rattle.opgp_keyring.specs.Keyring.{certificate_packets}
use Rattle.opgp_bound.specs.Bound.{packets_of, role_stays}
use Rattle.opgp_bound.proofs.Kept.{Hung}
use Rattle.opgp_bound.proofs.keeping.add_kept.Given as goal

abbrev pub invariant-hangs : goal.invariant-hangs
invariant-hangs l = record {
  hung : All Hung l.rest;
  value : certificate_packets l.chosen ++ packets_of (filter (λ j. role_stays j.role) l.rest)
      ≡ certificate_packets l.fn.chosen ++ packets_of (filter (λ j. role_stays j.role) l.fn.hangs);
}

abbrev pub decreases-hangs : goal.decreases-hangs
decreases-hangs l = length l.rest
