use Rattle.std.proofs.Common.{◌≡◌, ◌++◌, length, map}
use Rattle.std.specs.List.{flat_map}
use Rattle.opgp_report.specs.Report.{certificate_keys}
use Rattle.opgp_valid.specs.KnownKeys.{known_in, known_of, knowns}
use Rattle.opgp_valid.proofs.known_keys.KnownKeys.of.Given as goal

-- the keys so far, and those that are to come, are all
abbrev pub invariant-certificates : goal.invariant-certificates
invariant-certificates l = knowns l.known ++ map known_of (flat_map certificate_keys l.rest) ≡ known_in l.fn.keyring

abbrev pub decreases-certificates : goal.decreases-certificates
decreases-certificates l = length l.rest
