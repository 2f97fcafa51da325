use Rattle.std.proofs.Common.{◌≡◌, ◌++◌, length}
use Rattle.std.specs.List.{flat_map}
use Rattle.opgp_report.specs.Report.{certificate_keys, keys_in}
use Rattle.opgp_report.specs.Signers.{signers_keys}
use Rattle.opgp_report.proofs.signers.Signers.of.Given as goal

-- the keys so far, and those that are to come, are all
abbrev pub invariant-certificates : goal.invariant-certificates
invariant-certificates l = signers_keys l.signers ++ flat_map certificate_keys l.rest ≡ keys_in l.fn.keyring

abbrev pub decreases-certificates : goal.decreases-certificates
decreases-certificates l = length l.rest
