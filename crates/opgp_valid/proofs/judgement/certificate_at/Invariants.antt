use Rattle.std.proofs.Common.{◌≡◌, length}
use Rattle.std.specs.List.{slice_get}
use Rattle.opgp_valid.specs.Judgement.{verdicts_from}
use Rattle.opgp_valid.proofs.judgement.certificate_at.Given as goal

-- it is among those that are to come, and its verdicts are among the others
abbrev pub invariant-certificates : goal.invariant-certificates
invariant-certificates l = record {
  here : slice_get l.fn.certificates l.fn.number ≡ slice_get l.rest l.left;
  verdicts : verdicts_from l.fn.certificates l.fn.number l.fn.verdicts ≡ verdicts_from l.rest l.left l.found;
}

abbrev pub decreases-certificates : goal.decreases-certificates
decreases-certificates l = length l.rest
