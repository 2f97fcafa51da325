use Rattle.std.proofs.Common.{◌≡◌, take}
use Rattle.opgp_merge.proofs.open.open_all.Given as goal

abbrev pub invariant-loop-certificate : goal.invariant-loop-certificate
invariant-loop-certificate l = l.open.items ≡ take l.certificate-index l.certificates
