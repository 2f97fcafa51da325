use Rattle.std.proofs.Common.{◌≡◌, take}
use Rattle.opgp_merge.proofs.closing.close_all.Given as goal

abbrev pub invariant-loop-certificate : goal.invariant-loop-certificate
invariant-loop-certificate l = l.closed.items ≡ take l.certificate-index l.open
