use Rattle.std.proofs.Common.{length}
use Rattle.opgp.specs.Codec.Waiting.{parts_in}
use Rattle.opgp_examples.proofs.certificates.certificates.Given as goal

abbrev pub decreases-rest : goal.decreases-rest
decreases-rest g l = length (parts_in l.waiting)
