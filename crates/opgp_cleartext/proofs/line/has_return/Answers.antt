use Rattle.std.proofs.Common.{sym, arith}
use Rattle.opgp_cleartext.proofs.Cutting.{no_return}
use Rattle.opgp_cleartext.proofs.line.has_return.Goals as goal

pub returns-in-None : goal.returns-in-None
returns-in-None c = sym (no_return c.args.octets.now (λ k l e. c.in-None.ensures k (omega arith) l e))
