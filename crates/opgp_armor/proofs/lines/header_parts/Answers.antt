use Rattle.std.proofs.Common.{arith}
use Rattle.opgp_armor.proofs.Colons.{header_none, header_empty, header_some}
use Rattle.opgp_armor.proofs.lines.header_parts.Goals as goal

pub returns-then-i-eq0 : goal.returns-then-i-eq0
returns-then-i-eq0 c = let h = c.in-Some.ensures in header_empty c.args.content.now c.in-Some.i (omega arith) h.0.high h.1

pub returns-else-i-eq0 : goal.returns-else-i-eq0
returns-else-i-eq0 c =
    let h = c.in-Some.ensures in
    header_some c.args.content.now _ c.in-Some.i (λ z. absurd (omega arith)) h.0.high (λ k lt e. h.0.before k (omega arith) lt e) h.1 c.value_of.ensures

pub returns-in-None : goal.returns-in-None
returns-in-None c = header_none c.args.content.now (λ k lt e. c.in-None.ensures k (omega arith) lt e)
