use Rattle.std.proofs.Common.{sym, arith, ◌∙◌}
use Rattle.opgp_stack.proofs.Looking.{nth_here, nth_lead, nth_passed, nth_still}
use Rattle.opgp_stack.proofs.nth_certificate.NthCertificate.keep.Goals as goal

pub returns-in_default : goal.returns-in_default
returns-in_default c = rw c.in_default.ensures.1 (λ number parts h. nth_lead number c.args.self.now.left c.args.self.now.found parts _ h)

pub returns-then-is_some : goal.returns-then-is_some
returns-then-is_some c = rw c.in-Some.ensures (λ number parts h. nth_still number c.args.self.now.left c.args.self.now.found parts _ (sym c.is_some.ensures ∙ c.if-is_some.true) h)

pub returns-then-self-gt0 : goal.returns-then-self-gt0
returns-then-self-gt0 c = rw c.in-Some.ensures (λ number parts h. nth_passed number c.args.self.now.left _ c.args.self.now.found parts _ (sym c.is_some.ensures ∙ c.if-is_some.false) (omega arith) h)

pub returns : goal.returns
returns c = rw c.in-Some.ensures (λ number parts h. nth_here number c.args.self.now.left c.args.self.now.found _ parts _ (sym c.is_some.ensures ∙ c.if-is_some.false) (omega arith) c.replace.ensures.after h)
