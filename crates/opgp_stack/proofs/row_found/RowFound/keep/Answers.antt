use Rattle.std.proofs.Common.{Some, ap, sym, ◌∙◌}
use Rattle.opgp_keyring.specs.Keyring.{KeyringValue}
use Rattle.opgp_stack.proofs.Looking.{row_here, row_lead, row_passed, row_still}
use Rattle.opgp_stack.proofs.row_found.RowFound.keep.Goals as goal

pub returns-in_default : goal.returns-in_default
returns-in_default c = rw c.in_default.ensures.1 (λ number parts h. row_lead number c.args.self.now.left c.args.self.now.found parts _ h)

pub returns-then-is_some : goal.returns-then-is_some
returns-then-is_some c = rw c.in-Some.ensures (λ number parts h. row_still number c.args.self.now.left c.args.self.now.found parts _ (sym c.is_some.ensures ∙ c.if-is_some.true) h)

pub returns-in-Some-rows_left : goal.returns-in-Some-rows_left
returns-in-Some-rows_left c = rw c.in-Some.ensures (λ number parts h. row_passed number c.args.self.now.left c.in-Some-rows_left.left c.args.self.now.found parts _ (sym c.is_some.ensures ∙ c.if-is_some.false) c.in-Some-rows_left.ensures h)

pub returns : goal.returns
returns c = rw c.in-Some.ensures (λ number parts h. row_here number c.args.self.now.left c.args.self.now.found _ parts _ (sym c.is_some.ensures ∙ c.if-is_some.false) c.in_default-rows_left.ensures (c.replace.ensures.after ∙ ap (λ (r : KeyringValue). Some r) c.in_ok-ring.ensures) h)
