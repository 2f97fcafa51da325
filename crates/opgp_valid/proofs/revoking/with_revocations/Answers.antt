use Rattle.std.proofs.Common.{◌∙◌, ap, sym}
use Rattle.std.specs.List.{list_any}
use Rattle.opgp_valid.specs.Revoking.{revokes_some}
use Rattle.opgp_valid.proofs.RevokedBy.{marked_all, marked_pushed, none_revoked}
use Rattle.opgp_valid.proofs.revoking.with_revocations.Goals as goal

pub returns-then-not-is_any_revoked : goal.returns-then-not-is_any_revoked
returns-then-not-is_any_revoked c =
    none_revoked c.args.statements.items
    (ap (list_any revokes_some) (sym c.deref.ensures.value) ∙ sym c.is_any_revoked.ensures ∙ c.if-not-is_any_revoked.true) c.requires

pub steps-preserved : goal.steps-preserved
steps-preserved c =
    marked_pushed c.args.statements.items c.steps.steps c.in-Some.next c.in-Some.step c.steps.revoked c.revoked_at-revoked.result c.steps.found.items c.push.new.self.items c.marked.result
    c.steps.invariant c.in-Some.ensures.some c.revoked_at-revoked.ensures c.marked.ensures c.in_ok-push.ensures.items

pub returns : goal.returns
returns c = marked_all c.args.statements.items c.steps.steps c.steps.revoked c.steps.found.items c.steps.invariant c.in_default.ensures.none
