use Rattle.std.proofs.Common.{◌∙◌, None, refl, sym}
use Rattle.std.proofs.lemmas.List.{at_drop_all}
use Rattle.opgp_octets.specs.Fault.{reason_number, reason_of}
use Rattle.opgp_octets.specs.Rows.{with_number}
use Rattle.opgp_octets.specs.declared.fault.TheConstants.Reason.{ALL}
use Rattle.opgp_octets.specs.declared.fault.Reason.TheVariants as reason
use Rattle.opgp_octets.proofs.Numbers.{found, found_here, not_here, reason_listed}
use Rattle.opgp_octets.proofs.fault.Reason.of.Goals as goal

pub loop-reason-init : goal.loop-reason-init
unfolding reason_of
loop-reason-init c = refl

pub returns-then-number-clause-value : goal.returns-then-number-clause-value
returns-then-number-clause-value c =
    sym (found_here reason_number c.args.number c.loop-reason.reason-index ALL reason.Spent c.loop-reason-test.true (sym c.number.ensures ∙ c.if-number.true)) ∙ c.loop-reason.invariant

pub loop-reason-preserved : goal.loop-reason-preserved
loop-reason-preserved c =
    sym (not_here reason_number c.args.number c.loop-reason.reason-index ALL reason.Spent c.loop-reason-test.true (λ e. c.if-number.false (c.number.ensures ∙ e))) ∙ c.loop-reason.invariant

pub returns-clause-stands : goal.returns-clause-stands
unfolding reason_of
returns-clause-stands c =
    found reason_number c.args.number ALL reason_listed None
    (sym (at_drop_all (with_number reason_number c.args.number) ALL c.loop-reason.reason-index c.loop-reason-test.false) ∙ c.loop-reason.invariant)
