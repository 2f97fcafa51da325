use Rattle.std.proofs.Common.{◌∙◌, None, refl, sym}
use Rattle.std.proofs.lemmas.List.{at_drop_all}
use Rattle.opgp_octets.specs.Fault.{layer_number, layer_of}
use Rattle.opgp_octets.specs.Rows.{with_number}
use Rattle.opgp_octets.specs.declared.fault.TheConstants.Layer.{ALL}
use Rattle.opgp_octets.specs.declared.fault.Layer.TheVariants as layer
use Rattle.opgp_octets.proofs.Numbers.{found, found_here, not_here, layer_listed}
use Rattle.opgp_octets.proofs.fault.Layer.of.Goals as goal

pub loop-layer-init : goal.loop-layer-init
unfolding layer_of
loop-layer-init c = refl

pub returns-then-number-clause-value : goal.returns-then-number-clause-value
returns-then-number-clause-value c =
    sym (found_here layer_number c.args.number c.loop-layer.layer-index ALL layer.Input c.loop-layer-test.true (sym c.number.ensures ∙ c.if-number.true)) ∙ c.loop-layer.invariant

pub loop-layer-preserved : goal.loop-layer-preserved
loop-layer-preserved c =
    sym (not_here layer_number c.args.number c.loop-layer.layer-index ALL layer.Input c.loop-layer-test.true (λ e. c.if-number.false (c.number.ensures ∙ e))) ∙ c.loop-layer.invariant

pub returns-clause-stands : goal.returns-clause-stands
unfolding layer_of
returns-clause-stands c =
    found layer_number c.args.number ALL layer_listed None
    (sym (at_drop_all (with_number layer_number c.args.number) ALL c.loop-layer.layer-index c.loop-layer-test.false) ∙ c.loop-layer.invariant)
