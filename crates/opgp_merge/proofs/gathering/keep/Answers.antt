use Rattle.std.proofs.Common.{◌≡◌, true, false, ◌<◌, ◌≤◌, ◌∙◌, length, arith, refl, sym, ap}
use Rattle.std.specs.Prelude.{slice_set}
use Rattle.opgp_merge.proofs.Adding.{placed_new, placed_old, placed_bound}
use Rattle.opgp_merge.proofs.gathering.keep.Goals as goal

pub returns-in_ok-take_in-in-Some : goal.returns-in_ok-take_in-in-Some
returns-in_ok-take_in-in-Some g c =
    let kept = c.args.kept.now in
    let first = c.in-Some.first.now in
    let count : kept.len ≡ length kept.items = kept.ok.0 in
    let within : c.args.slot < length kept.items = omega (arith, c.in-Some.ensures.variant.0 refl) in
    ap (slice_set kept.items c.args.slot) (c.in_ok-take_in-in-Some.ensures ∙ ap (λ f. g.T.Joining.both f c.args.item) c.in-Some.ensures.value)
    ∙ sym (placed_old g.T.Joining.name g.T.Joining.both g.met.T.Joining.keeps kept.items c.args.item first c.args.slot c.requires within)

pub returns-in_ok-push-in-None : goal.returns-in_ok-push-in-None
returns-in_ok-push-in-None g c =
    let kept = c.args.kept.now in
    let count : kept.len ≡ length kept.items = kept.ok.0 in
    let bound : c.args.slot ≤ length kept.items = placed_bound g.T.Joining.name g.T.Joining.both g.met.T.Joining.keeps kept.items c.args.item c.args.slot c.requires in
    let past : c.args.slot < kept.len → ⊥ = λ lt. let e : false ≡ true = c.in-None.ensures.variant.1 lt in cc in
    let last : c.args.slot ≡ length kept.items = omega (arith, past) in
    c.in_ok-push-in-None.ensures.items ∙ sym (placed_new g.T.Joining.name g.T.Joining.both g.met.T.Joining.keeps kept.items c.args.item c.args.slot c.requires last)
