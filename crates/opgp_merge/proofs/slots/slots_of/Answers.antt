use Rattle.std.proofs.Common.{◌≡◌, ◌∙◌, [], map, arith}
use Rattle.std.proofs.lemmas.Grind.{common_steps}
use Rattle.opgp_merge.proofs.Adding.{slots_from}
use Rattle.opgp_merge.proofs.Placing.{slots_are}
use Rattle.opgp_merge.proofs.slots.slots_of.Goals as goal

pub returns : goal.returns
returns g c =
    let all : c.loop-item.slots.items ≡ slots_from [] (map g.T.Joining.name c.args.items.now) = grind (arith, common_steps) in
    all ∙ slots_are (map g.T.Joining.name c.args.items.now)
