use Rattle.std.proofs.Common.{ap, sym, ◌∙◌, arith}
use Rattle.std.proofs.lemmas.List.Edits.{map_over_more}
use Rattle.opgp_keyring.proofs.reframing.reframe_all.Goals as goal

pub loop-item-preserved : goal.loop-item-preserved
loop-item-preserved g c =
    rw (c.reframe.ensures ∙ ap g.T.Reframe.normal (sym c.item-item.is))
    (map_over_more g.T.Reframe.normal c.args.items.now.items c.loop-item.item-items c.loop-item.item-index c.item-item.result (omega arith) c.loop-item.invariant c.item-item.is)
