use Rattle.opgp_merge.proofs.Uniting.{once_more}
use Rattle.opgp_merge.proofs.merging.unite.Goals as goal

pub loop-item-preserved : goal.loop-item-preserved
loop-item-preserved g c =
    let l = c.loop-item in
    once_more g.T.Uniting.once l.united.items l.yielded c.push.new.self.items c.in-Some.item c.in_ok-once.once l.invariant c.in_ok-push.ensures.items c.in_ok-once.ensures
