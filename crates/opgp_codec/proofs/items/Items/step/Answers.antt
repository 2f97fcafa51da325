use Rattle.std.proofs.Common.{arith, length}
use Rattle.opgp_codec.proofs.ItemsPassing.{lessens}
use Rattle.opgp_codec.proofs.items.Items.step.Goals as goal

pub advance-requires : goal.advance-requires
advance-requires c =
    let r = c.requires.fed in
    (r.0, r.1, r.2, r.3, r.4, c.decide.ensures.passed r.0 r.1 r.2 r.3 r.4 r.5, omega (arith, c.requires.room, r.5.count))

pub returns-clause-lessens : goal.returns-clause-lessens
returns-clause-lessens c =
    let r = c.in_ok-found.ensures in
    lessens c.args.self.now.front c.decide.new.self.front c.advance.new.front (length c.args.piece.now) c.in_ok-found.found c.decide.ensures.work r.moves r.within
