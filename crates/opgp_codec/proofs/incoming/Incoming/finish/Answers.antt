use Rattle.opgp_codec.proofs.Coming.{came_outcome, none_waits}
use Rattle.opgp_codec.proofs.incoming.Incoming.finish.Goals as goal

pub finish-requires-clause-fed : goal.finish-requires-clause-fed
finish-requires-clause-fed c =
    let r = c.requires.came in
    (r.0, r.1, r.2, _, _, r.6.fed)

pub returns : goal.returns
returns c = came_outcome c.args.self c.finish.result (none_waits c.args.self.piece.items c.args.self.at c.args.self.filled c.requires.through.all) c.finish.ensures
