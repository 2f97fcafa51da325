use Rattle.std.proofs.Common.{rules}
use Rattle.opgp_report.proofs.FirstLaws.{new_noted}
use Rattle.opgp_report.proofs.key_index.note.Goals as goal

pub returns : goal.returns
returns g c = new_noted c.args.map.now c.args.key c.insert.new.self c.args.at (search rules) c.in_ok-insert.ensures.updates.0
