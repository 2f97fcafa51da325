use Rattle.std.proofs.Common.{rules}
use Rattle.opgp_report.proofs.FirstLaws.{place_noted}
use Rattle.opgp_report.proofs.key_index.note_id.Goals as goal

pub returns : goal.returns
returns c = place_noted c.args.ids.now c.args.id (search rules, search rules) c.insert.new.self c.from_be_bytes-number.result c.args.at c.from_be_bytes-number.ensures (search rules) c.in_ok-insert.ensures.updates.0
