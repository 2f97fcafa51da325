use Rattle.std.proofs.Common.{Some, false}
use Rattle.std.proofs.lemmas.Map.Text.{btree_map_updates_str}
use Rattle.opgp_stack.proofs.wanted_keys.want.Goals as goal

pub returns : goal.returns
returns c = λ other. btree_map_updates_str c.args.name.now c.args.notes.now c.insert.new.self (Some false) c.in_ok-insert.ensures.updates other
