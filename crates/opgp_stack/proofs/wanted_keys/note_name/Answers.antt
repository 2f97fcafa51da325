use Rattle.std.proofs.Common.{rules, sym, true, Some}
use Rattle.std.proofs.lemmas.Map.Text.{btree_map_updates_str}
use Rattle.opgp_stack.proofs.Wanted.{noted}
use Rattle.opgp_stack.proofs.wanted_keys.note_name.Goals as goal

pub returns-in-Some-clause-noted : goal.returns-in-Some-clause-noted
returns-in-Some-clause-noted c = λ other. noted c.args.name.now other c.args.notes.now (c.get_mut.follows.lender true) c.in-Some.had.now (sym c.in-Some.ensures.value)
    (btree_map_updates_str c.args.name.now c.args.notes.now (c.get_mut.follows.lender true) (Some true) ((c.get_mut.follows.holds true).3 (search rules)) other)
