use Rattle.std.proofs.lemmas.Result.{on_ok_weaker}
use Rattle.opgp_armor.proofs.Keeping.{keeps_refused}
use Rattle.opgp_armor.proofs.reader.keep.Goals as goal

pub returns-in-Refuse-clause-kept : goal.returns-in-Refuse-clause-kept
returns-in-Refuse-clause-kept c = on_ok_weaker c.keep_front.result
    (keeps_refused c.args.outside c.args.limit c.args.section c.args.part.now c.args.buffer.now.items c.keep_front.new.buffer.items c.in-Refuse.is)
    c.keep_front.ensures.kept
