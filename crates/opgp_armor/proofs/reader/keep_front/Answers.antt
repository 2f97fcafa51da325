use Rattle.std.proofs.Common.{◌∙◌, ◌+◌}
use Rattle.opgp_armor.proofs.Keeping.{keeps_front}
use Rattle.opgp_armor.proofs.reader.keep_front.Goals as goal

pub returns-clause-kept : goal.returns-clause-kept
returns-clause-kept c = λ tail is.
    c.in_ok-fill.ensures.added ∙ keeps_front (c.args.limit + 1) tail c.args.part.now c.args.buffer.now.items is
