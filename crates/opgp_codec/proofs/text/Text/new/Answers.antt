use Rattle.std.proofs.Common.{ℕ, List, refl, ap, drop}
use Rattle.opgp_codec.proofs.TextLines.{through_none}
use Rattle.opgp_codec.proofs.text.Text.new.Goals as goal

pub returns-clause-through : goal.returns-clause-through
returns-clause-through c accepts f items begun framed =
    let d = c.new.ensures in
    through_none accepts c.args.limits _ f items refl (ap (λ (l : List ℕ). drop 0 l) c.new-2.ensures.items) d.fed d.free d.«open» d.rule d.count begun framed
