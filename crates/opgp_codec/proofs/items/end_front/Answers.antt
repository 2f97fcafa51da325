use Rattle.std.proofs.Common.{refl, sym, subst, Bool}
use Rattle.opgp_codec.specs.Text.{IsEnd}
use Rattle.opgp_codec.proofs.ItemsPassing.{told_now, end_binary}
use Rattle.opgp_codec.proofs.items.end_front.Goals as goal

pub finish-requires-clause-through : goal.finish-requires-clause-through
finish-requires-clause-through c =
    let r = c.requires.passed in
    (r.0, r.2, r.3, r.4, (rw c.in-Armored.is at r.5).2)

pub returns-in_ok-ended-in-Armored : goal.returns-in_ok-ended-in-Armored
returns-in_ok-ended-in-Armored c accepts mode limits input items passed =
    let p = rw c.in-Armored.is at passed in
    subst (λ (b : Bool). IsEnd accepts b limits c.finish.new.framer input items c.in_ok-ended-in-Armored.ended) (sym (told_now mode input _ p.0)) (c.in_ok-ended-in-Armored.ensures accepts limits input items p.2)

pub returns-in-Binary : goal.returns-in-Binary
returns-in-Binary c accepts mode limits input items passed =
    let p = rw c.in-Binary.is at passed in
    end_binary accepts mode limits c.args.framer.now c.end_binary.new.framer input items c.end_binary.result (told_now mode input _ p.0) p.1 c.end_binary.ensures

pub returns-in-Undecided : goal.returns-in-Undecided
returns-in-Undecided c accepts mode limits input items passed =
    let p = rw c.in-Undecided.is at passed in
    end_binary accepts mode limits c.args.framer.now c.end_binary-in-Undecided.new.framer input items c.end_binary-in-Undecided.result (rw (p.0, p.2) refl) p.4 c.end_binary-in-Undecided.ensures
