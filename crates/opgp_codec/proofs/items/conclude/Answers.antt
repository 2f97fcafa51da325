use Rattle.std.proofs.Common.{refl, arith}
use Rattle.opgp_codec.specs.Reading.{at_armor, at_framing, at_top}
use Rattle.opgp_codec.proofs.items.conclude.Goals as goal

pub returns-in-Err : goal.returns-in-Err
returns-in-Err c accepts mode input items counted end =
    at_armor (omega (arith, c.input.ensures.value)) c.in-Err.fault (rw c.in-Err.is at end) refl

pub returns-in-Err-finish : goal.returns-in-Err-finish
returns-in-Err-finish c accepts mode input items counted end =
    let e = rw c.in-Ok.is at end in
    at_framing (omega (arith, c.input.ensures.value)) e.blocks e.holds c.in-Err-finish.fault (c.in-Err-finish.ensures accepts c.args.limits e.blocks e.label e.octets _ e.framed) refl

pub returns-in-Ok-finish : goal.returns-in-Ok-finish
returns-in-Ok-finish c accepts mode input items counted end =
    let e = rw c.in-Ok.is at end in
    at_top (omega (arith, c.input.ensures.value)) e.blocks e.holds _ (c.in-Ok-finish.ensures accepts c.args.limits e.blocks e.label e.octets _ e.framed) refl
