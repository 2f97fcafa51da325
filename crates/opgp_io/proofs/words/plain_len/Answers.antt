use Rattle.std.proofs.Common.{◌≡◌, true, arith, slice_index}
use Rattle.opgp_io.specs.Texts.{is_plain}
use Rattle.opgp_io.proofs.Texts.{escaped-nil, plain_more}
use Rattle.opgp_io.proofs.words.plain_len.Goals as goal

pub loop-i-init : goal.loop-i-init
loop-i-init c = escaped-nil

pub loop-i-preserved : goal.loop-i-preserved
loop-i-preserved c =
    let plain : is_plain (slice_index c.args.octets.now c.loop-i.i) ≡ true = grind arith in
    plain_more c.args.octets.now c.loop-i.i (omega arith) plain c.loop-i.invariant
