use Rattle.std.proofs.Common.{arith}
use Rattle.std.proofs.lemmas.Grind.{common_steps}
use Rattle.opgp_examples.proofs.certificates.read_parts.Goals as goal

-- the piece was given to the reader, and its parts were taken
pub pieces-preserved : goal.pieces-preserved
pieces-preserved g c =
    let i = c.pieces.invariant in
    let fed = c.in_ok-push.ensures in
    let shown = c.in_ok-show_waiting.ensures in (
      omega (arith, shown.count, fed.count, i.0),
      grind (arith, common_steps),
      shown.reading c.args.limits (fed.going c.args.limits i.2),
    )
