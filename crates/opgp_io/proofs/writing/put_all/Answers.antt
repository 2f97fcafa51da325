use Rattle.std.proofs.Common.{arith}
use Rattle.std.proofs.Math.Seq.{take-add}
use Rattle.std.proofs.lemmas.Grind.{common_steps}
use Rattle.std.proofs.lemmas.List.{take_rest}
use Rattle.std.proofs.KnownBytes.{Appends-trans}
use Rattle.opgp_io.proofs.writing.put_all.Goals as goal

pub pieces-preserved : goal.pieces-preserved
pieces-preserved g c =
    let both = rw (take_rest c.args.octets.now c.pieces.at) at (Appends-trans _ _ _ _ _ c.pieces.invariant.put c.in_ok-n.ensures.octets) in
    record {
      within = grind (arith, common_steps);
      put = rw (take-add c.pieces.at c.in_ok-n.n c.args.octets.now) both;
      sound = grind (arith, common_steps);
    }
