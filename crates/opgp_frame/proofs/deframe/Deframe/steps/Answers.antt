use Rattle.std.proofs.Common.{arith}
use Rattle.std.proofs.Math.Seq.{take-add}
use Rattle.std.proofs.lemmas.Grind.{common_steps}
use Rattle.std.proofs.lemmas.List.{take_rest}
use Rattle.opgp_frame.proofs.FedLemmas.{KeepsFed-then}
use Rattle.opgp_frame.proofs.deframe.Deframe.steps.Goals as goal

pub steps-preserved : goal.steps-preserved
steps-preserved c =
    let v = c.steps.invariant in
    record {
      within = grind (arith, common_steps);
      fed = λ limits block given taken f.
          rw (take-add c.steps.at c.in_ok-n.n c.args.piece.now)
          (rw (take_rest c.args.piece.now c.steps.at) at (KeepsFed-then _ _ _ _ _ v.fed c.in_ok-n.ensures.fed limits block given taken f));
      count = grind (arith, common_steps);
      sound = grind (arith, common_steps);
      limits = grind (arith, common_steps);
      faulty = λ fault h. (c.step.ensures.faulty fault (v.faulty fault h)).1;
      free = λ fault h. (c.step.ensures.faulty fault (v.faulty fault h)).2;
      moves = λ none. absurd (omega (arith, c.in_ok-n.ensures.moves));
    }
