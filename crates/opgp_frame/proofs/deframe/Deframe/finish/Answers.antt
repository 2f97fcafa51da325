use Rattle.std.proofs.Common.{length, sym}
use Rattle.opgp_frame.proofs.FedLemmas.{Fed-fault, same_kept, state_fault-spent}
use Rattle.opgp_frame.proofs.deframe.Deframe.finish.Goals as goal

pub returns : goal.returns
returns c =
    let d = c.args.self in
    let why = c.in-Some.ensures in
    record {
      ok = λ limits block given taken fed. Fed-fault limits block d given taken c.in-Some.reason c.in-Some.inner fed (sym why);
      faulty = λ fault e. same_kept d.state (length d.exponents.items) (length d.body.items) d.block d.start fault c.in-Some.reason c.in-Some.inner e (sym why);
      spent = λ spent. absurd (state_fault-spent d.state (length d.exponents.items) (length d.body.items) (c.in-Some.reason, c.in-Some.inner) spent (sym why));
    }
