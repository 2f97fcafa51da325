use Rattle.std.proofs.Common.{Ok, sym, subst}
use Rattle.opgp_handles.specs.declared.slot.Held.{Held}
use Rattle.opgp_handles.specs.Calls.{Answers}
use Rattle.opgp_handles.proofs.rings.ring_open.Goals as goal

-- the handle holds the keyring that was read
pub returns-clause-done : goal.returns-clause-done
returns-clause-done c = λ done.
    let kept = c.keep_held.ensures.done done in (
      kept.0,
      subst (λ (h : Held). Answers c.args.limits.now c.args.input.now (Ok h.keyring)) (sym kept.1) c.in-Ok.ensures.ring,
    )
