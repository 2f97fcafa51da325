use Rattle.std.proofs.Common.{◌∙◌, Ok, sym, subst}
use Rattle.opgp_handles.specs.declared.slot.Held.{Held}
use Rattle.opgp_handles.specs.Calls.{AnswersBy}
use Rattle.opgp_handles.proofs.rings.ring_open_mode.Goals as goal

-- the handle holds the keyring that was read by that mode
pub returns-clause-done : goal.returns-clause-done
returns-clause-done c = λ done.
    let kept = c.keep_held.ensures.done done in (
      c.in-Some.mode,
      sym c.mode_by.ensures ∙ c.in-Some.is,
      kept.0,
      subst (λ (h : Held). AnswersBy c.in-Some.mode c.args.limits.now c.args.input.now (Ok h.keyring)) (sym kept.1) c.in-Ok.ensures.ring,
    )
