use Rattle.std.proofs.Common.{◌∙◌, subst, sym}
use Rattle.opgp_state.specs.VerdictFile.{HasVerdicts}
use Rattle.opgp_handles.specs.declared.slot.Held.{Held}
use Rattle.opgp_handles.proofs.verdict_files.ring_verdicts.Goals as goal

pub returns-clause-none : goal.returns-clause-none
returns-clause-none c = λ none found h.
    c.put_verdicts-status.ensures.none none found (subst (λ (x : Held). HasVerdicts c.args.file.now x.keyring found) (sym (c.deref.ensures ∙ c.in-Some.ensures.taken.1)) h)
