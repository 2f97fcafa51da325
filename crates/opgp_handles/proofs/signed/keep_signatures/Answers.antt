use Rattle.std.proofs.Common.{[], ap, subst, sym}
use Rattle.opgp_handles.specs.Documents.{IsGoing, packets_in}
use Rattle.opgp_handles.specs.declared.slot.Signed.{Signed}
use Rattle.opgp_handles.proofs.signed.keep_signatures.Goals as goal

-- the handle holds these signatures, over a document of which nothing was given
pub returns-clause-done : goal.returns-clause-done
returns-clause-done c = λ done.
    let k = c.keep.ensures.done done in (
      k.0,
      ap (λ (s : Signed). packets_in s) k.1,
      subst (λ (s : Signed). IsGoing [] s) (sym k.1) c.in-Ok.ensures.ok,
      c.in-Ok.ensures.few,
    )
