use Rattle.std.proofs.Common.{◌∙◌, ap, subst, sym}
use Rattle.opgp_handles.specs.Readings.{IsGoing, begun}
use Rattle.opgp_handles.specs.declared.reader.Reader.{Reader}
use Rattle.opgp_handles.specs.declared.slot.Reading.{Reading}
use Rattle.opgp_handles.proofs.readers.reader_open.Goals as goal

-- the handle holds the reading that was begun
pub returns-in-Ok-clause-done : goal.returns-in-Ok-clause-done
returns-in-Ok-clause-done c = λ _.
    let a = c.replace.ensures.after in
    let h = c.in-Ok.ensures in
    let same = ap (λ (r : Reader). r.slot.held) a ∙ h.1 in (
      c.in-Some.limits,
      c.in-Some.ensures.these,
      ap (λ (r : Reader). r.is_open) a ∙ h.0,
      subst (λ (x : Reading). IsGoing (begun c.in-Some.limits) x) (sym same) c.begin.ensures,
    )
