use Rattle.std.proofs.Common.{List, ◌++◌, ◌∙◌, ap, sym, append_assoc}
use Rattle.opgp_keyring.specs.Composed.{PartValue}
use Rattle.opgp_keyring.specs.State.{ready_parts}
use Rattle.opgp_codec.specs.Waiting.{parts_in}
use Rattle.opgp_handles.proofs.reading.next.Goals as goal

-- the part is behind those that were taken, and before those that wait now
pub returns-in-Ended-clause-used : goal.returns-in-Ended-clause-used
returns-in-Ended-clause-used g c =
    let h = rw c.in-Ended.is at c.requires in (
      h.0,
      h.1,
      h.2 ∙ ap (λ (ps : List PartValue). g.so_far.taken ++ ps) c.take-in-Ended.ensures.parts ∙ sym (append_assoc g.so_far.taken (ready_parts c.take-in-Ended.result) (parts_in c.take-in-Ended.new.self)),
    )
