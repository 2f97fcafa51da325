use Rattle.std.proofs.Common.{inl, inr, refl}
use Rattle.opgp_tool.specs.Words.{work_said}
use Rattle.opgp_tool.proofs.Parsing.{other_one}
use Rattle.opgp_tool.proofs.task.beside_of.Goals as goal

pub returns-in-Ok : goal.returns-in-Ok
returns-in-Ok g c =
    let h = c.in-Ok.ensures.said in
    (h.0, h.1, inl (work_said c.in-Ok.request.task, h.3))

pub returns-in-Err-Text : goal.returns-in-Err-Text
returns-in-Err-Text g c =
    let h = other_one (λ is. cc (is, c.in-Err-Text.field-0-is)) c.in-Err-Text.ensures.refused in
    (h.0, h.1, inr (h.2, c.nothing.ensures))
