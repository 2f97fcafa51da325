use Rattle.std.proofs.Common.{◌≡◌, ◌<◌, ap, arith, length}
use Rattle.std.proofs.lemmas.List.{length-take}
use Rattle.opgp_armor.specs.Events.{events_of}
use Rattle.opgp_armor.specs.Fed.{rule_of}
use Rattle.opgp_armor.specs.LineAnswer.{pending_of, state_of}
use Rattle.opgp_armor.proofs.Small.{IsSmall, step_small}
use Rattle.opgp_armor.proofs.reader.Dearmor.end_line.Goals as goal

pub invariant_of-self : goal.invariant_of-self
invariant_of-self c =
    let d = c.args.self.now in
    let r = c.in-Ok.field-0 in
    let few : length (pending_of d.pending).letters < 4 = let h = d.pending.few in omega (arith, length-take d.pending.count d.pending.letters) in
    let small : IsSmall d.limit (length (pending_of d.pending).letters) (state_of r.section r.pending) (events_of r.event) =
    step_small (rule_of d) (state_of d.section d.pending) _ c.args.line.now (events_of r.event) few d.pending.written c.in-Ok.ensures.line in
    let held = small.held in
    let empty : length d.buffer.items ≡ 0 = ap length c.requires.empty in
    record { low = d.low; high = d.high; short = omega arith; bounded = omega arith; counted = omega (arith, c.requires.room, c.ended_blocks.ensures.small); spare_short = omega (arith, d.spare_short, c.answer_line.ensures.spare) }
