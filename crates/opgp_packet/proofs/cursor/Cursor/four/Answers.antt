use Rattle.std.proofs.Common.{arith}
use Rattle.std.proofs.lemmas.Grind.{common_steps}
use Rattle.std.proofs.lemmas.List.{drop-drop}
use Rattle.opgp_packet.specs.FieldReading.{step_at, kind_at}
use Rattle.opgp_packet.proofs.cursor.Cursor.four.Goals as goal

pub returns-clause-reads : goal.returns-clause-reads
unfolding step_at kind_at
returns-clause-reads c =
    let s = c.args.self.now in
    let same = drop-drop 4 s.at s.body.now in
    let back = c.rest.ensures in
    let left = c.in-Some.ensures.rest in
    rw (← back, ← same, ← back) (grind (arith, common_steps))
