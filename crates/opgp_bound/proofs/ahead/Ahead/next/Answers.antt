use Rattle.std.proofs.Common.{List}
use Rattle.opgp_valid.specs.declared.statement.Statement.{Statement}
use Rattle.opgp_bound.proofs.Rivals.{ahead_next, ahead_still, all_enough, part_time, run_enough}
use Rattle.opgp_bound.proofs.ahead.Ahead.next.Goals as goal

pub returns-then-not-self-clause-times : goal.returns-then-not-self-clause-times
returns-then-not-self-clause-times c = λ ss h t.
    let rest : List Statement = c.args.self.rest.now in
    part_time c.args.at c.args.number t c.on-all.result rest ss c.on-all.ensures (all_enough ss c.args.number c.args.self h)

pub returns-then-not-self-clause-ahead : goal.returns-then-not-self-clause-ahead
returns-then-not-self-clause-ahead c = λ ss h. ahead_still ss c.args.number c.args.self h

pub returns-clause-times : goal.returns-clause-times
returns-clause-times c = λ ss h t.
    let part : List Statement = c.split.result.0.now in
    part_time c.args.at c.args.number t c.on-times.result part ss c.on-times.ensures (run_enough ss c.args.number c.args.self h part c.if-not-self.false c.split.ensures.before)

pub returns-clause-ahead : goal.returns-clause-ahead
returns-clause-ahead c = λ ss h. ahead_next ss c.args.number c.args.self h _ c.if-not-self.false c.split.ensures.behind
