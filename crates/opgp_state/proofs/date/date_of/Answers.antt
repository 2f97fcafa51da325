use Rattle.std.proofs.Common.{◌≡◌, ◌+◌, suc, arith}
use Rattle.opgp_state.proofs.Calendar.{date_found, early_date, late_date}
use Rattle.opgp_state.proofs.date.date_of.Goals as goal

pub returns-then-month-gt12 : goal.returns-then-month-gt12
returns-then-month-gt12 c =
    let y = c.march_day-year.result.year in
    let p = c.march_day-year.result.passed in
    let next : y + 1 ≡ suc y = omega arith in
    rw next (date_found c.args.days _ (early_date c.args.days y p c.march_day-year.ensures.value (rw next at c.march_day-year.ensures.within) c.march_day-year.ensures.bound (omega arith)))

pub returns-else-month-gt12 : goal.returns-else-month-gt12
returns-else-month-gt12 c =
    let y = c.march_day-year.result.year in
    let p = c.march_day-year.result.passed in
    date_found c.args.days _ (late_date c.args.days y p c.march_day-year.ensures.value c.march_day-year.ensures.bound (omega arith))
