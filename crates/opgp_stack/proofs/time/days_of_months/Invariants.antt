use Rattle.std.proofs.Common.{◌≡◌, ◌*◌, ◌≤◌}
use Rattle.opgp_state.specs.Date.{days_of_months}
use Rattle.opgp_stack.proofs.time.days_of_months.Given as goal

-- the days of the months so far
abbrev pub invariant-loop-month : goal.invariant-loop-month
invariant-loop-month l = record { value : l.days ≡ days_of_months l.fn.year l.month; bound : l.days ≤ 31 * l.month }
