use Rattle.std.proofs.Common.{◌≡◌, ◌*◌, ◌≤◌}
use Rattle.opgp_state.specs.Date.{days_of_years}
use Rattle.opgp_stack.proofs.time.days_of_years.Given as goal

-- the days of the years so far
abbrev pub invariant-loop-year : goal.invariant-loop-year
invariant-loop-year l = record { value : l.days ≡ days_of_years l.year; bound : l.days ≤ 366 * l.year }
