-- Years that begin on 1 March, so that a leap day comes last: what `date.rt` counts with.
use Rattle.std.specs.Prelude.{ℕ, ◌+◌, ◌-◌, ◌*◌, ◌/◌}
use Rattle.opgp_state.specs.Date.{DateValue}
use Rattle.opgp_state.specs.declared.date.Date.{Date}

-- the days of the first n such years, from that of the year 0 on
abbrev pub march_days : ℕ → ℕ
march_days n = 365 * n + n / 4 - n / 100 + n / 400

-- the days from 1 March to the first of a month from 3 to 14
abbrev pub march_months : ℕ → ℕ
march_months m = (153 * m - 457) / 5

-- the date that the code has
abbrev pub date_value : Date → DateValue
date_value d = record { year = d.year; month = d.month; day = d.day }
