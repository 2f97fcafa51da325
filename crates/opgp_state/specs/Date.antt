-- Dates of the Gregorian calendar, in UTC, and how a time is written as one (RFC 3339).
use Rattle.std.specs.Prelude.{ℕ, zero, suc, ◌+◌, ◌-◌, ◌*◌, ◌/◌, ◌%◌, ◌≤◌, ◌==◌, nat_lt}
use Rattle.std.specs.Prelude.{Bool, not, ◌&&◌, ◌||◌, if◌then◌else◌, List, [], ◌∷◌, ◌++◌, codes}
use Rattle.std.specs.Prelude.{Option, Some, None}

-- ---- the calendar
-- every fourth year, but of the centuries only every fourth (RFC 3339, appendix C)
abbrev pub is_leap : ℕ → Bool
is_leap year = (year % 4 == 0) && (not (year % 100 == 0) || (year % 400 == 0))

abbrev pub days_in_year : ℕ → ℕ
days_in_year year = if is_leap year then 366 else 365

-- February has 28 or 29, April, June, September and November have 30, and the others 31 (RFC 3339,
-- 5.7)
abbrev pub days_in_month : ℕ → ℕ → ℕ
days_in_month year month =
    if month == 2 then (if is_leap year then 29 else 28)
    else (if (month == 4) || (month == 6) || (month == 9) || (month == 11) then 30 else 31)

pub record DateValue : Type 0 where
  pub year : ℕ
  pub month : ℕ
  pub day : ℕ

-- the next day: in the same month; after its last day, the first of the next month; after December,
-- of the next year
abbrev pub day_after : DateValue → DateValue
day_after d =
    if nat_lt d.day (days_in_month d.year d.month)
    then record { year = d.year; month = d.month; day = d.day + 1 }
    else (if nat_lt d.month 12 then record { year = d.year; month = d.month + 1; day = 1 }
    else record { year = d.year + 1; month = 1; day = 1 })

-- the day so many days after 1970-01-01
unfoldable pub date_of : ℕ → DateValue
date_of zero = record { year = 1970; month = 1; day = 1 }
date_of (suc n) = day_after (date_of n)

-- ---- days, counted
-- of the first n years from 1970 on
unfoldable pub days_of_years : ℕ → ℕ
days_of_years zero = 0
days_of_years (suc n) = days_of_years n + days_in_year (1970 + n)

-- of the first n months of a year
unfoldable pub days_of_months : ℕ → ℕ → ℕ
days_of_months year zero = 0
days_of_months year (suc n) = days_of_months year n + days_in_month year (suc n)

-- those before a date: of the whole years, of the whole months of its year, and of its month
unfoldable pub days_before : DateValue → ℕ
days_before d = days_of_years (d.year - 1970) + days_of_months d.year (d.month - 1) + (d.day - 1)

-- the calendar has this day, from 1970 on
abbrev pub IsDate : DateValue → Type 0
IsDate d = (1970 ≤ d.year) × ((1 ≤ d.month) × (d.month ≤ 12))
    × ((1 ≤ d.day) × (d.day ≤ days_in_month d.year d.month))

-- the seconds from 1970 to a date and a time of that day
abbrev pub time_of : DateValue → ℕ → ℕ → ℕ → ℕ
time_of d hour minute second = days_before d * 86400 + hour * 3600 + minute * 60 + second

-- ---- texts (RFC 3339, 5.6)
-- the last digit of a number, its last two and its last four
abbrev pub digit : ℕ → ℕ
digit n = 48 + n % 10

abbrev pub two_digits : ℕ → List ℕ
two_digits n = digit (n / 10) ∷ digit n ∷ []

abbrev pub four_digits : ℕ → List ℕ
four_digits n = two_digits (n / 100) ++ two_digits n

-- `2022-11-30`
abbrev pub day_text : DateValue → List ℕ
day_text d = four_digits d.year ++ (codes "-" ++ (two_digits d.month
    ++ (codes "-" ++ two_digits d.day)))

-- `T16:08:03Z`
abbrev pub clock_text : ℕ → ℕ → ℕ → List ℕ
clock_text hour minute second = codes "T" ++ (two_digits hour ++ (codes ":" ++ (two_digits minute
    ++ (codes ":" ++ (two_digits second ++ codes "Z")))))

-- a number of seconds since midnight so
abbrev pub seconds_text : ℕ → List ℕ
seconds_text n = clock_text (n / 3600) (n / 60 % 60) (n % 60)

-- `2022-11-30T16:08:03Z`, of the seconds since 1970, none of which is a leap second
unfoldable pub date_text : ℕ → List ℕ
date_text n = day_text (date_of (n / 86400)) ++ seconds_text (n % 86400)

-- RFC 3339 has years of four digits: no time from this one on has a date
abbrev pub year_10000 : ℕ
year_10000 = 253402300800

-- ---- a field of a line that states a time: its date
abbrev pub date_word : ℕ → List ℕ
date_word n = codes " " ++ date_text n

-- ---- the last field of one, `-` for no time
abbrev pub date_words : ℕ → List ℕ
date_words n = date_word n ++ codes "\n"

abbrev pub date_words_or_none : Option ℕ → List ℕ
date_words_or_none (Some n) = date_words n
date_words_or_none None = codes " -\n"
