-- Times as a command line says them.
use Rattle.std.specs.Prelude.{◌≡◌, ℕ, ◌+◌, ◌-◌, ◌*◌, ◌<◌, ◌≤◌, ◌^◌, ◌⊎◌, List, ◌++◌, codes, length, slice_index}
use Rattle.std.specs.Str.Parse.{IsNumeral, digits_value}
use Rattle.opgp_state.specs.Date.{DateValue, date_text}

-- a number of seconds since 1970 in decimal digits, 18 at most
pub record IsSeconds (text : List ℕ) (n : ℕ) : Type 0 where
  pub digits : IsNumeral 10 text
  pub few : length text ≤ 18
  pub value : n ≡ digits_value 10 text

-- the date of a time of four octets (RFC 3339, 5.6)
pub record IsDateOf (text : List ℕ) (n : ℕ) : Type 0 where
  pub small : n < 2 ^ 32
  pub written : date_text n ≡ text

-- A time is a number of seconds, or its date; a day alone is its first second.
abbrev pub IsTime : List ℕ → ℕ → Type 0
IsTime text n = IsSeconds text n ⊎ (IsDateOf text n ⊎ IsDateOf (text ++ codes "T00:00:00Z") n)

-- ---- how a date is read
-- the numbers that two and four digits are, from this place on
abbrev pub digit_at : List ℕ → ℕ → ℕ
digit_at text i = slice_index text i - 48

abbrev pub two_at : List ℕ → ℕ → ℕ
two_at text i = digit_at text i * 10 + digit_at text (i + 1)

abbrev pub four_at : List ℕ → ℕ → ℕ
four_at text i = two_at text i * 100 + two_at text (i + 2)

abbrev pub date_at : List ℕ → DateValue
date_at text = record { year = four_at text 0; month = two_at text 5; day = two_at text 8 }

abbrev pub seconds_at : List ℕ → ℕ
seconds_at text = two_at text 11 * 3600 + two_at text 14 * 60 + two_at text 17
