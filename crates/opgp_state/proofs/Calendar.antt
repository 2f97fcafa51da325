-- Dates and the days before them: each date is that of one number of days.
use Rattle.std.proofs.Common.{◌≡◌, ◌∙◌, ℕ, zero, suc, ◌+◌, ◌-◌, ◌*◌, ◌/◌, ◌%◌, ◌<◌, ◌≤◌, inl, inr, cond, nat_lt, refl, sym, ap, subst, arith}
use Rattle.std.proofs.lemmas.Bool.{cases_lt, cases_order, cond_above, cond_below}
use Rattle.std.proofs.lemmas.Bool.Decides.{nat_tests}
use Rattle.opgp_state.specs.Date.{DateValue, IsDate, date_of, day_after, days_before, days_in_month, days_in_year, days_of_months, days_of_years, is_leap}
use Rattle.opgp_state.specs.March.{march_days, march_months}

-- ---- years and months
-- 1 for a leap year, and else 0
abbrev pub leap_day : ℕ → ℕ
leap_day y = cond (is_leap y) 1 0

year_is : (y : ℕ) → days_in_year y ≡ 365 + leap_day y
year_is y = grind arith

pub month_bounds : (y m : ℕ) → (days_in_month y m ≤ 31) × (28 ≤ days_in_month y m)
month_bounds y m = grind arith

years_more : (n : ℕ) → days_of_years (suc n) ≡ days_of_years n + 365 + leap_day (1970 + n)
unfolding days_of_years
years_more n = omega (arith, year_is (1970 + n))

-- the year that begins in March of n ends in February of n + 1
pub march_more : (n : ℕ) → march_days (suc n) ≡ march_days n + 365 + leap_day (suc n)
march_more n = grind (arith, nat_tests)

years_of_march : (n : ℕ) → days_of_years n + leap_day (1970 + n) + 719527 ≡ march_days (1970 + n)
years_of_march zero = unfold days_of_years in refl
years_of_march (suc n) =
    let next : 1970 + suc n ≡ suc (1970 + n) = omega arith in
    rw next (omega (arith, years_of_march n, years_more n, march_more (1970 + n)))

years_none : days_of_years 0 ≡ 0
unfolding days_of_years
years_none = refl

months_none : (y : ℕ) → days_of_months y 0 ≡ 0
unfolding days_of_months
months_none y = refl

months_more : (y m : ℕ) → 1 ≤ m → days_of_months y m ≡ days_of_months y (m - 1) + days_in_month y m
unfolding days_of_months
months_more y zero h = absurd (omega arith)
months_more y (suc m) h = let back : suc m - 1 ≡ m = omega arith in rw back

-- January and February
months_early : (y m : ℕ) → 1 ≤ m → m ≤ 2 → days_of_months y (m - 1) + 306 ≡ march_months (m + 12)
unfolding days_of_months
months_early y zero low high = absurd (omega arith)
months_early y (suc zero) low high = refl
months_early y (suc (suc zero)) low high = refl
months_early y (suc (suc (suc n))) low high = absurd (omega arith)

months_from_march : (y k : ℕ) → k < 11 → days_of_months y (suc (suc k)) ≡ march_months (k + 3) + 59 + leap_day y
unfolding days_of_months
months_from_march y zero h = grind arith
months_from_march y (suc zero) h = grind arith
months_from_march y (suc (suc zero)) h = grind arith
months_from_march y (suc (suc (suc zero))) h = grind arith
months_from_march y (suc (suc (suc (suc zero)))) h = grind arith
months_from_march y (suc (suc (suc (suc (suc zero))))) h = grind arith
months_from_march y (suc (suc (suc (suc (suc (suc zero)))))) h = grind arith
months_from_march y (suc (suc (suc (suc (suc (suc (suc zero))))))) h = grind arith
months_from_march y (suc (suc (suc (suc (suc (suc (suc (suc zero)))))))) h = grind arith
months_from_march y (suc (suc (suc (suc (suc (suc (suc (suc (suc zero))))))))) h = grind arith
months_from_march y (suc (suc (suc (suc (suc (suc (suc (suc (suc (suc zero)))))))))) h = grind arith
months_from_march y (suc (suc (suc (suc (suc (suc (suc (suc (suc (suc (suc n))))))))))) h = absurd (omega arith)

-- those from March on, where 13 stands for the end of the year
months_late : (y m : ℕ) → 3 ≤ m → m ≤ 13 → days_of_months y (m - 1) ≡ march_months m + 59 + leap_day y
months_late y m low high =
    let before : m - 1 ≡ suc (suc (m - 3)) = omega arith in
    let same : m - 3 + 3 ≡ m = omega arith in
    rw before (rw same at (months_from_march y (m - 3) (omega arith)))

months_all : (y : ℕ) → days_of_months y 12 ≡ days_in_year y
months_all y = omega (arith, months_late y 13 (omega arith) (omega arith), year_is y)

-- ---- more years and months have no fewer days
years_added : (n k : ℕ) → days_of_years n ≤ days_of_years (k + n)
years_added n zero = let same : 0 + n ≡ n = omega arith in rw same (omega arith)
years_added n (suc k) =
    let next : suc k + n ≡ suc (k + n) = omega arith in
    rw next (omega (arith, years_added n k, years_more (k + n)))

years_kept : (n later : ℕ) → n ≤ later → days_of_years n ≤ days_of_years later
years_kept n later h =
    let same : later - n + n ≡ later = omega arith in
    rw same at (years_added n (later - n))

months_added : (y m k : ℕ) → days_of_months y m ≤ days_of_months y (k + m)
months_added y m zero = let same : 0 + m ≡ m = omega arith in rw same (omega arith)
months_added y m (suc k) =
    let back : suc k + m - 1 ≡ k + m = omega arith in
    omega (arith, months_added y m k, rw back at (months_more y (suc k + m) (omega arith)))

months_kept : (y m later : ℕ) → m ≤ later → days_of_months y m ≤ days_of_months y later
months_kept y m later h =
    let same : later - m + m ≡ later = omega arith in
    rw same at (months_added y m (later - m))

-- a day of a month lies before each later month
day_in_order : (y m d later : ℕ) → 1 ≤ m → d ≤ days_in_month y m → m ≤ later → days_of_months y (m - 1) + d ≤ days_of_months y later
day_in_order y m d later low last h = omega (arith, months_more y m low, months_kept y m later h)

-- ---- the days before a date
abbrev pub day_of : ℕ → ℕ → ℕ → DateValue
day_of y m d = record { year = y; month = m; day = d }

before_is : (y m d : ℕ) → days_before (day_of y m d) ≡ days_of_years (y - 1970) + days_of_months y (m - 1) + (d - 1)
unfolding days_before
before_is y m d = refl

-- a date of an earlier year, or of an earlier month, has fewer days before it
before_year : (y m d y₂ m₂ d₂ : ℕ) → IsDate (day_of y m d) → IsDate (day_of y₂ m₂ d₂) → y < y₂ → days_before (day_of y m d) < days_before (day_of y₂ m₂ d₂)
before_year y m d y₂ m₂ d₂ h k lt =
    let same : 1970 + (y - 1970) ≡ y = omega arith in
    let year = rw same at (years_more (y - 1970)) in
    let kept = years_kept (suc (y - 1970)) (y₂ - 1970) (omega arith) in
    omega (arith, year, kept, year_is y, months_all y, day_in_order y m d 12 h.1.0 h.2.1 h.1.1, before_is y m d, before_is y₂ m₂ d₂)

before_month : (y m d m₂ d₂ : ℕ) → IsDate (day_of y m d) → IsDate (day_of y m₂ d₂) → m < m₂ → days_before (day_of y m d) < days_before (day_of y m₂ d₂)
before_month y m d m₂ d₂ h k lt =
    omega (arith, day_in_order y m d (m₂ - 1) h.1.0 h.2.1 (omega arith), before_is y m d, before_is y m₂ d₂)

-- so dates with as many days before them are one
one_of_year : (y m d m₂ d₂ : ℕ) → IsDate (day_of y m d) → IsDate (day_of y m₂ d₂) → days_before (day_of y m d) ≡ days_before (day_of y m₂ d₂) → (m ≡ m₂) × (d ≡ d₂)
one_of_year y m d m₂ d₂ h k e =
    elim (cases_order m m₂) [
      | inl month ↦
          let months : days_of_months y (m - 1) ≡ days_of_months y (m₂ - 1) = ap (λ (n : ℕ). days_of_months y (n - 1)) month in
          (month, omega (arith, before_is y m d, before_is y m₂ d₂))
      | inr (inl lt) ↦ absurd (omega (arith, before_month y m d m₂ d₂ h k lt))
      | inr (inr gt) ↦ absurd (omega (arith, before_month y m₂ d₂ m d k h gt))
    ]

one_date : (y m d y₂ m₂ d₂ : ℕ) → IsDate (day_of y m d) → IsDate (day_of y₂ m₂ d₂) → days_before (day_of y m d) ≡ days_before (day_of y₂ m₂ d₂) → day_of y m d ≡ day_of y₂ m₂ d₂
one_date y m d y₂ m₂ d₂ h k e =
    elim (cases_order y y₂) [
      | inl year ↦
          let there : IsDate (day_of y m₂ d₂) = subst (λ (x : ℕ). IsDate (day_of x m₂ d₂)) (sym year) k in
          let same = one_of_year y m d m₂ d₂ h there (e ∙ ap (λ (x : ℕ). days_before (day_of x m₂ d₂)) (sym year)) in
          ap (λ (x : ℕ). day_of x m d) year ∙ ap (λ (x : ℕ). day_of y₂ x d) same.0 ∙ ap (λ (x : ℕ). day_of y₂ m₂ x) same.1
      | inr (inl lt) ↦ absurd (omega (arith, before_year y m d y₂ m₂ d₂ h k lt))
      | inr (inr gt) ↦ absurd (omega (arith, before_year y₂ m₂ d₂ y m d k h gt))
    ]

-- ---- day after day
-- a date with so many days before it
abbrev pub Counts : ℕ → DateValue → Type 0
Counts n d = IsDate d × (days_before d ≡ n)

in_month : (n y m d : ℕ) → Counts n (day_of y m d) → d < days_in_month y m → Counts (suc n) (day_of y m (d + 1))
in_month n y m d h lt =
    ((h.0.0, h.0.1, (omega arith, omega arith)), omega (arith, before_is y m d, before_is y m (d + 1)))

in_year : (n y m d : ℕ) → Counts n (day_of y m d) → days_in_month y m ≤ d → m < 12 → Counts (suc n) (day_of y (m + 1) 1)
in_year n y m d h last lt =
    let back : m + 1 - 1 ≡ m = omega arith in
    let some = month_bounds y (m + 1) in
    ((h.0.0, (omega arith, omega arith), (omega arith, omega arith)), omega (arith, before_is y m d, rw back at (before_is y (m + 1) 1), months_more y m h.0.1.0))

in_next_year : (n y m d : ℕ) → Counts n (day_of y m d) → days_in_month y m ≤ d → 12 ≤ m → Counts (suc n) (day_of (y + 1) 1 1)
in_next_year n y m d h last december =
    let same : 1970 + (y - 1970) ≡ y = omega arith in
    let later : y + 1 - 1970 ≡ suc (y - 1970) = omega arith in
    let twelve : m ≡ 12 = omega arith in
    let all : days_of_months y m ≡ days_of_months y 12 = ap (days_of_months y) twelve in
    let some = month_bounds (y + 1) 1 in
    ((omega arith, (omega arith, omega arith), (omega arith, omega arith)), omega (arith, before_is y m d, rw later at (before_is (y + 1) 1 1), rw same at (years_more (y - 1970)), months_more y m h.0.1.0, months_all y, year_is y, months_none (y + 1)))

counted : (n : ℕ) (d : DateValue) → Counts n d → Counts (suc n) (day_after d)
counted n d h =
    let long : ℕ = days_in_month d.year d.month in
    let stay : DateValue = day_of d.year d.month (d.day + 1) in
    let next : DateValue = day_of d.year (d.month + 1) 1 in
    let first : DateValue = day_of (d.year + 1) 1 1 in
    let behind : DateValue = cond (nat_lt d.month 12) next first in
    elim (cases_lt d.day long) [
      | inl lt ↦ subst (Counts (suc n)) (cond_below d.day long stay behind lt) (in_month n d.year d.month d.day h lt)
      | inr last ↦ elim (cases_lt d.month 12) [
        | inl lt ↦ subst (Counts (suc n)) (cond_above d.day long stay behind next last (cond_below d.month 12 next first lt)) (in_year n d.year d.month d.day h last lt)
        | inr december ↦ subst (Counts (suc n)) (cond_above d.day long stay behind first last (cond_above d.month 12 next first first december refl)) (in_next_year n d.year d.month d.day h last december)
      ]
    ]

pub dated : (n : ℕ) → Counts n (date_of n)
unfolding date_of
dated zero =
    ((omega arith, (omega arith, omega arith), (omega arith, omega arith)), omega (arith, before_is 1970 1 1, months_none 1970, years_none))
dated (suc n) = counted n (date_of n) (dated n)

pub date_found : (n : ℕ) (d : DateValue) → Counts n d → d ≡ date_of n
date_found n d h =
    let k = dated n in
    let there = date_of n in
    one_date d.year d.month d.day there.year there.month there.day h.0 k.0 (h.1 ∙ sym k.1)

-- ---- by years that begin in March
march_year : (y : ℕ) → 1970 ≤ y → days_of_years (y - 1970) + leap_day y + 719527 ≡ march_days y
march_year y h = let same : 1970 + (y - 1970) ≡ y = omega arith in rw same at (years_of_march (y - 1970))

late_before : (y m d : ℕ) → 1970 ≤ y → 3 ≤ m → m ≤ 12 → 1 ≤ d → days_before (day_of y m d) + 719469 ≡ march_days y + march_months m + d
late_before y m d h low high first =
    omega (arith, before_is y m d, march_year y h, months_late y m low (omega arith))

-- January and February are those of the year before
early_before : (y m d : ℕ) → 1969 ≤ y → 1 ≤ m → m ≤ 2 → 1 ≤ d → days_before (day_of (suc y) m d) + 719469 ≡ march_days y + march_months (m + 12) + d
early_before y m d h low high first =
    omega (arith, before_is (suc y) m d, march_year (suc y) (omega arith), march_more y, months_early (suc y) m low high)

-- a day of such a year, as a month from 3 to 14 and a day of that month
month_and_day : (p : ℕ) → p < 366 → march_months ((5 * p + 461) / 153) + (5 * p + 461) % 153 / 5 ≡ p
month_and_day p h = omega arith

-- and from March to December the month has that day
late_day : (y p : ℕ) → (5 * p + 461) / 153 ≤ 12 → (5 * p + 461) % 153 / 5 + 1 ≤ days_in_month y ((5 * p + 461) / 153)
late_day y p h = grind (arith, nat_tests)

-- January has it too, and February where the year has that many days
early_day : (y p : ℕ) → 12 < (5 * p + 461) / 153 → p < 365 + leap_day y → (5 * p + 461) % 153 / 5 + 1 ≤ days_in_month y ((5 * p + 461) / 153 - 12)
early_day y p h k = grind (arith, nat_tests)

pub late_date : (n y p : ℕ) → march_days y + p ≡ n + 719468 → p < 366 → (5 * p + 461) / 153 ≤ 12 → Counts n (day_of y ((5 * p + 461) / 153) ((5 * p + 461) % 153 / 5 + 1))
late_date n y p e bound late =
    let m = (5 * p + 461) / 153 in
    let d = (5 * p + 461) % 153 / 5 + 1 in
    let year : 1970 ≤ y = omega arith in
    let low : 3 ≤ m = omega arith in
    ((year, (omega arith, late), (omega arith, late_day y p late)), omega (arith, late_before y m d year low late (omega arith), month_and_day p bound))

pub early_date : (n y p : ℕ) → march_days y + p ≡ n + 719468 → n + 719468 < march_days (suc y) → p < 366 → 12 < (5 * p + 461) / 153 → Counts n (day_of (suc y) ((5 * p + 461) / 153 - 12) ((5 * p + 461) % 153 / 5 + 1))
early_date n y p e within bound early =
    let m = (5 * p + 461) / 153 - 12 in
    let d = (5 * p + 461) % 153 / 5 + 1 in
    let year : 1969 ≤ y = omega arith in
    let low : 1 ≤ m = omega arith in
    let high : m ≤ 2 = omega arith in
    let same : m + 12 ≡ (5 * p + 461) / 153 = omega arith in
    let has : p < 365 + leap_day (suc y) = omega (arith, march_more y) in
    ((omega arith, (low, omega arith), (omega arith, early_day (suc y) p early has)), omega (arith, rw same at (early_before y m d year low high (omega arith)), month_and_day p bound))

-- so many days end before the year 10000
pub year_bound : (n : ℕ) → n < 2932897 → (date_of n).year < 10000
year_bound n h =
    let d : DateValue = date_of n in
    let k = dated n in
    let count : days_before (day_of d.year d.month d.day) ≡ n = k.1 in
    let leap : leap_day d.year ≤ 1 = grind arith in
    omega (arith, before_is d.year d.month d.day, march_year d.year k.0.0)
