-- Dates that are read.
use Rattle.std.proofs.Common.{◌≡◌, ◌∙◌, inl, inr, ℕ, ◌+◌, ◌-◌, ◌*◌, ◌/◌, ◌%◌, ◌<◌, ◌≤◌, ◌^◌, ◌≢◌, List, [], ◌∷◌, ◌++◌, length, refl, sym, ap, subst, codes, get_or, arith, add-one}
use Rattle.std.specs.Char.{digit_value}
use Rattle.std.specs.Str.Parse.{AllDigits, IsNumeral, digits_value, without_leading_plus}
use Rattle.std.proofs.lemmas.Int.Digits.{digits_value-lt}
use Rattle.std.proofs.lemmas.Str.Parse.{without_leading_plus_none}
use Rattle.std.proofs.lemmas.List.{length-append}
use Rattle.std.proofs.Math.Nat.{pow-le-pow_right}
use Rattle.opgp_state.specs.Date.{DateValue, date_of, date_text, day_text, days_before, days_in_month, days_in_year, days_of_months, days_of_years, seconds_text}
use Rattle.opgp_stack.specs.Time.{IsDateOf, IsSeconds, IsTime, date_at, seconds_at, two_at}
use Rattle.opgp_state.proofs.DateTexts.{one_time, text_is}
use Rattle.opgp_state.proofs.Calendar.{dated, day_of, month_bounds, year_bound}

-- ---- sums of days
pub year_most : (y : ℕ) → days_in_year y ≤ 366
year_most y = grind arith

pub month_most : (y m : ℕ) → days_in_month y m ≤ 31
month_most y m = (month_bounds y m).0

pub years_next : (n : ℕ) → days_of_years (n + 1) ≡ days_of_years n + days_in_year (1970 + n)
unfolding days_of_years
years_next n = rw add-one refl

pub years_start : days_of_years 0 ≡ 0
unfolding days_of_years
years_start = refl

pub months_next : (y n : ℕ) → days_of_months y (n + 1) ≡ days_of_months y n + days_in_month y (n + 1)
unfolding days_of_months
months_next y n = rw add-one refl

pub months_start : (y : ℕ) → days_of_months y 0 ≡ 0
unfolding days_of_months
months_start y = refl

pub before_is : (d : DateValue) → days_before d ≡ days_of_years (d.year - 1970) + days_of_months d.year (d.month - 1) + (d.day - 1)
unfolding days_before
before_is d = refl

-- ---- a date's text is read as its numbers
two_value : (x : ℕ) → x < 100 → (48 + x / 10 % 10 - 48) * 10 + (48 + x % 10 - 48) ≡ x
two_value x h = omega arith

four_value : (x : ℕ) → x < 10000 → ((48 + x / 100 / 10 % 10 - 48) * 10 + (48 + x / 100 % 10 - 48)) * 100 + ((48 + x / 10 % 10 - 48) * 10 + (48 + x % 10 - 48)) ≡ x
four_value x h = omega arith

clock_value : (s : ℕ) → s / 3600 * 3600 + s / 60 % 60 * 60 + s % 60 ≡ s
clock_value s = omega arith

module _ (d : DateValue) (s : ℕ) (low : d.year < 10000) (m : d.month < 100) (k : d.day < 100) (h : s < 86400) where
  date_read : date_at (day_text d ++ seconds_text s) ≡ d
  date_read =
      ap (λ (n : ℕ). day_of n (two_at (day_text d ++ seconds_text s) 5) (two_at (day_text d ++ seconds_text s) 8)) (four_value d.year low)
      ∙ ap (λ (n : ℕ). day_of d.year n (two_at (day_text d ++ seconds_text s) 8)) (two_value d.month m) ∙ ap (λ (n : ℕ). day_of d.year d.month n) (two_value d.day k)

  seconds_read : seconds_at (day_text d ++ seconds_text s) ≡ s
  seconds_read =
      let hour : s / 3600 < 100 = omega arith in
      let minute : s / 60 % 60 < 100 = omega arith in
      let second : s % 60 < 100 = omega arith in
      omega (arith, two_value (s / 3600) hour, two_value (s / 60 % 60) minute, two_value (s % 60) second, clock_value s)

-- the time of a date
pub time_read : (n : ℕ) (text : List ℕ) → n < 2 ^ 32 → date_text n ≡ text → n ≡ days_before (date_at text) * 86400 + seconds_at text
time_read n text small e =
    let day : ℕ = n / 86400 in
    let d : DateValue = date_of day in
    let is = dated day in
    let whole : day_text d ++ seconds_text (n % 86400) ≡ text = sym (text_is n) ∙ e in
    let months = month_bounds d.year d.month in
    let low : d.year < 10000 = year_bound day (omega arith) in
    let m : d.month < 100 = omega (arith, is.0.1.1) in
    let k : d.day < 100 = omega (arith, is.0.2.1, months.0) in
    let s : n % 86400 < 86400 = omega arith in
    let date : date_at text ≡ d = ap date_at (sym whole) ∙ date_read d (n % 86400) low m k s in
    let seconds : seconds_at text ≡ n % 86400 = ap seconds_at (sym whole) ∙ seconds_read d (n % 86400) low m k s in
    let days : days_before (date_at text) ≡ day = ap days_before date ∙ is.1 in
    omega (arith, days, seconds)

-- so it is the only one
pub date_missed : (text : List ℕ) → ((n : ℕ) → n < 2 ^ 32 → n ≡ days_before (date_at text) * 86400 + seconds_at text → ⊥) → (n : ℕ) → IsDateOf text n → ⊥
date_missed text none n h = none n h.small (time_read n text h.small h.written)

pub date_long : (n : ℕ) → length (date_text n) ≡ 20
date_long n = ap (λ (l : List ℕ). length l) (text_is n)

-- so texts of other lengths are none
pub long_missed : (text : List ℕ) → length text ≢ 20 → (n : ℕ) → IsDateOf text n → ⊥
long_missed text other n h = other (sym (ap (λ (l : List ℕ). length l) h.written) ∙ date_long n)

pub day_missed : (text : List ℕ) → length text ≢ 10 → (n : ℕ) → IsDateOf (text ++ codes "T00:00:00Z") n → ⊥
day_missed text other n h =
    other (omega (arith, ap (λ (l : List ℕ). length l) h.written, date_long n, length-append text (codes "T00:00:00Z")))

-- a text that isn't the date of the only time that it could be
pub other_date : (text : List ℕ) (time : ℕ) → time ≡ days_before (date_at text) * 86400 + seconds_at text → (date_text time ≡ text → ⊥) → (n : ℕ) → IsDateOf text n → ⊥
other_date text time is other n h = other (ap date_text (is ∙ sym (time_read n text h.small h.written)) ∙ h.written)

-- ---- numbers of seconds
no_plus : (text : List ℕ) → IsNumeral 10 text → get_or text 0 0 ≢ 43
no_plus [] h e = absurd (omega (arith, h.0))
no_plus (c ∷ cs) h e = let k : digit_value 43 < 10 = subst (λ (x : ℕ). digit_value x < 10) e h.1.0 in absurd (omega (arith, k))

pub seconds_missed : (text : List ℕ) → ((IsNumeral 10 (without_leading_plus text) × (digits_value 10 (without_leading_plus text) < 2 ^ 64)) → ⊥) → (n : ℕ) → IsSeconds text n → ⊥
seconds_missed text none n h =
    let same : without_leading_plus text ≡ text = without_leading_plus_none text (no_plus text h.digits) in
    let small : digits_value 10 text < 10 ^ length text = digits_value-lt 10 text h.digits.1 in
    let most : 10 ^ length text ≤ 10 ^ 18 = pow-le-pow_right {n = 10} (omega arith) h.few in
    none (subst (λ (l : List ℕ). IsNumeral 10 l × (digits_value 10 l < 2 ^ 64)) (sym same) (h.digits, omega (arith, small, most)))

-- ---- a text says one time at most
same_digits : (text : List ℕ) (a b : ℕ) → IsSeconds text a → IsSeconds text b → a ≡ b
same_digits text a b h k = h.value ∙ sym k.value

same_date : (text : List ℕ) (a b : ℕ) → IsDateOf text a → IsDateOf text b → a ≡ b
same_date text a b h k = one_time a b (omega (arith, h.small)) (omega (arith, k.small)) (h.written ∙ sym k.written)

-- a date has a dash where digits have none
dashed : (d : DateValue) (s : ℕ) → get_or (day_text d ++ seconds_text s) 4 0 ≡ 45
dashed d s = refl

dash_of : (n : ℕ) → get_or (date_text n) 4 0 ≡ 45
dash_of n = ap (λ (l : List ℕ). get_or l 4 0) (text_is n) ∙ dashed (date_of (n / 86400)) (n % 86400)

no_dash : (text more : List ℕ) → 5 ≤ length text → AllDigits 10 text → get_or (text ++ more) 4 0 ≡ 45 → ⊥
no_dash [] more long digits e = absurd (omega (arith, long))
no_dash (a ∷ []) more long digits e = absurd (omega (arith, long))
no_dash (a ∷ b ∷ []) more long digits e = absurd (omega (arith, long))
no_dash (a ∷ b ∷ c ∷ []) more long digits e = absurd (omega (arith, long))
no_dash (a ∷ b ∷ c ∷ d ∷ []) more long digits e = absurd (omega (arith, long))
no_dash (a ∷ b ∷ c ∷ d ∷ f ∷ rest) more long digits e =
    let k : digit_value 45 < 10 = subst (λ (x : ℕ). digit_value x < 10) e digits.1.1.1.1.0 in absurd (omega (arith, k))

digits_or_date : (text : List ℕ) (a b : ℕ) → IsSeconds text a → IsDateOf text b → ⊥
digits_or_date text a b h k = absurd (omega (arith, h.few, ap (λ (l : List ℕ). length l) k.written, date_long b))

digits_or_day : (text : List ℕ) (a b : ℕ) → IsSeconds text a → IsDateOf (text ++ codes "T00:00:00Z") b → ⊥
digits_or_day text a b h k =
    let long : length text ≡ 10 = omega (arith, ap (λ (l : List ℕ). length l) k.written, date_long b, length-append text (codes "T00:00:00Z")) in
    no_dash text (codes "T00:00:00Z") (omega arith) h.digits.1 (ap (λ (l : List ℕ). get_or l 4 0) (sym k.written) ∙ dash_of b)

date_or_day : (text : List ℕ) (a b : ℕ) → IsDateOf text a → IsDateOf (text ++ codes "T00:00:00Z") b → ⊥
date_or_day text a b h k =
    absurd (omega (arith, ap (λ (l : List ℕ). length l) h.written, date_long a, ap (λ (l : List ℕ). length l) k.written, date_long b, length-append text (codes "T00:00:00Z")))

pub one_time_said : (text : List ℕ) (a b : ℕ) → IsTime text a → IsTime text b → a ≡ b
one_time_said text a b (inl h) (inl k) = same_digits text a b h k
one_time_said text a b (inl h) (inr (inl k)) = absurd (digits_or_date text a b h k)
one_time_said text a b (inl h) (inr (inr k)) = absurd (digits_or_day text a b h k)
one_time_said text a b (inr (inl h)) (inl k) = absurd (digits_or_date text b a k h)
one_time_said text a b (inr (inl h)) (inr (inl k)) = same_date text a b h k
one_time_said text a b (inr (inl h)) (inr (inr k)) = absurd (date_or_day text a b h k)
one_time_said text a b (inr (inr h)) (inl k) = absurd (digits_or_day text b a k h)
one_time_said text a b (inr (inr h)) (inr (inl k)) = absurd (date_or_day text b a k h)
one_time_said text a b (inr (inr h)) (inr (inr k)) = same_date (text ++ codes "T00:00:00Z") a b h k
