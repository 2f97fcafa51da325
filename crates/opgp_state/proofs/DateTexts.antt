-- Times written as dates.
use Rattle.std.proofs.Common.{◌≡◌, ◌∙◌, ℕ, ◌+◌, ◌*◌, ◌/◌, ◌%◌, ◌<◌, List, ◌++◌, codes, refl, sym, ap, arith, get_or}
use Rattle.opgp_state.specs.Date.{DateValue, IsDate, clock_text, date_of, date_text, day_text, days_before, seconds_text, time_of, year_10000}
use Rattle.opgp_state.proofs.Calendar.{date_found, dated, day_of, month_bounds, year_bound}

-- the text of a time, written in two pieces
pub text_is : (n : ℕ) → date_text n ≡ day_text (date_of (n / 86400)) ++ seconds_text (n % 86400)
unfolding date_text
text_is n = refl

-- a date with so many days before it is the one so many days after 1970-01-01
pub date_of_before : (d : DateValue) → IsDate d → date_of (days_before d) ≡ d
date_of_before d h = sym (date_found (days_before d) d (h, refl))

clock_is : (hour minute second : ℕ) → hour < 24 → minute < 60 → second < 60 → seconds_text (hour * 3600 + minute * 60 + second) ≡ clock_text hour minute second
clock_is hour minute second h m s =
    let n : ℕ = hour * 3600 + minute * 60 + second in
    let e : n / 3600 ≡ hour = omega arith in
    let f : n / 60 % 60 ≡ minute = omega arith in
    let g : n % 60 ≡ second = omega arith in
    ap (λ (x : ℕ). clock_text x (n / 60 % 60) (n % 60)) e ∙ ap (λ (x : ℕ). clock_text hour x (n % 60)) f ∙ ap (clock_text hour minute) g

-- the text of a time says its date and its time of that day
pub written : (d : DateValue) (hour minute second : ℕ) → IsDate d → hour < 24 → minute < 60 → second < 60 → date_text (time_of d hour minute second) ≡ day_text d ++ clock_text hour minute second
written d hour minute second date h m s =
    let n : ℕ = time_of d hour minute second in
    let days : n / 86400 ≡ days_before d = omega arith in
    let rest : n % 86400 ≡ hour * 3600 + minute * 60 + second = omega arith in
    let day : date_of (n / 86400) ≡ d = ap date_of days ∙ date_of_before d date in
    let clock : seconds_text (n % 86400) ≡ clock_text hour minute second = ap seconds_text rest ∙ clock_is hour minute second h m s in
    text_is n ∙ ap (λ (x : DateValue). day_text x ++ seconds_text (n % 86400)) day ∙ ap (λ (o : List ℕ). day_text d ++ o) clock

-- ---- one text, one time
two_same : (x y : ℕ) → x < 100 → y < 100 → 48 + x / 10 % 10 ≡ 48 + y / 10 % 10 → 48 + x % 10 ≡ 48 + y % 10 → x ≡ y
two_same x y h k e f = omega arith

four_same : (x y : ℕ) → x < 10000 → y < 10000 → 48 + x / 100 / 10 % 10 ≡ 48 + y / 100 / 10 % 10 → 48 + x / 100 % 10 ≡ 48 + y / 100 % 10 → 48 + x / 10 % 10 ≡ 48 + y / 10 % 10 → 48 + x % 10 ≡ 48 + y % 10 → x ≡ y
four_same x y h k a b e f = omega arith

clock_same : (x y : ℕ) → x < 86400 → y < 86400 → x / 3600 ≡ y / 3600 → x / 60 % 60 ≡ y / 60 % 60 → x % 60 ≡ y % 60 → x ≡ y
clock_same x y h k a b e = omega arith

-- the texts of two dates and two numbers of seconds
day_same : (a b : DateValue) (x y : ℕ) → IsDate a → IsDate b → a.year < 10000 → b.year < 10000 → day_text a ++ seconds_text x ≡ day_text b ++ seconds_text y → a ≡ b
day_same a b x y h k p q e =
    let sign : (n : ℕ) → get_or (day_text a ++ seconds_text x) n 0 ≡ get_or (day_text b ++ seconds_text y) n 0 = λ n. ap (λ (o : List ℕ). get_or o n 0) e in
    let f = month_bounds a.year a.month in
    let g = month_bounds b.year b.month in
    let year : a.year ≡ b.year = four_same a.year b.year p q (sign 0) (sign 1) (sign 2) (sign 3) in
    let month : a.month ≡ b.month = two_same a.month b.month (omega arith) (omega arith) (sign 5) (sign 6) in
    let day : a.day ≡ b.day = two_same a.day b.day (omega arith) (omega arith) (sign 8) (sign 9) in
    ap (λ (n : ℕ). day_of n a.month a.day) year ∙ ap (λ (n : ℕ). day_of b.year n a.day) month ∙ ap (λ (n : ℕ). day_of b.year b.month n) day

seconds_same : (a b : DateValue) (x y : ℕ) → x < 86400 → y < 86400 → day_text a ++ seconds_text x ≡ day_text b ++ seconds_text y → x ≡ y
seconds_same a b x y h k e =
    let sign : (n : ℕ) → get_or (day_text a ++ seconds_text x) n 0 ≡ get_or (day_text b ++ seconds_text y) n 0 = λ n. ap (λ (o : List ℕ). get_or o n 0) e in
    clock_same x y h k
    (two_same (x / 3600) (y / 3600) (omega arith) (omega arith) (sign 11) (sign 12))
    (two_same (x / 60 % 60) (y / 60 % 60) (omega arith) (omega arith) (sign 14) (sign 15))
    (two_same (x % 60) (y % 60) (omega arith) (omega arith) (sign 17) (sign 18))

pub one_time : (a b : ℕ) → a < year_10000 → b < year_10000 → date_text a ≡ date_text b → a ≡ b
one_time a b h k e =
    let same : day_text (date_of (a / 86400)) ++ seconds_text (a % 86400) ≡ day_text (date_of (b / 86400)) ++ seconds_text (b % 86400) = sym (text_is a) ∙ e ∙ text_is b in
    let some = dated (a / 86400) in
    let other = dated (b / 86400) in
    let dates : date_of (a / 86400) ≡ date_of (b / 86400) = day_same (date_of (a / 86400)) (date_of (b / 86400)) (a % 86400) (b % 86400) some.0 other.0 (year_bound (a / 86400) (omega arith)) (year_bound (b / 86400) (omega arith)) same in
    let days : a / 86400 ≡ b / 86400 = sym some.1 ∙ ap days_before dates ∙ other.1 in
    let rest : a % 86400 ≡ b % 86400 = seconds_same (date_of (a / 86400)) (date_of (b / 86400)) (a % 86400) (b % 86400) (omega arith) (omega arith) same in
    omega arith
