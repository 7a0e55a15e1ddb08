-- Each day of the calendar has its own number. The numbers go up day by day as those of `jiff` do, so that what is
-- proved there holds here.
use Rattle.std.proofs.Common.{◌≡◌, ◌∙◌, ap, ℕ, zero, suc, ◌+◌, ◌-◌, ◌*◌, ◌/◌, ◌<◌, ◌≤◌, cond, refl, arith, ℤ, pos, neg_ℤ, ◌+ℤ◌, ◌≤ℤ◌, to_z, w8, w16}
use Rattle.std.proofs.lemmas.Bool.Decides.{nat_tests}
use Rattle.std.proofs.lemmas.Int.{ints}
use Rattle.jiff.specs.Words.{epoch_day, IsYmd, days_in_month as month_length}
use Rattle.jiff.specs.Types.{Date}
use Rattle.jiff.proofs.Family.{epoch_day_injective, days_from_civil-day, days_from_civil-next_month, days_from_civil-next_year, days_from_civil-max}
use Rattle.asn1_leaves.specs.Calendar.{is_leap_year, days_in_month, IsCalendarDate, days_before_year, days_of_months, day_number, day_number-9999-12-31}

-- a numbering of the dates that increases by one from each day to the next
record CountsDays (f : ℤ → ℕ → ℕ → ℤ) : Type 0 where
  day : (y : ℤ) (m d e : ℕ) → 1 ≤ d → 1 ≤ e → f y m d +ℤ pos e ≡ f y m e +ℤ pos d
  month : (y : ℤ) (m d : ℕ) → 1 ≤ m → d ≡ month_length y m → f y (m + 1) 1 ≡ f y m d +ℤ pos 1
  year : (y next : ℤ) → neg_ℤ (pos 10000) ≤ℤ y → next ≡ y +ℤ pos 1 → f next 1 1 ≡ f y 12 31 +ℤ pos 1

-- by three laws
counts_days : {f : ℤ → ℕ → ℕ → ℤ} → ((y : ℤ) (m d e : ℕ) → 1 ≤ d → 1 ≤ e → f y m d +ℤ pos e ≡ f y m e +ℤ pos d) → ((y : ℤ) (m d : ℕ) → 1 ≤ m → d ≡ month_length y m → f y (m + 1) 1 ≡ f y m d +ℤ pos 1) → ((y next : ℤ) → neg_ℤ (pos 10000) ≤ℤ y → next ≡ y +ℤ pos 1 → f next 1 1 ≡ f y 12 31 +ℤ pos 1) → CountsDays f
counts_days day month year = record { day = day; month = month; year = year }

-- each month has 28 days at least
days_in_month_bound : (y m : ℕ) → 28 ≤ days_in_month y m
days_in_month_bound y m = grind arith

-- a leap day, or none
abbrev leap_day : ℕ → ℕ
leap_day y = cond (is_leap_year y) 1 0

-- the days of one year more
days_before_year-suc : (y : ℕ) → days_before_year (suc y) ≡ days_before_year y + 365 + leap_day y
days_before_year-suc y = grind (arith, nat_tests)

-- the days before December
days_of_months-eleven : (y : ℕ) → days_of_months y 11 ≡ 334 + leap_day y
unfolding days_of_months
days_of_months-eleven y = grind arith

-- the days of no month, and of one month more
pub days_of_months-none : (y : ℕ) → days_of_months y 0 ≡ 0
unfolding days_of_months
days_of_months-none y = refl

pub days_of_months-more : (y m : ℕ) → 1 ≤ m → days_of_months y m ≡ days_of_months y (m - 1) + days_in_month y m
unfolding days_of_months
days_of_months-more y zero low = absurd (omega (arith, low))
days_of_months-more y (suc n) low =
    let same : suc n - 1 ≡ n = omega arith in
    rw same refl

-- the days of December, and of the year
pub days_of_months-december : (y : ℕ) → days_of_months y 12 ≡ days_of_months y 11 + 31
unfolding days_of_months
days_of_months-december y = refl

days_of_year : (y : ℕ) → days_before_year (suc y) ≡ days_before_year y + days_of_months y 12
days_of_year y = omega (arith, days_before_year-suc y, days_of_months-eleven y, days_of_months-december y)

-- 400 years have 146,097 days, so a day lies in the year that its number tells, or in the one before
pub year_before : (days next : ℕ) → next ≡ (days * 400 + 400) / 146097 → days < days_before_year next → (days_before_year (next - 1) ≤ days) × (days < days_before_year (next - 1) + days_of_months (next - 1) 12)
year_before days next is low =
    let some : next ≡ suc (next - 1) = omega (arith, is, low) in
    let whole : days_before_year next ≡ days_before_year (next - 1) + days_of_months (next - 1) 12 = ap days_before_year some ∙ days_of_year (next - 1) in
    (omega (arith, is, some), omega (arith, whole, low))

pub year_itself : (days year : ℕ) → year ≡ (days * 400 + 400) / 146097 → days < days_before_year year + days_of_months year 12
year_itself days year is = omega (arith, is, days_of_year year)

-- so the first of a month has the days of the months before it
first_of_month : {f : ℤ → ℕ → ℕ → ℤ} → CountsDays f → (y m : ℕ) → f (pos y) (suc m) 1 ≡ f (pos y) 1 1 +ℤ pos (days_of_months y m)
unfolding days_of_months
first_of_month h y zero = omega (arith, ints)
first_of_month h y (suc m) =
    let long = days_in_month_bound y (suc m) in
    let same : suc m + 1 ≡ suc (suc m) = omega arith in
    omega (arith, ints, first_of_month h y m, h.day (pos y) (suc m) 1 (days_in_month y (suc m)) (omega arith) (omega arith), rw same at (h.month (pos y) (suc m) (days_in_month y (suc m)) (omega arith) refl))

-- and 1 January those of the years before it
first_of_year : {f : ℤ → ℕ → ℕ → ℤ} → CountsDays f → (y : ℕ) → f (pos y) 1 1 ≡ f (pos 0) 1 1 +ℤ pos (days_before_year y)
first_of_year h zero = omega (arith, ints)
first_of_year h (suc y) =
    omega (arith, ints, first_of_year h y, days_before_year-suc y, h.year (pos y) (pos (suc y)) (omega (arith, ints)) (omega (arith, ints)), h.day (pos y) 12 31 1 (omega arith) (omega arith), first_of_month h y 11, days_of_months-eleven y)

-- such a numbering is ours, from its number of 0000-01-01 on
counted : {f : ℤ → ℕ → ℕ → ℤ} → CountsDays f → (y m d : ℕ) → 1 ≤ m → 1 ≤ d → f (pos y) m d ≡ f (pos 0) 1 1 +ℤ pos (day_number y m d)
unfolding day_number
counted h y m d low first =
    let same : suc (m - 1) ≡ m = omega arith in
    omega (arith, ints, first_of_year h y, rw same at (first_of_month h y (m - 1)), h.day (pos y) m d 1 first (omega arith))

-- the days of `jiff` count from 1970-01-01
pub epoch_day-day_number : (date : Date) (year : ℕ) → date.year ≡ pos year → epoch_day date +ℤ pos 719528 ≡ pos (day_number year date.month date.day)
epoch_day-day_number date year e =
    let count = counts_days days_from_civil-day days_from_civil-next_month days_from_civil-next_year in
    let last = counted count 9999 12 31 (omega arith) (omega arith) in
    rw e (omega (arith, ints, days_from_civil-max, day_number-9999-12-31, last, counted count year date.month date.day date.month_in.0 date.day_in.0))

-- the date of `jiff` with these parts
date_of : (year month day : ℕ) → IsCalendarDate year month day → Date
date_of year month day h =
    record { year = pos year; month = month; day = day; year_in = omega (arith, ints); month_in = h.1; day_in = h.2 }

-- two days with one number are the same
pub day_number-injective : (year month day year' month' day' : ℕ) → IsCalendarDate year month day → IsCalendarDate year' month' day' → day_number year month day ≡ day_number year' month' day' → (year ≡ year') × (month ≡ month') × (day ≡ day')
unfolding date_of
day_number-injective y m d y' m' d' h h' e =
    let a = date_of y m d h in
    let b = date_of y' m' d' h' in
    let same = epoch_day_injective a b (omega (arith, ints, epoch_day-day_number a y refl, epoch_day-day_number b y' refl)) in
    (omega (arith, ints, same.0), same.1, same.2)

-- `jiff` counts its days from -9999-01-01
pub days_since_min-day_number : (date : Date) (year month day count : ℕ) → IsCalendarDate year month day → IsYmd (to_z w16 year) (to_z w8 month) (to_z w8 day) date → epoch_day date +ℤ pos 4371587 ≡ pos count → count ≡ 3652059 + day_number year month day
days_since_min-day_number date year month day count h parts e =
    let high : day ≤ 31 = grind arith in
    let y : date.year ≡ pos year = omega (arith, ints, parts.0) in
    let m : date.month ≡ month = omega (arith, ints, parts.1) in
    let d : date.day ≡ day = omega (arith, ints, parts.2) in
    let number : day_number year date.month date.day ≡ day_number year month day = rw (m, d) refl in
    omega (arith, ints, epoch_day-day_number date year y)
