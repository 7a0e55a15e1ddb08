-- The proleptic Gregorian calendar from the year 0 on (ISO 8601-1, section 4.2.1), with each day's place in it.
use Rattle.std.specs.Prelude.{◌≡◌, ℕ, zero, suc, ◌+◌, ◌-◌, ◌*◌, ◌/◌, ◌%◌, ◌<◌, ◌≤◌, Bool, not, ◌&&◌, ◌||◌, ◌==◌, if◌then◌else◌, List, [], ◌∷◌, slice_index, refl}
use Rattle.std.specs.Int.{IsInRange}

-- every fourth year is a leap year, but of the centuries only every fourth
abbrev pub is_leap_year : ℕ → Bool
is_leap_year year = (year % 4 == 0) && (not (year % 100 == 0) || (year % 400 == 0))

-- thirty days have September, April, June and November
abbrev pub days_in_month : ℕ → ℕ → ℕ
days_in_month year month =
    if month == 2 then (if is_leap_year year then 29 else 28)
    else (if (month == 4) || (month == 6) || (month == 9) || (month == 11) then 30 else 31)

-- A time's date is one of the calendar, in the years 0 to 9999 (X.680, section 46). Test: `no_times` of `leaves.rt`.
abbrev pub IsCalendarDate : ℕ → ℕ → ℕ → Type 0
IsCalendarDate year month day =
    (year ≤ 9999) × IsInRange 1 12 month × IsInRange 1 (days_in_month year month) day

-- A clock without leap seconds shows the time: it has no hour 24 and no second 60 (X.690, section 11.7). Test: `as time hour 24!`,
-- `as time second 60!`.
abbrev pub IsTimeOfDay : ℕ → ℕ → ℕ → Type 0
IsTimeOfDay hour minute second = (hour < 24) × (minute < 60) × (second < 60)

-- how many of the years before this one are multiples of n, the year 0 among them
abbrev pub multiples_before : ℕ → ℕ → ℕ
multiples_before n year = (year + n - 1) / n

-- the days before 1 January of the year: 365 for each year, and one more for each leap year
abbrev pub days_before_year : ℕ → ℕ
days_before_year year =
    365 * year + multiples_before 4 year - multiples_before 100 year + multiples_before 400 year

-- the days of the first n months of the year
unfoldable pub days_of_months : ℕ → ℕ → ℕ
days_of_months year zero = 0
days_of_months year (suc n) = days_of_months year n + days_in_month year (suc n)

-- how many days lie between 0000-01-01 and the date
unfoldable pub day_number : ℕ → ℕ → ℕ → ℕ
day_number year month day = days_before_year year + days_of_months year (month - 1) + (day - 1)

pub day_number-0000-01-01 : day_number 0 1 1 ≡ 0
unfolding day_number days_of_months
day_number-0000-01-01 = refl

-- the year 0 is a leap year
pub day_number-0001-01-01 : day_number 1 1 1 ≡ 366
unfolding day_number days_of_months
day_number-0001-01-01 = refl

pub day_number-1970-01-01 : day_number 1970 1 1 ≡ 719528
unfolding day_number days_of_months
day_number-1970-01-01 = refl

pub day_number-9999-12-31 : day_number 9999 12 31 ≡ 3652424
unfolding day_number days_of_months
day_number-9999-12-31 = refl

-- a number below 100 as two decimal digits
abbrev pub two_digits : ℕ → List ℕ
two_digits n = (48 + n / 10) ∷ (48 + n % 10) ∷ []

-- a text has these two digits from place i on
abbrev pub HasDigits : List ℕ → ℕ → ℕ → Type 0
HasDigits text i n =
    (slice_index text i ≡ 48 + n / 10) × (slice_index text (i + 1) ≡ 48 + n % 10)
