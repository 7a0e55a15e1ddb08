-- The seconds of a time, and how it is read.
use Rattle.std.proofs.Common.{◌≡◌, ◌≢◌, ◌↔◌, ℕ, ◌+◌, ◌*◌, ◌/◌, ◌%◌, ◌<◌, ◌≤◌, ltb, refl, List, [], ◌∷◌, ◌++◌, length, get_or, Option, Result, Ok, Err, IsOk, IfOk, MatchOption, sym, ap, arith}
use Rattle.std.specs.Result.{result_ok}
use Rattle.std.proofs.lemmas.Bool.{false≢true, and_from, lt-ltb}
use Rattle.std.proofs.lemmas.Slice.Eq.{text_from_reads}
use Rattle.asn1_leaves.specs.declared.date.GeneralizedTime.{GeneralizedTime}
use Rattle.asn1_leaves.specs.Calendar.{IsCalendarDate, IsTimeOfDay, days_in_month, day_number, two_digits, HasDigits}
use Rattle.asn1_leaves.specs.CharSets.{is_general_string, IsGeneralString}
use Rattle.asn1_leaves.specs.GeneralizedTime.{HasParts, time_text, shown_time, seconds_of}
use Rattle.asn1_leaves.specs.TimeLaws.{same_time}
use Rattle.asn1_leaves.proofs.CalendarLemmas.{day_number-injective}

-- no two times have one number of seconds
pub seconds_of-injective : (t u : GeneralizedTime) → seconds_of t ≡ seconds_of u → t ≡ u
seconds_of-injective t u e =
    let number : day_number t.year t.month t.day ≡ day_number u.year u.month u.day = omega (arith, t.on_clock, u.on_clock) in
    let date = day_number-injective t.year t.month t.day u.year u.month u.day t.on_calendar u.on_calendar number in
    let hour : t.hour ≡ u.hour = omega (arith, t.on_clock, u.on_clock) in
    let minute : t.minute ≡ u.minute = omega (arith, t.on_clock, u.on_clock) in
    let second : t.second ≡ u.second = omega (arith, t.on_clock, u.on_clock) in
    same_time t u (date.0, date.1, date.2, hour, minute, second)

-- the text has the digits of these numbers
pub record HasNumbers (text : List ℕ) (century year month day hour minute second : ℕ) : Type 0 where
  pub len : length text ≡ 15
  pub last : get_or text 14 0 ≡ 90
  pub century_in : (century < 100) × HasDigits text 0 century
  pub year_in : (year < 100) × HasDigits text 2 year
  pub month_in : (month < 100) × HasDigits text 4 month
  pub day_in : (day < 100) × HasDigits text 6 day
  pub hour_in : (hour < 100) × HasDigits text 8 hour
  pub minute_in : (minute < 100) × HasDigits text 10 minute
  pub second_in : (second < 100) × HasDigits text 12 second

-- the time with these numbers has this text
time_text-numbers : (text : List ℕ) (century year month day hour minute second : ℕ) → HasNumbers text century year month day hour minute second → (t : GeneralizedTime) → HasParts (century * 100 + year) month day hour minute second t → time_text t ≡ text
time_text-numbers text century year month day hour minute second n t p =
    let a0 : get_or text 0 0 ≡ 48 + t.year / 100 / 10 = omega (arith, n.century_in, n.year_in, p.0) in
    let a1 : get_or text 1 0 ≡ 48 + t.year / 100 % 10 = omega (arith, n.century_in, n.year_in, p.0) in
    let a2 : get_or text 2 0 ≡ 48 + t.year % 100 / 10 = omega (arith, n.century_in, n.year_in, p.0) in
    let a3 : get_or text 3 0 ≡ 48 + t.year % 100 % 10 = omega (arith, n.century_in, n.year_in, p.0) in
    let month : HasDigits text 4 t.month = rw p.1 n.month_in.1 in
    let day : HasDigits text 6 t.day = rw p.2 n.day_in.1 in
    let hour : HasDigits text 8 t.hour = rw p.3 n.hour_in.1 in
    let minute : HasDigits text 10 t.minute = rw p.4 n.minute_in.1 in
    let second : HasDigits text 12 t.second = rw p.5 n.second_in.1 in
    sym (text_from_reads text (time_text t) n.len (a0, (a1, (a2, (a3, (month.0, (month.1, (day.0, (day.1, (hour.0, (hour.1, (minute.0, (minute.1, (second.0, (second.1, (n.last, tt))))))))))))))))

-- and a time with this text has these numbers
numbers-time_text : (text : List ℕ) (century year month day hour minute second : ℕ) → HasNumbers text century year month day hour minute second → (t : GeneralizedTime) → time_text t ≡ text → HasParts (century * 100 + year) month day hour minute second t
numbers-time_text text century year month day hour minute second n t e =
    let at : (k : ℕ) → get_or (time_text t) k 0 ≡ get_or text k 0 = λ k. ap (λ xs. get_or xs k 0) e in
    (omega (arith, at 0, at 1, at 2, at 3, n.century_in, n.year_in), omega (arith, at 4, at 5, n.month_in), omega (arith, at 6, at 7, n.day_in), omega (arith, at 8, at 9, n.hour_in), omega (arith, at 10, at 11, n.minute_in), omega (arith, at 12, at 13, n.second_in))

-- what reading such a text gives
pub read_time : {E : Type 0} (text : List ℕ) (century year month day hour minute second : ℕ) (made : Result GeneralizedTime E) (read : Option GeneralizedTime) → HasNumbers text century year month day hour minute second → (IsOk made ↔ (IsCalendarDate (century * 100 + year) month day × IsTimeOfDay hour minute second)) → IfOk made (HasParts (century * 100 + year) month day hour minute second) → read ≡ result_ok made → MatchOption read ((t : GeneralizedTime) → time_text t ≢ text) (λ t. time_text t ≡ text)
read_time text century year month day hour minute second (Ok t) read n valid parts e =
    rw e (time_text-numbers text century year month day hour minute second n t parts)
read_time text century year month day hour minute second (Err fault) read n valid parts e =
    rw e (λ t same.
    let p = numbers-time_text text century year month day hour minute second n t same in
    absurd (false≢true (valid.1 (rw (← p.0, ← p.1, ← p.2, ← p.3, ← p.4, ← p.5) (t.on_calendar, t.on_clock)))))

-- each character that is shown is below 128
below_128 : (character : ℕ) (rest : List ℕ) → character < 128 → IsGeneralString rest → IsGeneralString (character ∷ rest)
below_128 character rest low h = and_from (ltb character 128) (is_general_string rest) (lt-ltb character 128 low) h

digits_below_128 : (n : ℕ) (rest : List ℕ) → n < 100 → IsGeneralString rest → IsGeneralString (two_digits n ++ rest)
digits_below_128 n rest small h =
    below_128 (48 + n / 10) ((48 + n % 10) ∷ rest) (omega arith) (below_128 (48 + n % 10) rest (omega arith) h)

pub IsGeneralString-shown_time : (t : GeneralizedTime) → IsGeneralString (shown_time t)
IsGeneralString-shown_time t =
    let most : days_in_month t.year t.month ≤ 31 = grind arith in
    let second = two_digits t.second ++ 90 ∷ [] in
    let minute = two_digits t.minute ++ 58 ∷ second in
    let hour = two_digits t.hour ++ 58 ∷ minute in
    let day = two_digits t.day ++ 32 ∷ hour in
    let month = two_digits t.month ++ 45 ∷ day in
    let year = two_digits (t.year % 100) ++ 45 ∷ month in
    let is_second = digits_below_128 t.second (90 ∷ []) (omega (arith, t.on_clock)) refl in
    let is_minute = digits_below_128 t.minute (58 ∷ second) (omega (arith, t.on_clock)) (below_128 58 second (omega arith) is_second) in
    let is_hour = digits_below_128 t.hour (58 ∷ minute) (omega (arith, t.on_clock)) (below_128 58 minute (omega arith) is_minute) in
    let is_day = digits_below_128 t.day (32 ∷ hour) (omega (arith, most, t.on_calendar)) (below_128 32 hour (omega arith) is_hour) in
    let is_month = digits_below_128 t.month (45 ∷ day) (omega (arith, t.on_calendar)) (below_128 45 day (omega arith) is_day) in
    let is_year = digits_below_128 (t.year % 100) (45 ∷ month) (omega arith) (below_128 45 month (omega arith) is_month) in
    digits_below_128 (t.year / 100) year (omega (arith, t.on_calendar)) is_year
