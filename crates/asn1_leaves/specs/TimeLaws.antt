-- A time has one text, and one number of seconds.
use Rattle.std.proofs.Common.{◌≡◌, ℕ, get_or, ap, arith}
use Rattle.std.proofs.Props.{props}
use mathlib.Core.HLevel.{is_prop→PathP}
use Rattle.asn1_leaves.specs.declared.date.GeneralizedTime.{GeneralizedTime}
use Rattle.asn1_leaves.specs.declared.utc_time.UTCTime.{UTCTime}
use Rattle.asn1_leaves.specs.UtcYears.{IsUtcYear}
use Rattle.asn1_leaves.specs.UtcTime.{utc_text}
use Rattle.asn1_leaves.specs.Calendar.{IsCalendarDate, IsTimeOfDay}
use Rattle.asn1_leaves.specs.GeneralizedTime.{HasParts, time_text}

-- times with the same parts are the same
pub same_time : (t u : GeneralizedTime) → HasParts u.year u.month u.day u.hour u.minute u.second t → t ≡ u
same_time t u p =
    λ i. record {
      year = p.0 i;
      month = p.1 i;
      day = p.2 i;
      hour = p.3 i;
      minute = p.4 i;
      second = p.5 i;
      on_calendar = is_prop→PathP (λ j. IsCalendarDate (p.0 j) (p.1 j) (p.2 j)) (λ j. hlevel props) t.on_calendar u.on_calendar i;
      on_clock = is_prop→PathP (λ j. IsTimeOfDay (p.3 j) (p.4 j) (p.5 j)) (λ j. hlevel props) t.on_clock u.on_clock i;
    }

-- no two times have one text
pub time_text-injective : (t u : GeneralizedTime) → time_text t ≡ time_text u → t ≡ u
time_text-injective t u e =
    let at : (k : ℕ) → get_or (time_text t) k 0 ≡ get_or (time_text u) k 0 = λ k. ap (λ text. get_or text k 0) e in
    same_time t u
    (omega (arith, at 0, at 1, at 2, at 3), omega (arith, at 4, at 5), omega (arith, at 6, at 7), omega (arith, at 8, at 9), omega (arith, at 10, at 11), omega (arith, at 12, at 13))

-- times of the years of UTCTime with one text are the same
pub utc_text-injective : (t u : UTCTime) → utc_text t ≡ utc_text u → t ≡ u
utc_text-injective t u e =
    let at : (k : ℕ) → get_or (utc_text t) k 0 ≡ get_or (utc_text u) k 0 = λ k. ap (λ text. get_or text k 0) e in
    let time = same_time t.time u.time
    (omega (arith, at 0, at 1, t.in_years, u.in_years), omega (arith, at 2, at 3), omega (arith, at 4, at 5), omega (arith, at 6, at 7), omega (arith, at 8, at 9), omega (arith, at 10, at 11)) in
    λ i. record {
      time = time i;
      in_years = is_prop→PathP (λ j. IsUtcYear (time j).year) (λ j. hlevel props) t.in_years u.in_years i;
    }
