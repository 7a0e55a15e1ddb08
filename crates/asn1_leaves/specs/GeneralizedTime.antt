-- GeneralizedTime of DER (X.690, section 11.7) without a fraction of a second, as Kerberos has it (RFC 4120, section 5.2.3).
use Rattle.std.specs.Prelude.{◌≡◌, ℕ, ◌+◌, ◌*◌, ◌/◌, ◌%◌, List, ◌++◌, codes, refl}
use Rattle.asn1_leaves.specs.declared.date.GeneralizedTime.{GeneralizedTime}
use Rattle.asn1_leaves.specs.Calendar.{day_number, days_of_months, two_digits}

-- A GeneralizedTime is `YYYYMMDDHHMMSSZ` (X.690, section 11.7; RFC 4120, section 5.2.3). Test: `180e323030303031303130303030305a` of
-- `odd.txt`.
-- A GeneralizedTime has no fraction of a second (RFC 4120, section 5.2.3; RFC 5280, section 4.1.2.5.2). Test:
-- `certificate, GeneralizedTime with fraction` of `read.txt`.
abbrev pub calendar_text : ℕ → ℕ → ℕ → ℕ → ℕ → ℕ → List ℕ
calendar_text year month day hour minute second =
    two_digits (year / 100) ++ two_digits (year % 100) ++ two_digits month ++ two_digits day
    ++ two_digits hour ++ two_digits minute ++ two_digits second ++ codes "Z"

-- the seconds since 0000-01-01 00:00:00
abbrev pub calendar_seconds : ℕ → ℕ → ℕ → ℕ → ℕ → ℕ → ℕ
calendar_seconds year month day hour minute second =
    day_number year month day * 86400 + hour * 3600 + minute * 60 + second

-- the time has these parts
abbrev pub HasParts : ℕ → ℕ → ℕ → ℕ → ℕ → ℕ → GeneralizedTime → Type 0
HasParts year month day hour minute second t =
    (t.year ≡ year) × (t.month ≡ month) × (t.day ≡ day)
    × (t.hour ≡ hour) × (t.minute ≡ minute) × (t.second ≡ second)

-- the 15 characters of a time
abbrev pub time_text : GeneralizedTime → List ℕ
time_text t = calendar_text t.year t.month t.day t.hour t.minute t.second

-- the text that is shown, in 20 characters: YYYY-MM-DD HH:MM:SSZ (RFC 3339, section 5.6, with a space between date and time)
abbrev pub shown_text : ℕ → ℕ → ℕ → ℕ → ℕ → ℕ → List ℕ
shown_text year month day hour minute second =
    two_digits (year / 100) ++ two_digits (year % 100) ++ codes "-" ++ two_digits month ++ codes "-" ++ two_digits day
    ++ codes " " ++ two_digits hour ++ codes ":" ++ two_digits minute ++ codes ":" ++ two_digits second ++ codes "Z"

-- the text of a time as it is shown, in 20 characters
abbrev pub shown_time : GeneralizedTime → List ℕ
shown_time t = shown_text t.year t.month t.day t.hour t.minute t.second

-- its seconds since 0000-01-01 00:00:00
abbrev pub seconds_of : GeneralizedTime → ℕ
seconds_of t = calendar_seconds t.year t.month t.day t.hour t.minute t.second

pub calendar_text-2000-01-02 : calendar_text 2000 1 2 3 4 59 ≡ codes "20000102030459Z"
calendar_text-2000-01-02 = refl

pub shown_text-2000-01-02 : shown_text 2000 1 2 3 4 59 ≡ codes "2000-01-02 03:04:59Z"
shown_text-2000-01-02 = refl

pub calendar_seconds-2000-01-01 : calendar_seconds 2000 1 1 0 0 0 ≡ 63113904000
unfolding day_number days_of_months
calendar_seconds-2000-01-01 = refl

pub calendar_seconds-9999-12-31 : calendar_seconds 9999 12 31 23 59 59 ≡ 315569519999
unfolding day_number days_of_months
calendar_seconds-9999-12-31 = refl
