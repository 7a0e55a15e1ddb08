-- UTCTime of DER (X.690, section 11.8), with seconds and in UTC.
use Rattle.std.specs.Prelude.{◌≡◌, ℕ, List, drop, codes, refl}
use Rattle.asn1_leaves.specs.declared.utc_time.UTCTime.{UTCTime}
use Rattle.asn1_leaves.specs.GeneralizedTime.{HasParts, time_text, calendar_text}

-- the time has these parts
abbrev pub HasUtcParts : ℕ → ℕ → ℕ → ℕ → ℕ → ℕ → UTCTime → Type 0
HasUtcParts year month day hour minute second t = HasParts year month day hour minute second t.time

-- YYMMDDHHMMSSZ: the text of a GeneralizedTime without the century
abbrev pub utc_text : UTCTime → List ℕ
utc_text t = drop 2 (time_text t.time)

pub utc_text-2049-12-31 : drop 2 (calendar_text 2049 12 31 23 59 59) ≡ codes "491231235959Z"
utc_text-2049-12-31 = refl

pub utc_text-1950-01-01 : drop 2 (calendar_text 1950 1 1 0 0 0) ≡ codes "500101000000Z"
utc_text-1950-01-01 = refl
