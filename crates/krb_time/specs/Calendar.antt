-- Moments and the times of the calendar.
use Rattle.std.specs.Prelude.{◌≡◌, ◌*◌}
use Rattle.asn1_leaves.specs.declared.date.GeneralizedTime.{GeneralizedTime}
use Rattle.picky_asn1.specs.Bytes.{Bytes}
use Rattle.asn1_leaves.specs.GeneralizedTime.{time_text, seconds_of}
use Rattle.krb_time.specs.Units.{Micros}

-- the moment at which the second of this text begins
abbrev pub IsMomentOfText : Bytes → Micros → Type 0
IsMomentOfText text moment =
    (time : GeneralizedTime) × (time_text time ≡ text) × (moment ≡ seconds_of time * 1000000)
