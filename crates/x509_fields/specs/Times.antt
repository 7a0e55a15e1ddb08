-- A time as one of two alternatives.
use Rattle.std.specs.Prelude.{◌≡◌, refl}
use Rattle.picky_asn1_der.specs.declared.choice.Choice.{Choice}
use Rattle.picky_asn1_der.specs.declared.choice.Choice.TheVariants.{This, Other}
use Rattle.picky_asn1_der.specs.declared.choice.Last.{Last}
use Rattle.asn1_leaves.specs.declared.date.GeneralizedTime.{GeneralizedTime}
use Rattle.picky_asn1.specs.declared.wrapper.UTCTimeAsn1.{UTCTimeAsn1}
use Rattle.picky_asn1.specs.declared.wrapper.GeneralizedTimeAsn1.{GeneralizedTimeAsn1}
use Rattle.x509_fields.specs.declared.time.Time.{Time}
use Rattle.x509_fields.specs.declared.time.Time.TheVariants.{Utc, Generalized}

-- the time that either alternative holds
abbrev pub moment : Time → GeneralizedTime
moment (Utc time) = time.0.time
moment (Generalized time) = time.0

abbrev pub time_choice : Time → Choice UTCTimeAsn1 (Last GeneralizedTimeAsn1)
time_choice (Utc time) = This time
time_choice (Generalized time) = Other (record { 0 = time })

abbrev pub time_made : Choice UTCTimeAsn1 (Last GeneralizedTimeAsn1) → Time
time_made (This time) = Utc time
time_made (Other last) = Generalized last.0

pub time_back : (v : Time) → time_made (time_choice v) ≡ v
time_back (Utc time) = refl
time_back (Generalized time) = refl
