-- The second in which a moment lies, as messages state it (RFC 4120, section 5.2.3).
use Rattle.std.specs.Prelude.{◌≡◌, ◌/◌}
use Rattle.std.proofs.Common.{sym, ◌∙◌}
use Rattle.asn1_leaves.specs.declared.date.GeneralizedTime.{GeneralizedTime}
use Rattle.asn1_leaves.proofs.TimeLemmas.{seconds_of-injective}
use Rattle.asn1_leaves.specs.GeneralizedTime.{seconds_of}
use Rattle.krb_time.specs.Units.{Micros}

-- the time is the second in which the moment lies
abbrev pub IsSecondOf : Micros → GeneralizedTime → Type 0
IsSecondOf moment time = seconds_of time ≡ moment / 1000000

pub sole_second : (moment : Micros) (s t : GeneralizedTime) → IsSecondOf moment s → IsSecondOf moment t → s ≡ t
sole_second moment s t p q = seconds_of-injective s t (p ∙ sym q)
