-- Values of a type with one default are distinguished by what is written of them.
use Rattle.std.proofs.Common.{◌≡◌, Bool, true, false, refl, ap}
use Rattle.asn1_der.specs.Seen.{Seen, as_is, by, Alike, seen_option, seen_part}
use Rattle.picky_asn1_der.specs.Defaults.{unless, told_value}

told_cases : {A : Type 0} (b c : Bool) (v w : A) → (b ≡ true → c ≡ true → v ≡ w) → unless b v ≡ unless c w → v ≡ w
told_cases true true v w one e = one refl refl
told_cases true false v w one e = absurd (cc (e))
told_cases false true v w one e = absurd (cc (e))
told_cases false false v w one e = cc (e)

pub told-one : {A : Type 0} (is_default : A → Bool) → ((v w : A) → is_default v ≡ true → is_default w ≡ true → v ≡ w)
    → (v w : A) → told_value is_default v ≡ told_value is_default w → v ≡ w
told-one is_default one v w e = told_cases (is_default v) (is_default w) v w (one v w) e

-- Values that are alike are written alike.
told_cases_as : {A : Type 0} (seen : Seen A) (b c : Bool) (v w : A) → (b ≡ true → c ≡ true → v ≡ w) → Alike (seen_option seen) (unless b v) (unless c w) → Alike seen v w
told_cases_as as_is b c v w one e = told_cases b c v w one e
told_cases_as (by V f) true true v w one e = ap f (one refl refl)
told_cases_as (by V f) true false v w one e = absurd (cc (e))
told_cases_as (by V f) false true v w one e = absurd (cc (e))
told_cases_as (by V f) false false v w one e = cc (e)

pub told-alike : {A : Type 0} (seen : Seen A) (is_default : A → Bool) → ((v w : A) → is_default v ≡ true → is_default w ≡ true → v ≡ w)
    → (v w : A) → Alike (seen_option seen) (told_value is_default v) (told_value is_default w) → Alike seen v w
told-alike seen is_default one v w e = told_cases_as seen (is_default v) (is_default w) v w (one v w) e

pub part-alike : {A B : Type 0} (seen : Seen A) (v w : B) (part : B → A) → Alike (seen_part part seen) v w → Alike seen (part v) (part w)
part-alike as_is v w part e = ap part e
part-alike (by V f) v w part e = e
