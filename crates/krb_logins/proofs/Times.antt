-- Arithmetic of moments and of a ticket's times.
use Rattle.std.proofs.Common.{◌≡◌, ◌<◌, ◌≤◌, ℕ, ◌+◌, ◌*◌, ◌/◌, ◌%◌, Bool, false, min, Option, None, Some, sym, ap, subst, arith}
use Rattle.std.proofs.lemmas.Bool.{lt-leb, lt-ltb}
use Rattle.std.specs.Prelude.{if◌then◌else◌, pos}
use Rattle.asn1_leaves.specs.GeneralizedTime.{seconds_of}
use Rattle.krb_time.specs.Moment.{IsMoment}
use Rattle.krb_time.specs.Times.{moment_at}
use Rattle.krb_time.specs.Units.{Micros, Seconds}
use Rattle.krb_kdc_exchanges.specs.Times.{asked_end, end_of, last_second, old_end, start_of}
use Rattle.krb_kdc_exchanges.specs.Requests.{is_ended}
use Rattle.krb_kdc_exchanges.specs.declared.span.Span.{Span}

-- a moment is distinguished by its second and its microseconds
told : (moment second micros : ℕ) → second * 1000000 + micros ≡ moment → micros < 1000000 → moment_at second (pos micros) ≡ Some moment
told moment second micros e below =
    subst (λ (b : Bool). (if b then Some (second * 1000000 + micros) else None) ≡ Some moment) (sym (lt-ltb micros 1000000 below)) (ap Some e)

pub moment_told : (moment : Micros) (second : Seconds) → second ≡ moment / 1000000 → moment_at second (pos (moment % 1000000)) ≡ Some moment
moment_told moment second e = told moment second (moment % 1000000) (omega (arith, e)) (omega arith)

-- a ticket that ends after its start isn't ended
pub lasts : (start end : Seconds) (span : Span) → seconds_of span.starttime ≡ start → seconds_of span.endtime ≡ end → start < end → is_ended span ≡ false
lasts start end span starts ends before = lt-leb (seconds_of span.endtime) (seconds_of span.starttime) (omega (arith, starts, ends, before))

-- what is less than the least of four is less than the last of them
below_last : (second a b c d : Seconds) → second < min a (min b (min c d)) → second < d
below_last second a b c d before = omega (arith, before)

-- the moment of such a grant is one that KerberosTime has
pub granted_in_time : (lifetime : Seconds) (moment : Micros) (old : Option Seconds) (till : Seconds) → start_of moment < end_of lifetime (start_of moment) old till → IsMoment moment
granted_in_time lifetime moment old till before =
    let second : moment / 1000000 < last_second = below_last (start_of moment) (asked_end till) (start_of moment + lifetime) (old_end old) last_second before in
    omega (arith, second)

-- what is less than two numbers is less than the lesser of them
least_of : (a b c : ℕ) → c < a → c < b → c < min a b
least_of a b c p q = omega (arith, p, q)

-- a second that lies before each of the bounds of a ticket's end lies before that end
pub before_end : (second lifetime start : Seconds) (old : Option Seconds) (till : Seconds) → second < asked_end till → second < start + lifetime → second < old_end old → asked_end till ≤ last_second
    → second < end_of lifetime start old till
before_end second lifetime start old till asked long before last =
    least_of (asked_end till) (min (start + lifetime) (min (old_end old) last_second)) second asked
    (least_of (start + lifetime) (min (old_end old) last_second) second long
    (least_of (old_end old) last_second second before (omega (arith, asked, last))))
