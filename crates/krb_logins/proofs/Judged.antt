-- What the judge of honest logins makes of its tests.
use Rattle.std.proofs.Common.{◌≡◌, Bool, Result, Ok, Err, subst}
use Rattle.std.specs.Prelude.{◌↔◌, IfOk, IsTrue}
use Rattle.krb_time.specs.Units.{Micros, Seconds}
use Rattle.krb_logins.specs.Honest.{IsTicketInTime}

-- a ticket that is judged by other words for its start, its end, the skew and the moment
pub in_time_as : (result : Bool) (start end : Seconds) (skew moment : Micros) (own_start own_end : Seconds) (own_skew own_moment : Micros)
    → own_start ≡ start → own_end ≡ end → own_skew ≡ skew → own_moment ≡ moment
    → (IsTrue result ↔ IsTicketInTime own_start own_end own_skew own_moment) → IsTrue result ↔ IsTicketInTime start end skew moment
in_time_as result start end skew moment own_start own_end own_skew own_moment starts ends skews moments is =
    subst (λ (m : Micros). IsTrue result ↔ IsTicketInTime start end skew m) moments
    (subst (λ (s : Micros). IsTrue result ↔ IsTicketInTime start end s own_moment) skews
    (subst (λ (e : Seconds). IsTrue result ↔ IsTicketInTime start e own_skew own_moment) ends
    (subst (λ (s : Seconds). IsTrue result ↔ IsTicketInTime s own_end own_skew own_moment) starts is)))

-- a test that may run out of memory, of what holds if and only if another thing does
pub judged_last : {E : Type 0} (P H : Type 0) (r : Result Bool E) → (P → H) → (H → P) → IfOk r (λ is. IsTrue is ↔ P) → IfOk r (λ is. IsTrue is ↔ H)
judged_last P H (Ok is) to back x = ((λ true. to (x.0 true)), λ holds. x.1 (back holds))
judged_last P H (Err refusal) to back x = tt
