use Rattle.std.proofs.Common.{refl}
use Rattle.krb_ap_requests.proofs.Tagged.{same_sealed}
use Rattle.gss_acceptor.proofs.delegation.open_cred_part.Goals as goal

pub returns-in-Some : goal.returns-in-Some
returns-in-Some c = same_sealed _ _ _ _ _ _ _ _ refl (rw c.in-Some.is at c.in_ok-found.ensures)

pub returns-in-None : goal.returns-in-None
returns-in-None c =
    let none = rw c.in-None.is at c.in_ok-found.ensures in
    λ a p. none (record { 0 = a }) (same_sealed _ _ _ _ _ _ _ _ refl p)
