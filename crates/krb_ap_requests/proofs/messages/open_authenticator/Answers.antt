use Rattle.std.proofs.Common.{SFits, refl, w32}
use Rattle.std.proofs.lemmas.Int.{to_z-of_z}
use Rattle.krb_ap_requests.proofs.Tagged.{same_sealed}
use Rattle.krb_ap_requests.proofs.messages.open_authenticator.Goals as goal

pub returns-in-Some : goal.returns-in-Some
returns-in-Some c =
    let fits : SFits w32 c.args.usage = c.ranges.usage in
    same_sealed _ _ _ _ _ _ _ _ refl (rw c.in-Some.is at (simp to_z-of_z at c.in_ok-found.ensures))

pub returns-in-None : goal.returns-in-None
returns-in-None c =
    let fits : SFits w32 c.args.usage = c.ranges.usage in
    let none = rw c.in-None.is at (simp to_z-of_z at c.in_ok-found.ensures) in
    λ a p. none (record { 0 = a }) (same_sealed _ _ _ _ _ _ _ _ refl p)
