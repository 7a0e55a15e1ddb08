use Rattle.std.proofs.Common.{inl, refl}
use Rattle.krb_ap_requests.proofs.judge.open_ticket.Goals as goal

pub returns : goal.returns
returns c =
    let found = rw c.in-Some.is at c.in_ok-part.ensures in inl (c.in-Some.part, found, refl)
