use Rattle.std.proofs.Common.{Ok, inl}
use Rattle.krb_messages.specs.Messages.{IsAsReq}
use Rattle.pkinit_clients.proofs.agility.means.found_key.Goals as goal

pub returns : goal.returns
returns c =
    let found : IsAsReq c.args.as_req.now c.in-Some.request = rw c.in-Some.is at c.in_ok-request.ensures in
    inl (c.in-Some.request, found, (λ i. Ok (c.in_ok-key.ensures i)))
