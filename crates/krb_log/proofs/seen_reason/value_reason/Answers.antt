use Rattle.std.proofs.Common.{inl, refl}
use Rattle.krb_messages.specs.Messages.{IsApReq}
use Rattle.krb_log.proofs.seen_reason.value_reason.Goals as goal

pub returns : goal.returns
returns c =
    let found : IsApReq c.args.value.now c.in-Some.ap_req = rw c.in-Some.is at c.in_ok-ap_req.ensures in
    inl (c.in-Some.ap_req, found, (c.in_ok-reason.field-0, c.in_ok-reason.ensures, refl))
