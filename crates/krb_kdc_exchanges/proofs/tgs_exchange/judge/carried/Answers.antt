use Rattle.std.proofs.Common.{◌≡◌, Some, refl, sym, inl, inr}
use Rattle.krb_messages.specs.Padata.{first_of}
use Rattle.krb_kdc_exchanges.proofs.tgs_exchange.judge.carried.Goals as goal

pub returns-in_default-2 : goal.returns-in_default-2
returns-in_default-2 c =
    let present : first_of 1 c.args.padata.now ≡ Some c.in-Some.value.now = sym c.in-Some.ensures in
    let none = rw (c.in_default-2.is, c.as_bytes.ensures) at c.in_ok-ap_req.ensures in
    rw present (inr (none, refl))

pub returns : goal.returns
returns c =
    let present : first_of 1 c.args.padata.now ≡ Some c.in-Some.value.now = sym c.in-Some.ensures in
    let found = rw (c.in-Some-2.is, c.as_bytes.ensures) at c.in_ok-ap_req.ensures in
    rw present (inl (c.in-Some-2.ap_req, found, refl))
