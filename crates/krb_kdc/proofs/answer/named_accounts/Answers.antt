use Rattle.krb_kdc.specs.Failing.{FailsAs}
use Rattle.krb_kdc.proofs.Failing.{as_service_failed, client_failed}
use Rattle.krb_kdc.proofs.Fetched.{two_named}
use Rattle.krb_kdc.proofs.Refused.{failed}
use Rattle.krb_kdc.proofs.answer.named_accounts.Goals as goal

pub returns-clause-few : goal.returns-clause-few
returns-clause-few g c = λ all known.
    two_named all _ _ _ _ _ _ _ c.new-few.ensures c.named_in-named.ensures.client c.named_in-named.ensures.service (c.in_ok-fetch_named.ensures.few all known) (c.in_ok-fetch_named-2.ensures.few all known)

pub returns-in_err-fetch_named-clause-fault : goal.returns-in_err-fetch_named-clause-fault
returns-in_err-fetch_named-clause-fault g c =
    failed (FailsAs (g.L.Lookup.may_fail c.args.lookup.now) c.args.request.now) _ c.from_residual.result c.from_residual.ensures.1
    (client_failed (g.L.Lookup.may_fail c.args.lookup.now) c.args.request.now _ _ c.named_in-named.ensures.client c.in_err-fetch_named.ensures.fault)

pub returns-in_err-fetch_named-2-clause-fault : goal.returns-in_err-fetch_named-2-clause-fault
returns-in_err-fetch_named-2-clause-fault g c =
    failed (FailsAs (g.L.Lookup.may_fail c.args.lookup.now) c.args.request.now) _ c.from_residual-in_err-fetch_named-2.result c.from_residual-in_err-fetch_named-2.ensures.1
    (as_service_failed (g.L.Lookup.may_fail c.args.lookup.now) c.args.request.now _ _ c.named_in-named.ensures.service c.in_err-fetch_named-2.ensures.fault)
