use Rattle.std.proofs.Common.{subst}
use Rattle.krb_kdc.specs.Few.{IsFetched}
use Rattle.krb_kdc.proofs.Failing.{named_failed}
use Rattle.krb_kdc.proofs.Fetched.{named, on_ok}
use Rattle.krb_kdc.proofs.answer.fetch_named.Goals as goal

pub returns-in-Some-clause-few : goal.returns-in-Some-clause-few
returns-in-Some-clause-few g c = λ all known.
    on_ok c.fetch.result _ _ (λ fetched. rw c.in-Some.is
    (named all c.in-Some.name.now c.args.few.now c.fetch.new.few (subst (λ n. IsFetched all n c.args.few.now c.fetch.new.few) c.as_slice.ensures fetched))) (c.fetch.ensures.few all known)

pub returns-in-Some-clause-fault : goal.returns-in-Some-clause-fault
returns-in-Some-clause-fault g c =
    rw c.in-Some.is (named_failed (g.L.Lookup.may_fail c.args.lookup.now) c.in-Some.name.now c.as_slice.result.now c.fetch.result c.as_slice.ensures c.fetch.ensures.fault)
