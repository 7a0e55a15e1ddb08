use Rattle.std.proofs.Common.{◌⊎◌}
use Rattle.krb_realm_accounts.specs.Accounts.{look_in}
use Rattle.krb_kdc_exchanges.specs.Call.{call_of}
use Rattle.krb_kdc.specs.Failing.{FailsAs}
use Rattle.krb_kdc.specs.Sources.{IsByCertificate}
use Rattle.krb_kdc.proofs.Answered.{as_by_few, as_replied}
use Rattle.krb_kdc.proofs.Refused.{failed, of_first, of_second}
use Rattle.krb_kdc.proofs.Told.{told}
use Rattle.krb_kdc.proofs.answer.as_answer.Goals as goal

pub returns-clause-answer : goal.returns-clause-answer
returns-clause-answer g c = λ all known.
    let few = c.in_ok-few.ensures.few all known in (
      c.in_ok-pkinit.pkinit,
      c.in_ok-pkinit.ensures,
      as_replied c.args.call.now all _ (g.S.Given.Pkinit.rows c.in_ok-pkinit.pkinit) (call_of c.with.result) c.with.ensures.call c.in_ok-reply.reply.bytes.items c.args.request.now few.0 few.1 c.in_ok-reply.ensures.reply,
    )

pub returns-in_err-pkinit-clause-fault : goal.returns-in_err-pkinit-clause-fault
returns-in_err-pkinit-clause-fault g c =
    failed (λ own. FailsAs (g.L.Lookup.may_fail c.args.lookup.now) c.args.request.now own ⊎ (IsByCertificate c.args.request.now × g.S.PkinitSource.may_fail c.args.source.now own)) _
    c.from_residual.result c.from_residual.ensures.1
    (of_second (FailsAs (g.L.Lookup.may_fail c.args.lookup.now) c.args.request.now)
    (λ own. IsByCertificate c.args.request.now × g.S.PkinitSource.may_fail c.args.source.now own) _ c.in_err-pkinit.ensures)

pub returns-in_err-few-clause-fault : goal.returns-in_err-few-clause-fault
returns-in_err-few-clause-fault g c =
    failed (λ own. FailsAs (g.L.Lookup.may_fail c.args.lookup.now) c.args.request.now own ⊎ (IsByCertificate c.args.request.now × g.S.PkinitSource.may_fail c.args.source.now own)) _
    c.from_residual-in_err-few.result c.from_residual-in_err-few.ensures.1
    (of_first (FailsAs (g.L.Lookup.may_fail c.args.lookup.now) c.args.request.now)
    (λ own. IsByCertificate c.args.request.now × g.S.PkinitSource.may_fail c.args.source.now own) _ c.in_err-few.ensures.fault)

pub returns-clause-told : goal.returns-clause-told
returns-clause-told g c = λ message read.
    told g.O.Observer.sees (g.L.Lookup.holds c.args.lookup.now) c.args.call.now.realm.now message c.in_ok-reply.reply.bytes.items _ _ _ c.see_as.ensures
    (record { request = read; outcome = c.in_ok-reply.ensures.outcome }) (λ all known. (c.in_ok-few.ensures.few all known).0)

pub returns-clause-some : goal.returns-clause-some
returns-clause-some g c = (
  look_in c.in_ok-few.few,
  (
    c.in_ok-pkinit.pkinit,
    c.in_ok-pkinit.ensures,
    as_by_few c.args.call.now c.in_ok-few.few (call_of c.with.result) c.with.ensures.call c.args.request.now c.in_ok-reply.reply.bytes.items (g.S.Given.Pkinit.rows c.in_ok-pkinit.pkinit)
        c.in_ok-reply.ensures.reply,
  ),
)
