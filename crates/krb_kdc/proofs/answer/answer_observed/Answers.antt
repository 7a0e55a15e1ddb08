use Rattle.std.proofs.Common.{◌⊎◌, sym, ◌∙◌}
use Rattle.krb_kdc.specs.Calls.{call_with}
use Rattle.krb_kdc.specs.Failing.{FailsFor}
use Rattle.krb_kdc.specs.Sources.{AsksByCertificate, RepliesBy}
use Rattle.krb_kdc.proofs.Answered.{by_given, by_tgs, unread}
use Rattle.krb_kdc.proofs.Failing.{as_failed, tgs_failed}
use Rattle.krb_kdc.proofs.Refused.{no_answer, refused}
use Rattle.krb_kdc.proofs.answer.answer_observed.Goals as goal

pub returns-then-not-begins_request-clause-answer : goal.returns-then-not-begins_request-clause-answer
returns-then-not-begins_request-clause-answer g c = λ all known.
    let none = c.begins_request.ensures.none c.if-not-begins_request.true in
    unread g.S.Given.Pkinit.rows (g.S.PkinitSource.gives c.args.source.now) (call_with c.args.call.now all) c.args.message.now none.0 none.1

pub returns-then-not-begins_request-clause-refusal : goal.returns-then-not-begins_request-clause-refusal
returns-then-not-begins_request-clause-refusal g c = c.begins_request.ensures.none c.if-not-begins_request.true

pub returns-in-Some-clause-answer : goal.returns-in-Some-clause-answer
returns-in-Some-clause-answer g c = λ all known.
    by_given g.S.Given.Pkinit.rows (g.S.PkinitSource.gives c.args.source.now) (call_with c.args.call.now all) c.args.message.now c.in-Some.request c.in_ok-reply.reply.items
    (rw c.in-Some.is at c.in_ok-request.ensures) (c.in_ok-reply.ensures.answer all known)

pub returns-in-Some-2-clause-answer : goal.returns-in-Some-2-clause-answer
returns-in-Some-2-clause-answer g c = λ all known.
    by_tgs g.S.Given.Pkinit.rows (g.S.PkinitSource.gives c.args.source.now) (call_with c.args.call.now all) c.args.message.now c.in-Some-2.request c.in_ok-reply-2.reply.items
    (rw c.in_default.is at c.in_ok-request.ensures) (rw c.in-Some-2.is at c.in_ok-request-2.ensures) (c.in_ok-reply-2.ensures.answer all known)

pub returns-clause-answer : goal.returns-clause-answer
returns-clause-answer g c = λ all known.
    unread g.S.Given.Pkinit.rows (g.S.PkinitSource.gives c.args.source.now) (call_with c.args.call.now all) c.args.message.now (rw c.in_default.is at c.in_ok-request.ensures)
    (rw c.in_default-2.is at c.in_ok-request-2.ensures)

pub returns-clause-refusal : goal.returns-clause-refusal
returns-clause-refusal g c = (rw c.in_default.is at c.in_ok-request.ensures, rw c.in_default-2.is at c.in_ok-request-2.ensures)

pub returns-in_err-reply-clause-answer : goal.returns-in_err-reply-clause-answer
returns-in_err-reply-clause-answer g c = λ all known. no_answer (RepliesBy g.S.Given.Pkinit.rows (g.S.PkinitSource.gives c.args.source.now) (call_with c.args.call.now all) c.args.message.now) _ c.from_residual-in_err-reply.result c.from_residual-in_err-reply.ensures.1

pub returns-in_err-reply-clause-refusal : goal.returns-in_err-reply-clause-refusal
returns-in_err-reply-clause-refusal g c =
    refused (λ own. FailsFor (g.L.Lookup.holds c.args.lookup.now) (g.L.Lookup.may_fail c.args.lookup.now) c.args.call.now.realm.now c.args.message.now own
    ⊎ (AsksByCertificate c.args.message.now × g.S.PkinitSource.may_fail c.args.source.now own)) c.args.message.now _ c.from_residual-in_err-reply.result c.from_residual-in_err-reply.ensures.1
    (sym c.begins_request.ensures.begins ∙ c.if-not-begins_request.false)
    (as_failed (g.L.Lookup.holds c.args.lookup.now) (g.L.Lookup.may_fail c.args.lookup.now) (g.S.PkinitSource.may_fail c.args.source.now) c.args.call.now c.args.message.now c.in-Some.request _
    (rw c.in-Some.is at c.in_ok-request.ensures) c.in_err-reply.ensures.fault)

pub returns-in_err-reply-2-clause-answer : goal.returns-in_err-reply-2-clause-answer
returns-in_err-reply-2-clause-answer g c = λ all known. no_answer (RepliesBy g.S.Given.Pkinit.rows (g.S.PkinitSource.gives c.args.source.now) (call_with c.args.call.now all) c.args.message.now) _ c.from_residual-in_err-reply-2.result c.from_residual-in_err-reply-2.ensures.1

pub returns-in_err-reply-2-clause-refusal : goal.returns-in_err-reply-2-clause-refusal
returns-in_err-reply-2-clause-refusal g c =
    refused (λ own. FailsFor (g.L.Lookup.holds c.args.lookup.now) (g.L.Lookup.may_fail c.args.lookup.now) c.args.call.now.realm.now c.args.message.now own
    ⊎ (AsksByCertificate c.args.message.now × g.S.PkinitSource.may_fail c.args.source.now own)) c.args.message.now _ c.from_residual-in_err-reply-2.result c.from_residual-in_err-reply-2.ensures.1
    (sym c.begins_request.ensures.begins ∙ c.if-not-begins_request.false)
    (tgs_failed (g.L.Lookup.holds c.args.lookup.now) (g.L.Lookup.may_fail c.args.lookup.now) (g.S.PkinitSource.may_fail c.args.source.now) c.args.call.now c.args.message.now c.in-Some-2.request _
    (rw c.in-Some-2.is at c.in_ok-request-2.ensures) c.in_err-reply-2.ensures.fault)

pub returns-in-Some-clause-told : goal.returns-in-Some-clause-told
returns-in-Some-clause-told g c = c.in_ok-reply.ensures.told c.args.message.now (rw c.in-Some.is at c.in_ok-request.ensures)

pub returns-in-Some-2-clause-told : goal.returns-in-Some-2-clause-told
returns-in-Some-2-clause-told g c = c.in_ok-reply-2.ensures.told c.args.message.now (rw c.in-Some-2.is at c.in_ok-request-2.ensures)

pub returns-in-Some-clause-some : goal.returns-in-Some-clause-some
returns-in-Some-clause-some g c =
    let some = c.in_ok-reply.ensures.some in (
      some.0,
      by_given g.S.Given.Pkinit.rows (g.S.PkinitSource.gives c.args.source.now) (call_with c.args.call.now some.0) c.args.message.now c.in-Some.request c.in_ok-reply.reply.items
          (rw c.in-Some.is at c.in_ok-request.ensures) some.1,
    )

pub returns-in-Some-2-clause-some : goal.returns-in-Some-2-clause-some
returns-in-Some-2-clause-some g c =
    let some = c.in_ok-reply-2.ensures.some in (
      some.0,
      by_tgs g.S.Given.Pkinit.rows (g.S.PkinitSource.gives c.args.source.now) (call_with c.args.call.now some.0) c.args.message.now c.in-Some-2.request c.in_ok-reply-2.reply.items
          (rw c.in_default.is at c.in_ok-request.ensures) (rw c.in-Some-2.is at c.in_ok-request-2.ensures) some.1,
    )
