use Rattle.std.proofs.Common.{Err, subst}
use Rattle.std.proofs.lemmas.Result.{err_from_is_err_and}
use Rattle.krb_ap_requests.specs.ApTable.{presented, valid_part}
use Rattle.krb_ap_requests.specs.Entry.{EntryRecord}
use Rattle.krb_messages.specs.Refusals.{IsJudged}
use Rattle.krb_messages.specs.declared.data_types.enc_ticket_part.EncTicketPartInner.{EncTicketPartInner}
use Rattle.krb_messages.specs.declared.data_types.encrypted_data.EncryptedData.{EncryptedData}
use Rattle.krb_ap_requests.specs.declared.presented.Presented.{Presented}
use Rattle.krb_ap_requests.proofs.Judged.{recipient_refused, ticket_held, ticket_refused}
use Rattle.krb_service.proofs.entry.KeytabEntry.judge.Goals as goal

pub returns-in_err-check_recipient : goal.returns-in_err-check_recipient
returns-in_err-check_recipient c =
    let own = c.self.inside in
    let entry : EntryRecord = record { realm = own.realm; components = own.components.items; suite = own.key.suite; key = own.key.bytes; kvno = own.kvno } in
    let exit = err_from_is_err_and c.from_residual.result c.from_residual.ensures.1 in
    rw (exit.1, exit.2)
    (subst (λ (e : EntryRecord). IsJudged {T = Presented} (presented e c.args.skew c.args.moment c.args.request.now).gives (Err c.in_err-check_recipient.field-0.0)) c.self.view_is
    (recipient_refused entry c.args.skew c.args.moment c.args.request.now c.in_err-check_recipient.field-0.0 _ _ c.as_slice.ensures.value c.suite.ensures c.in_err-check_recipient.ensures))

pub returns-in_err-part : goal.returns-in_err-part
returns-in_err-part c =
    let own = c.self.inside in
    let entry : EntryRecord = record { realm = own.realm; components = own.components.items; suite = own.key.suite; key = own.key.bytes; kvno = own.kvno } in
    let recipient = rw (c.as_slice.ensures.value, c.suite.ensures) at c.in_ok-check_recipient.ensures in
    let exit = err_from_is_err_and c.from_residual-in_err-part.result c.from_residual-in_err-part.ensures.1 in
    rw (exit.1, exit.2)
    (subst (λ (e : EntryRecord). IsJudged {T = Presented} (presented e c.args.skew c.args.moment c.args.request.now).gives (Err c.in_err-part.field-0.0)) c.self.view_is
    (ticket_refused entry c.args.skew c.args.moment c.args.request.now c.in_err-part.field-0.0 recipient
    (subst (λ (encrypted : EncryptedData). IsJudged {T = EncTicketPartInner} (valid_part entry.suite entry.key c.args.skew c.args.moment encrypted).gives (Err c.in_err-part.field-0.0)) c.enc_part_in.ensures
    c.in_err-part.ensures)))

pub returns : goal.returns
returns c =
    let own = c.self.inside in
    let entry : EntryRecord = record { realm = own.realm; components = own.components.items; suite = own.key.suite; key = own.key.bytes; kvno = own.kvno } in
    let recipient = rw (c.as_slice.ensures.value, c.suite.ensures) at c.in_ok-check_recipient.ensures in
    subst (λ (e : EntryRecord). IsJudged {T = Presented} (presented e c.args.skew c.args.moment c.args.request.now).gives c.check_presented.result) c.self.view_is
    (ticket_held entry c.args.skew c.args.moment c.args.request.now c.in_ok-part.part c.check_presented.result recipient (rw c.enc_part_in.ensures at c.in_ok-part.ensures) c.check_presented.ensures)
