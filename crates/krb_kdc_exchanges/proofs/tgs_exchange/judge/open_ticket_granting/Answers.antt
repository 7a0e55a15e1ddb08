use Rattle.std.proofs.Common.{◌≡◌, ℕ, List, Ok, Err, subst}
use Rattle.std.proofs.lemmas.Result.{err_from_is_err_and}
use Rattle.picky_asn1.specs.Bytes.{Bytes}
use Rattle.krb_crypto.specs.Keys.{KeyRecord}
use Rattle.krb_realm_accounts.specs.Account.{AccountKeyRecord}
use Rattle.krb_messages.specs.Refusals.{IsJudged}
use Rattle.krb_messages.specs.declared.data_types.enc_ticket_part.EncTicketPartInner.{EncTicketPartInner}
use Rattle.krb_messages.specs.declared.data_types.encrypted_data.EncryptedData.{EncryptedData}
use Rattle.krb_ap_requests.specs.ApTable.{ap_fields, opened_part}
use Rattle.krb_kdc_exchanges.specs.Call.{call_of}
use Rattle.krb_kdc_exchanges.specs.ChosenKeys.{chosen}
use Rattle.krb_kdc_exchanges.proofs.TgsJudged.{fields_refused, judged_client_and_times, unopened}
use Rattle.krb_kdc_exchanges.proofs.tgs_exchange.judge.open_ticket_granting.Goals as goal

pub returns-in_err-check_fields : goal.returns-in_err-check_fields
returns-in_err-check_fields c =
    let sealed : EncryptedData = c.args.ap_req.now.ticket.0.0.enc_part.0 in
    let own : AccountKeyRecord = chosen sealed c.args.granting.now in
    let kvno : ℕ = c.chosen_key-own.result.kvno in
    let numbered : kvno ≡ own.kvno =
    subst (λ (encrypted : EncryptedData). kvno ≡ (chosen encrypted c.args.granting.now).kvno) c.enc_part_in-sealed.ensures c.chosen_key-own.ensures.kvno in
    let exit = err_from_is_err_and c.from_residual.result c.from_residual.ensures.1 in
    rw (exit.1, exit.2)
    (fields_refused (call_of c.args.call.now) own c.args.ap_req.now kvno numbered c.in_err-check_fields.field-0.0
    (subst (λ (name : List Bytes). IsJudged (ap_fields c.args.call.now.realm.now name kvno c.args.ap_req.now).gives (Err c.in_err-check_fields.field-0.0)) c.requires c.in_err-check_fields.ensures))

pub returns-in_err-part : goal.returns-in_err-part
returns-in_err-part c =
    let sealed : EncryptedData = c.args.ap_req.now.ticket.0.0.enc_part.0 in
    let own : AccountKeyRecord = chosen sealed c.args.granting.now in
    let kvno : ℕ = c.chosen_key-own.result.kvno in
    let numbered : kvno ≡ own.kvno =
    subst (λ (encrypted : EncryptedData). kvno ≡ (chosen encrypted c.args.granting.now).kvno) c.enc_part_in-sealed.ensures c.chosen_key-own.ensures.kvno in
    let key : KeyRecord = c.chosen_key-own.result.key.now in
    let of_key : key ≡ record { suite = own.suite; bytes = own.key } =
    subst (λ (encrypted : EncryptedData). key ≡ record { suite = (chosen encrypted c.args.granting.now).suite; bytes = (chosen encrypted c.args.granting.now).key })
    c.enc_part_in-sealed.ensures c.chosen_key-own.ensures.key in
    let exit = err_from_is_err_and c.from_residual-in_err-part.result c.from_residual-in_err-part.ensures.1 in
    rw (exit.1, exit.2)
    (unopened (call_of c.args.call.now) own c.args.ap_req.now kvno numbered key of_key (rw c.requires at c.in_ok-check_fields.ensures) c.in_err-part.field-0.0
    (subst (λ (encrypted : EncryptedData). IsJudged {T = EncTicketPartInner} (opened_part key.suite key.bytes encrypted).gives (Err c.in_err-part.field-0.0)) c.enc_part_in-sealed.ensures c.in_err-part.ensures))

pub returns : goal.returns
returns c =
    let sealed : EncryptedData = c.args.ap_req.now.ticket.0.0.enc_part.0 in
    let own : AccountKeyRecord = chosen sealed c.args.granting.now in
    let kvno : ℕ = c.chosen_key-own.result.kvno in
    let numbered : kvno ≡ own.kvno =
    subst (λ (encrypted : EncryptedData). kvno ≡ (chosen encrypted c.args.granting.now).kvno) c.enc_part_in-sealed.ensures c.chosen_key-own.ensures.kvno in
    let key : KeyRecord = c.chosen_key-own.result.key.now in
    let of_key : key ≡ record { suite = own.suite; bytes = own.key } =
    subst (λ (encrypted : EncryptedData). key ≡ record { suite = (chosen encrypted c.args.granting.now).suite; bytes = (chosen encrypted c.args.granting.now).key })
    c.enc_part_in-sealed.ensures c.chosen_key-own.ensures.key in
    judged_client_and_times (call_of c.args.call.now) own c.args.ap_req.now kvno numbered key of_key (rw c.requires at c.in_ok-check_fields.ensures) c.in_ok-part.part
    (subst (λ (encrypted : EncryptedData). (opened_part key.suite key.bytes encrypted).gives (Ok c.in_ok-part.part)) c.enc_part_in-sealed.ensures c.in_ok-part.ensures)
    c.check_client_and_times-judged.result c.check_client_and_times-judged.ensures c.if_passed.result c.if_passed.ensures.passed c.if_passed.ensures.refused
