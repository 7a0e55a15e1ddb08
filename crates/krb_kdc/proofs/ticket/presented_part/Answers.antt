use Rattle.std.proofs.Common.{◌≡◌, subst}
use Rattle.krb_crypto.specs.Keys.{KeyRecord}
use Rattle.krb_realm_accounts.specs.Account.{AccountKeyRecord}
use Rattle.krb_messages.specs.declared.data_types.encrypted_data.EncryptedData.{EncryptedData}
use Rattle.krb_ap_requests.specs.ApTable.{enc_part_in}
use Rattle.krb_kdc_exchanges.specs.ChosenKeys.{chosen}
use Rattle.krb_kdc.proofs.Opened.{opened_by, unopened_by}
use Rattle.krb_kdc.proofs.ticket.presented_part.Goals as goal

pub returns-in-Ok : goal.returns-in-Ok
returns-in-Ok c =
    let sealed : EncryptedData = enc_part_in c.args.ap_req.now in
    let own : AccountKeyRecord = chosen sealed c.args.account.now in
    let key : KeyRecord = c.chosen_key-own.result.key.now in
    let of_key : key ≡ record { suite = own.suite; bytes = own.key } =
    subst (λ (encrypted : EncryptedData). key ≡ record { suite = (chosen encrypted c.args.account.now).suite; bytes = (chosen encrypted c.args.account.now).key })
    c.enc_part_in-sealed.ensures c.chosen_key-own.ensures.key in
    opened_by key own c.enc_part_in-sealed.result.now sealed of_key c.enc_part_in-sealed.ensures c.in-Ok.part c.in-Ok.ensures

pub returns-in-Err-Krb : goal.returns-in-Err-Krb
returns-in-Err-Krb c =
    let sealed : EncryptedData = enc_part_in c.args.ap_req.now in
    let own : AccountKeyRecord = chosen sealed c.args.account.now in
    let key : KeyRecord = c.chosen_key-own.result.key.now in
    let of_key : key ≡ record { suite = own.suite; bytes = own.key } =
    subst (λ (encrypted : EncryptedData). key ≡ record { suite = (chosen encrypted c.args.account.now).suite; bytes = (chosen encrypted c.args.account.now).key })
    c.enc_part_in-sealed.ensures c.chosen_key-own.ensures.key in
    let refused = rw c.in-Err-Krb.field-0-is at c.in-Err-Krb.ensures in
    unopened_by key own c.enc_part_in-sealed.result.now sealed of_key c.enc_part_in-sealed.ensures c.in-Err-Krb.field-0-0 refused
