use Rattle.std.proofs.Common.{◌≡◌, true, false, ap, sym, ◌∙◌}
use Rattle.std.specs.Option.{option_copied}
use Rattle.krb_crypto.specs.Keys.{KeyRecord}
use Rattle.krb_realm_accounts.specs.Account.{AccountKeyRecord}
use Rattle.krb_ap_requests.specs.ApTable.{kvno_fits}
use Rattle.krb_kdc_exchanges.proofs.KeyChoice.{newest_fits, none_fits, older_fits}
use Rattle.krb_kdc_exchanges.proofs.chosen.chosen_key.Goals as goal

abbrev key_record : AccountKeyRecord → KeyRecord
key_record own = record { suite = own.suite; bytes = own.key }

pub returns-then-kvno_fits-clause-key : goal.returns-then-kvno_fits-clause-key
returns-then-kvno_fits-clause-key c =
    let fits : kvno_fits c.args.account.now.kvno c.args.encrypted.now ≡ true = sym (rw c.kvno.ensures.value at c.kvno_fits.ensures) ∙ c.if-kvno_fits.true in
    c.key.ensures ∙ ap key_record (sym (newest_fits c.args.encrypted.now c.args.account.now fits))

pub returns-then-kvno_fits-clause-kvno : goal.returns-then-kvno_fits-clause-kvno
returns-then-kvno_fits-clause-kvno c =
    let fits : kvno_fits c.args.account.now.kvno c.args.encrypted.now ≡ true = sym (rw c.kvno.ensures.value at c.kvno_fits.ensures) ∙ c.if-kvno_fits.true in
    c.kvno.ensures.value ∙ ap (λ (own : AccountKeyRecord). own.kvno) (sym (newest_fits c.args.encrypted.now c.args.account.now fits))

pub returns-in-Some-clause-key : goal.returns-in-Some-clause-key
returns-in-Some-clause-key c =
    let other : kvno_fits c.args.account.now.kvno c.args.encrypted.now ≡ false = sym (rw c.kvno.ensures.value at c.kvno_fits.ensures) ∙ c.if-kvno_fits.false in
    let found = sym (rw c.former.ensures.value at c.former_of.ensures) ∙ ap (λ o. option_copied o) c.in-Some.is in
    c.key-in-Some.ensures ∙ ap key_record (sym (older_fits c.args.encrypted.now c.args.account.now other c.in-Some.key.now found))

pub returns-in-Some-clause-kvno : goal.returns-in-Some-clause-kvno
returns-in-Some-clause-kvno c =
    let other : kvno_fits c.args.account.now.kvno c.args.encrypted.now ≡ false = sym (rw c.kvno.ensures.value at c.kvno_fits.ensures) ∙ c.if-kvno_fits.false in
    let found = sym (rw c.former.ensures.value at c.former_of.ensures) ∙ ap (λ o. option_copied o) c.in-Some.is in
    c.kvno-in-Some.ensures.value ∙ ap (λ (own : AccountKeyRecord). own.kvno) (sym (older_fits c.args.encrypted.now c.args.account.now other c.in-Some.key.now found))

pub returns-in-None-clause-key : goal.returns-in-None-clause-key
returns-in-None-clause-key c =
    let other : kvno_fits c.args.account.now.kvno c.args.encrypted.now ≡ false = sym (rw c.kvno.ensures.value at c.kvno_fits.ensures) ∙ c.if-kvno_fits.false in
    let none = sym (rw c.former.ensures.value at c.former_of.ensures) ∙ ap (λ o. option_copied o) c.in-None.is in
    c.key.ensures ∙ ap key_record (sym (none_fits c.args.encrypted.now c.args.account.now other none))

pub returns-in-None-clause-kvno : goal.returns-in-None-clause-kvno
returns-in-None-clause-kvno c =
    let other : kvno_fits c.args.account.now.kvno c.args.encrypted.now ≡ false = sym (rw c.kvno.ensures.value at c.kvno_fits.ensures) ∙ c.if-kvno_fits.false in
    let none = sym (rw c.former.ensures.value at c.former_of.ensures) ∙ ap (λ o. option_copied o) c.in-None.is in
    c.kvno.ensures.value ∙ ap (λ (own : AccountKeyRecord). own.kvno) (sym (none_fits c.args.encrypted.now c.args.account.now other none))
