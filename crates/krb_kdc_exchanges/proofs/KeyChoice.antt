-- Which of an account's keys is chosen, by what was found among them.
use Rattle.std.proofs.Common.{◌≡◌, true, false, None, Some, refl}
use Rattle.std.specs.List.{find}
use Rattle.krb_messages.specs.declared.data_types.encrypted_data.EncryptedData.{EncryptedData}
use Rattle.krb_realm_accounts.specs.Account.{AccountKeyRecord, AccountRecord, newest}
use Rattle.krb_ap_requests.specs.ApTable.{kvno_fits}
use Rattle.krb_kdc_exchanges.specs.ChosenKeys.{chosen}

module _ (encrypted : EncryptedData) (account : AccountRecord) where
  pub newest_fits : kvno_fits account.kvno encrypted ≡ true → chosen encrypted account ≡ newest account
  newest_fits fits = rw fits refl

  module _ (other : kvno_fits account.kvno encrypted ≡ false) where
    pub older_fits : (key : AccountKeyRecord) → find (λ key. kvno_fits key.kvno encrypted) account.former ≡ Some key → chosen encrypted account ≡ key
    older_fits key found = rw (other, found) refl

    pub none_fits : find (λ key. kvno_fits key.kvno encrypted) account.former ≡ None → chosen encrypted account ≡ newest account
    none_fits none = rw (other, none) refl
