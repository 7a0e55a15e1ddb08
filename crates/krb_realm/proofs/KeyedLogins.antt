-- A login of a client that has a key is one by that key.
use Rattle.std.proofs.Common.{◌≡◌, Result, subst, sym, ◌∙◌}
use Rattle.krb_crypto.specs.Keys.{KeyRecord}
use Rattle.krb_client.specs.Means.{MeansRecord}
use Rattle.krb_client.specs.EncryptedTimestamps.{by_key}
use Rattle.krb_service.specs.Service.{ServiceRecord}
use Rattle.x509_keys.specs.KeyFunctions.{no_functions}
use Rattle.krb_kdc_exchanges.specs.Rows.{PkinitRows}
use Rattle.krb_logins.specs.LoginRun.{Login, LoginRun}
use Rattle.krb_logins.specs.Parties.{LoginRecord, RealmRecord, RememberedRecord}
use Rattle.krb_logins.specs.declared.refusal.LoginRefusal.{LoginRefusal}
use Rattle.krb_realm.specs.Clients.{ByKey, ClientState, IsOfSuite, means_by, means_of}

module _ (client : ClientState) (key : KeyRecord) (by : client.by ≡ ByKey key) (fits : IsOfSuite client.client.suite client.by) where
  suite : key.suite ≡ client.client.suite
  suite = subst (IsOfSuite client.client.suite) by fits

  by_its_key : means_of client no_functions ≡ by_key client.client.suite key.bytes
  by_its_key = (λ i. means_by (by i) no_functions) ∙ (λ i. by_key (suite i) key.bytes)

  pub keyed_run : {own rows : PkinitRows} → own ≡ rows → (realm : RealmRecord) (service : ServiceRecord) (login : LoginRecord) (before : RememberedRecord) (result : Result Login LoginRefusal) (after : RememberedRecord)
      → LoginRun client.client (means_of client no_functions) realm rows service login before result after
      → LoginRun client.client (by_key client.client.suite key.bytes) realm own service login before result after
  keyed_run {own} {rows} same realm service login before result after run =
      subst (λ (m : MeansRecord). LoginRun client.client m realm own service login before result after) by_its_key
      (subst (λ (r : PkinitRows). LoginRun client.client (means_of client no_functions) realm r service login before result after) (sym same) run)
