-- The login, by its exchanges.
use Rattle.std.proofs.Common.{◌≡◌, Result, Ok, Err, inl, inr, refl}
use Rattle.krb_service.specs.Seen.{SeenRecord, IsWindow}
use Rattle.krb_kdc_exchanges.specs.Rows.{PkinitRows}
use Rattle.krb_client.specs.Client.{ClientRecord, CredentialRecord}
use Rattle.krb_client.specs.Means.{MeansRecord}
use Rattle.krb_service.specs.Service.{ServiceRecord}
use Rattle.krb_logins.specs.LoginRun.{ApExchange, Exchanges, Login, LoginRun}
use Rattle.krb_logins.specs.Parties.{LoginRecord, RealmRecord, RememberedRecord}
use Rattle.krb_logins.specs.declared.refusal.LoginRefusal.{LoginRefusal}
use Rattle.krb_logins.specs.ApExchanges.{Remembers}

module _ (client : ClientRecord) (means : MeansRecord) (realm : RealmRecord) (rows : PkinitRows) (service : ServiceRecord) (login : LoginRecord) (before : RememberedRecord) (seen : SeenRecord) (result : Result Login LoginRefusal) where
  pub no_credential : (refusal : LoginRefusal) → Exchanges client means realm rows login (Err refusal) → result ≡ Err refusal → IsWindow seen before.admitted → seen.greatest ≡ before.greatest
      → Remembers seen (LoginRun client means realm rows service login before result)
  unfolding LoginRun
  no_credential refusal x same window greatest = (before, inr (refusal, x, same, refl), window, greatest)

  pub by_credential : (credential : CredentialRecord) → Exchanges client means realm rows login (Ok credential) → Remembers seen (ApExchange client service login credential before result)
      → Remembers seen (LoginRun client means realm rows service login before result)
  unfolding LoginRun
  by_credential credential x y = (y.0, inl (credential, x, y.1), y.2, y.3)
