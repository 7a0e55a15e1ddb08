-- A login by the means of a client as its parts hold them.
use Rattle.std.proofs.Common.{◌≡◌, Result, subst}
use Rattle.krb_client.specs.Client.{ClientRecord}
use Rattle.krb_client.specs.Means.{MeansRecord}
use Rattle.krb_kdc_exchanges.specs.Rows.{PkinitRows}
use Rattle.krb_service.specs.Seen.{SeenRecord}
use Rattle.krb_service.specs.Service.{ServiceRecord}
use Rattle.krb_logins.specs.LoginRun.{Login, LoginRun}
use Rattle.krb_logins.specs.Parties.{LoginRecord, RealmRecord, RememberedRecord}
use Rattle.krb_logins.specs.declared.refusal.LoginRefusal.{LoginRefusal}
use Rattle.krb_logins.specs.ApExchanges.{Remembers}

module _ (realm : RealmRecord) (rows : PkinitRows) (service : ServiceRecord) (before : RememberedRecord) (login : LoginRecord) (result : Result Login LoginRefusal) where
  module _ (own wanted : ClientRecord) (same : own ≡ wanted) (held means : MeansRecord) (are : held ≡ means) where
    pub run_as : (seen : SeenRecord) → Remembers seen (LoginRun own held realm rows service login before result) → Remembers seen (LoginRun wanted means realm rows service login before result)
    run_as seen run =
        subst (λ (client : ClientRecord). Remembers seen (LoginRun client means realm rows service login before result)) same
        (subst (λ (m : MeansRecord). Remembers seen (LoginRun own m realm rows service login before result)) are run)
