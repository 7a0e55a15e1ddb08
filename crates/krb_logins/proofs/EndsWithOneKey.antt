-- What holds of the steps of every honest login, joined: it ends with one key.
use Rattle.std.specs.Prelude.{Result, Ok}
use Rattle.krb_kdc_exchanges.specs.Rows.{PkinitRows}
use Rattle.krb_client.specs.Client.{ClientRecord, CredentialRecord}
use Rattle.krb_client.specs.Means.{MeansRecord}
use Rattle.krb_service.specs.Service.{ServiceRecord}
use Rattle.krb_logins.specs.Honest.{IsOneKey}
use Rattle.krb_logins.specs.Laws.{IsMet}
use Rattle.krb_logins.specs.LoginRun.{Exchanges, Login, LoginRun}
use Rattle.krb_logins.specs.Parties.{LoginRecord, RealmRecord, RememberedRecord}
use Rattle.krb_logins.specs.declared.refusal.LoginRefusal.{LoginRefusal}
use Rattle.krb_logins.proofs.Admitted.{client_admitted}
use Rattle.krb_logins.proofs.FirstGranted.{first_granted}
use Rattle.krb_logins.proofs.FirstTaken.{first_taken}
use Rattle.krb_logins.proofs.FurtherGranted.{further_granted}
use Rattle.krb_logins.proofs.FurtherTaken.{further_taken}
use Rattle.krb_logins.proofs.OneKey.{AreLaws, HoldsFurther, exchanges_end, one_key}

-- what holds of the steps
pub are_laws : (client : ClientRecord) (means : MeansRecord) (realm : RealmRecord) (rows : PkinitRows) (service : ServiceRecord) (before : RememberedRecord) (login : LoginRecord)
    (met : IsMet client means realm rows service before login) → AreLaws client means realm rows service before login met
are_laws client means realm rows service before login met = record {
  first_granted = first_granted client means realm rows service before login met;
  first_taken = first_taken client means realm rows service before login met;
  further_granted = further_granted client means realm rows service before login met;
  further_taken = further_taken client means realm rows service before login met;
  client_admitted = client_admitted client means realm rows service before login met;
}

pub ends_with_one_key : (client : ClientRecord) (means : MeansRecord) (realm : RealmRecord) (rows : PkinitRows) (service : ServiceRecord) (before : RememberedRecord) (login : LoginRecord)
    → IsMet client means realm rows service before login
    → (result : Result Login LoginRefusal) (after : RememberedRecord) → LoginRun client means realm rows service login before result after → IsOneKey client result
ends_with_one_key client means realm rows service before login met result after run =
    one_key client means realm rows service before login met (are_laws client means realm rows service before login met) result after run

-- what its exchanges make is a credential with what was granted
pub exchanges_held : (client : ClientRecord) (means : MeansRecord) (realm : RealmRecord) (rows : PkinitRows) (service : ServiceRecord) (before : RememberedRecord) (login : LoginRecord)
    (met : IsMet client means realm rows service before login) (credential : CredentialRecord) → Exchanges client means realm rows login (Ok credential)
    → HoldsFurther client means realm rows service before login met (are_laws client means realm rows service before login met) credential
exchanges_held client means realm rows service before login met credential =
    exchanges_end client means realm rows service before login met (are_laws client means realm rows service before login met) (Ok credential)
