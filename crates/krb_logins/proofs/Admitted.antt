-- The service of an honest login admits its client.
use Rattle.krb_kdc_exchanges.specs.Rows.{PkinitRows}
use Rattle.krb_client.specs.Client.{ClientRecord}
use Rattle.krb_client.specs.Means.{MeansRecord}
use Rattle.krb_service.specs.Service.{ServiceRecord}
use Rattle.krb_logins.specs.Held.{further_grant}
use Rattle.krb_logins.specs.Laws.{IsClientAdmitted, IsMet}
use Rattle.krb_logins.specs.Parties.{LoginRecord, RealmRecord, RememberedRecord}
use Rattle.krb_logins.proofs.Admissible.{ap_honest, valid}
use Rattle.krb_logins.proofs.AdmittedBy.{admitted_by}

pub client_admitted : (client : ClientRecord) (means : MeansRecord) (realm : RealmRecord) (rows : PkinitRows) (service : ServiceRecord) (before : RememberedRecord) (login : LoginRecord)
    (met : IsMet client means realm rows service before login) → IsClientAdmitted client means realm rows service before login met
unfolding IsClientAdmitted
client_admitted client means realm rows service before login met first span credential request outcome first_is further_is held asks given =
    let in_time = valid client realm service before login met.parties met.enough met.honest first span first_is further_is in
    let by = admitted_by client realm service before login met.parties (ap_honest client realm service before login met.parties met.enough met.honest)
    login.realm_words_tgs met.enough.realm_tgs (further_grant client realm login first span) in_time credential held in
    let it = by.admits request outcome asks given in
    (it.0, it.1.0, it.1.1, it.1.2, it.1.3, it.1.4)
