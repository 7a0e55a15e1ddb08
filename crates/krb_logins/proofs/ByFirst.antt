-- An honest login is one by its first ticket.
use Rattle.std.proofs.Common.{Some, Ok, subst}
use Rattle.asn1_leaves.specs.GeneralizedTime.{seconds_of}
use Rattle.krb_time.specs.Units.{Seconds}
use Rattle.krb_kdc_exchanges.specs.Rows.{PkinitRows}
use Rattle.krb_kdc_exchanges.specs.Times.{end_of, start_of}
use Rattle.krb_client.specs.Client.{ClientRecord, CredentialRecord}
use Rattle.krb_client.specs.Means.{MeansRecord}
use Rattle.krb_service.specs.Service.{ServiceRecord}
use Rattle.krb_logins.specs.Honest.{IsTicketInTime, clock_of}
use Rattle.krb_logins.specs.Laws.{IsMet}
use Rattle.krb_logins.specs.LoginRun.{AsExchange}
use Rattle.krb_logins.specs.Parties.{LoginRecord, RealmRecord, RememberedRecord}
use Rattle.krb_logins.specs.TicketChains.{IsTicketLoginHonest}
use Rattle.krb_logins.specs.Tickets.{AreOfOneRealm, HoldsGranting}
use Rattle.krb_logins.proofs.Admissible.{ap_honest}
use Rattle.krb_logins.proofs.EndsWithOneKey.{are_laws}
use Rattle.krb_logins.proofs.MetParts.{ends, holds_first, one_realm, tgs_honest}
use Rattle.krb_logins.proofs.OneKey.{as_ends}

pub by_first : (client : ClientRecord) (means : MeansRecord) (realm : RealmRecord) (rows : PkinitRows) (service : ServiceRecord) (before : RememberedRecord) (login : LoginRecord) (granting : CredentialRecord)
    → IsMet client means realm rows service before login → AsExchange client means realm rows login (Ok granting)
    → AreOfOneRealm client realm × HoldsGranting client realm granting × IsTicketLoginHonest client realm service before login granting
by_first client means realm rows service before login granting met exchange =
    let held = as_ends client means realm rows service before login met (are_laws client means realm rows service before login met) (Ok granting) exchange in
    let end = ends client means realm rows service before login met held.0 held.1 granting held.2 in (
      one_realm client means realm rows service before login met,
      holds_first client means realm rows service before login met held.0 held.1 granting held.2,
      record {
        entry = met.parties.entry;
        tgs = tgs_honest client means realm rows service before login met held.0 held.1 granting held.2;
        ap = ap_honest client realm service before login met.parties met.enough met.honest;
        valid = subst (λ (old : Seconds). IsTicketInTime (start_of login.realm_tgs) (end_of realm.settings.lifetime (start_of login.realm_tgs) (Some old) (seconds_of login.till)) service.seen.skew (clock_of before login))
            end met.honest.timely.further;
      },
    )
