-- The realm grants the ticket for the service by the first one: it is the next ticket of a request without options.
use Rattle.std.proofs.Common.{◌≡◌, false, None, Option, subst}
use Rattle.asn1_leaves.specs.declared.date.GeneralizedTime.{GeneralizedTime}
use Rattle.krb_kdc_exchanges.specs.Renewals.{IsTill}
use Rattle.krb_kdc_exchanges.specs.Rows.{PkinitRows}
use Rattle.krb_kdc_exchanges.specs.TgsTable.{further_till}
use Rattle.krb_kdc_exchanges.specs.declared.span.Span.{Span}
use Rattle.krb_tickets.specs.Granted.{IsTicketReply}
use Rattle.krb_tickets.specs.Parts.{session_key_of, ticket_part}
use Rattle.krb_tickets.specs.ReplyKeys.{tgs_reply_key}
use Rattle.krb_client.specs.Client.{ClientRecord}
use Rattle.krb_client.specs.Means.{MeansRecord}
use Rattle.krb_client.proofs.PlainOptions.{tgs_plain}
use Rattle.krb_service.specs.Service.{ServiceRecord}
use Rattle.krb_logins.specs.Held.{first_grant}
use Rattle.krb_logins.specs.Laws.{IsFurtherGranted, IsMet}
use Rattle.krb_logins.specs.Parties.{LoginRecord, RealmRecord, RememberedRecord, tgs_of}
use Rattle.krb_logins.specs.Tickets.{next_grant, tgs_body}
use Rattle.krb_logins.proofs.FirstGranted.{no_time}
use Rattle.krb_logins.proofs.MetParts.{holds_first, one_realm, tgs_honest}
use Rattle.krb_logins.proofs.NextGranted.{next_granted}

-- by a ticket that isn't renewable no renewable one is granted
no_till : (client : ClientRecord) (realm : RealmRecord) (login : LoginRecord) (first span : Span) (till : Option GeneralizedTime)
    → IsTill (further_till false realm.settings.policy.renewable_life (ticket_part (first_grant client realm login first)) span (tgs_body client (tgs_of login))) till → till ≡ None
unfolding ticket_part
no_till client realm login first span till is = no_time till is

pub further_granted : (client : ClientRecord) (means : MeansRecord) (realm : RealmRecord) (rows : PkinitRows) (service : ServiceRecord) (before : RememberedRecord) (login : LoginRecord)
    (met : IsMet client means realm rows service before login)
    → IsFurtherGranted client means realm rows service before login met
unfolding IsFurtherGranted
further_granted client means realm rows service before login met first granting request first_is held asks =
    let own = next_granted client realm rows (tgs_of login) granting (one_realm client means realm rows service before login met)
    (holds_first client means realm rows service before login met first first_is granting held)
    (tgs_honest client means realm rows service before login met first first_is granting held) request (tgs_plain asks) in (
      own.0,
      λ reply replied.
          let it = own.1 reply replied in
          let none : it.till ≡ None = no_till client realm login first it.span it.till it.renews in
          let plain = subst (λ till. IsTicketReply (next_grant client realm (tgs_of login) (first_grant client realm login first) it.span till) (tgs_reply_key client.suite (session_key_of client.suite login.realm_words_as))
          met.honest.service.account login.realm_words_tgs it.bytes) none it.replied in
          (it.span, it.lasts, (it.bytes, it.is, plain)),
    )
