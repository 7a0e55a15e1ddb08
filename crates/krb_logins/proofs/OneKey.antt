-- Every honest login leaves client and service with one key: its steps in a row, by what holds of each.
use Rattle.std.proofs.Common.{◌≡◌, true, Result, Ok, Err, inl, inr, sym, subst}
use Rattle.picky_asn1.specs.Bytes.{Bytes}
use Rattle.krb_realm_accounts.specs.Names.{are_components}
use Rattle.krb_kdc_exchanges.specs.Call.{CallRecord}
use Rattle.krb_kdc_exchanges.specs.Rows.{PkinitRows}
use Rattle.krb_kdc_exchanges.specs.declared.span.Span.{Span}
use Rattle.krb_messages.specs.TicketGranting.{krbtgt_of}
use Rattle.krb_tickets.specs.Parts.{session_key_of}
use Rattle.krb_client.specs.Asked.{AsAskedRecord, TgsAskedRecord}
use Rattle.krb_client.specs.AsReply.{TakesAsReply, takes_as_reply}
use Rattle.krb_client.specs.Client.{ClientRecord, CredentialRecord}
use Rattle.krb_client.specs.Means.{MeansRecord}
use Rattle.krb_client.specs.Options.{plain_options}
use Rattle.krb_client.specs.TgsReply.{TakesTgsReply, takes_tgs_reply}
use Rattle.krb_client.specs.declared.refusal.AskRefusal.{AskRefusal}
use Rattle.krb_client.specs.declared.refusal.AskRefusal.TheVariants as ask_refusal
use Rattle.krb_service.specs.Service.{ServiceRecord}
use Rattle.krb_logins.specs.Held.{IsFirstSpan, IsFurtherSpan, IsHeld, first_grant, further_grant}
use Rattle.krb_logins.specs.Honest.{Ends, IsOneKey}
use Rattle.krb_logins.specs.Laws.{IsClientAdmitted, IsFirstGranted, IsFirstTaken, IsFurtherGranted, IsFurtherTaken, IsMet}
use Rattle.krb_logins.specs.LoginRun.{ApExchange, AsExchange, Exchanges, Login, LoginRun, TgsExchange}
use Rattle.krb_logins.specs.Parties.{LoginRecord, RealmRecord, RememberedRecord, call_at}
use Rattle.krb_logins.specs.Steps.{IsAsAsked, IsTgsAsked}
use Rattle.krb_logins.specs.declared.refusal.LoginRefusal.{LoginRefusal}
use Rattle.krb_logins.proofs.ApEnds.{IsAdmittedBy, IsAfter, exchanged_after, exchanged_key}
use Rattle.krb_logins.proofs.ExchangeEnds.{IsTakenSo, asked_memory, exchange_ends, first_memory, granting_name}

-- what holds of the steps
pub record AreLaws (client : ClientRecord) (means : MeansRecord) (realm : RealmRecord) (rows : PkinitRows) (service : ServiceRecord) (before : RememberedRecord) (login : LoginRecord)
    (met : IsMet client means realm rows service before login) : Type 0 where
  pub first_granted : IsFirstGranted client means realm rows service before login met
  pub first_taken : IsFirstTaken client means realm rows service before login met
  pub further_granted : IsFurtherGranted client means realm rows service before login met
  pub further_taken : IsFurtherTaken client means realm rows service before login met
  pub client_admitted : IsClientAdmitted client means realm rows service before login met

module _ (client : ClientRecord) (means : MeansRecord) (realm : RealmRecord) (rows : PkinitRows) (service : ServiceRecord) (before : RememberedRecord) (login : LoginRecord)
    (met : IsMet client means realm rows service before login) (laws : AreLaws client means realm rows service before login met) where
  -- the client holds the first ticket
  abbrev HoldsFirst : CredentialRecord → Type 0
  HoldsFirst credential = (first : Span) × IsFirstSpan realm login first × IsHeld met.granting.account login.realm_words_as (first_grant client realm login first) credential

  abbrev as_call : CallRecord
  as_call = call_at realm login.realm_as login.realm_words_as

  abbrev as_asks : Result (Bytes × AsAskedRecord) AskRefusal → Type 0
  as_asks = IsAsAsked client means (krbtgt_of client.realm) login.till login.client_as login.words_as

  as_taken : (sent : Bytes × AsAskedRecord) → as_asks (Ok sent) → IsTakenSo AsAskedRecord as_call rows as_asks (takes_as_reply client means) HoldsFirst sent
  unfolding IsAsAsked IsFirstGranted IsFirstTaken
  as_taken sent asked reply replied =
      let granted = (laws.first_granted sent.0 asked.0).1 reply replied in (
        granted.2.2.0,
        granted.2.2.1,
        λ taken x.
            let own = subst (λ a. TakesAsReply client means a granted.2.2.0 taken) asked.1 x in
            let it = laws.first_taken granted.0 granted.2.0 granted.2.2.0 taken granted.2.1 granted.2.2.2 own in
            (it.0, it.1, (granted.0, granted.1, it.2)),
      )

  as_unasked : (refusal : AskRefusal) → as_asks (Err refusal) → refusal ≡ ask_refusal.Memory
  unfolding IsAsAsked
  as_unasked refusal x =
      first_memory client plain_options means (krbtgt_of client.realm) login.till login.client_as login.words_as refusal (granting_name client.realm met.parties.realm) met.authenticated.asks x.0

  pub as_ends : (result : Result CredentialRecord LoginRefusal) → AsExchange client means realm rows login result → Ends HoldsFirst result
  unfolding AsExchange
  as_ends = exchange_ends AsAskedRecord as_call rows as_asks (takes_as_reply client means) HoldsFirst as_unasked as_taken

  -- the client holds the ticket for the service
  abbrev pub HoldsFurther : CredentialRecord → Type 0
  HoldsFurther credential =
      (first : Span) × IsFirstSpan realm login first × ((span : Span) × IsFurtherSpan realm login first span
      × IsHeld met.honest.service.account login.realm_words_tgs (further_grant client realm login first span) credential)

  abbrev tgs_call : CallRecord
  tgs_call = call_at realm login.realm_tgs login.realm_words_tgs

  module _ (granting : CredentialRecord) (holds : HoldsFirst granting) where
    abbrev tgs_asks : Result (Bytes × TgsAskedRecord) AskRefusal → Type 0
    tgs_asks = IsTgsAsked client granting login.service login.till login.client_tgs login.words_tgs

    tgs_taken : (sent : Bytes × TgsAskedRecord) → tgs_asks (Ok sent) → IsTakenSo TgsAskedRecord tgs_call rows tgs_asks (takes_tgs_reply client) HoldsFurther sent
    unfolding IsTgsAsked IsFurtherGranted IsFurtherTaken
    tgs_taken sent asked reply replied =
        let granted = (laws.further_granted holds.0 granting sent.0 holds.1 holds.2 asked.0).1 reply replied in (
          granted.2.0,
          granted.2.1,
          λ taken x.
              let own = subst (λ a. TakesTgsReply client a granted.2.0 taken) asked.1 x in
              let it = laws.further_taken holds.0 granted.0 granting granted.2.0 taken holds.2 granted.2.2 own in
              (it.0, it.1, (holds.0, holds.1, (granted.0, granted.1, it.2))),
        )

    -- the service's name is the one that is asked for
    tgs_unasked : (refusal : AskRefusal) → tgs_asks (Err refusal) → refusal ≡ ask_refusal.Memory
    unfolding IsTgsAsked
    tgs_unasked refusal = asked_memory login.service refusal (subst (λ name. are_components name ≡ true) (sym met.honest.named.asked) met.parties.entry.1.1)

    tgs_ends : (result : Result CredentialRecord LoginRefusal) → TgsExchange client realm rows login granting result → Ends HoldsFurther result
    unfolding TgsExchange
    tgs_ends = exchange_ends TgsAskedRecord tgs_call rows tgs_asks (takes_tgs_reply client) HoldsFurther tgs_unasked tgs_taken

  pub exchanges_end : (result : Result CredentialRecord LoginRefusal) → Exchanges client means realm rows login result → Ends HoldsFurther result
  unfolding Exchanges
  exchanges_end result (inl x) = tgs_ends x.0 (as_ends (Ok x.0) x.1) result x.2
  exchanges_end result (inr x) = subst (Ends HoldsFurther) (sym x.2) (as_ends (Err x.0) x.1)

  -- by that ticket the client is admitted
  abbrev session : Bytes
  session = session_key_of client.suite login.realm_words_tgs

  admitted_by : (credential : CredentialRecord) → HoldsFurther credential → IsAdmittedBy client service before login credential session
  unfolding IsClientAdmitted
  admitted_by credential holds = record {
    suite = holds.2.2.suite;
    key_is = holds.2.2.key;
    admits = λ request outcome asks given.
        let it = laws.client_admitted holds.0 holds.2.0 credential request outcome holds.1 holds.2.1 holds.2.2 asks given in
        (it.0, (it.1, it.2, it.3, it.4, it.5));
  }

  pub ap_after : (credential : CredentialRecord) (result : Result Login LoginRefusal) (after : RememberedRecord) → HoldsFurther credential
      → ApExchange client service login credential before result after → IsAfter client before login after
  ap_after credential result after holds = exchanged_after client service before login credential session (admitted_by credential holds) result after

  pub one_key : (result : Result Login LoginRefusal) (after : RememberedRecord) → LoginRun client means realm rows service login before result after → IsOneKey client result
  unfolding LoginRun
  one_key result after (inl x) = exchanged_key client service before login x.0 session (admitted_by x.0 (exchanges_end (Ok x.0) x.1)) result after x.2
  one_key result after (inr x) = subst (IsOneKey client) (sym x.2) (exchanges_end (Err x.0) x.1)
