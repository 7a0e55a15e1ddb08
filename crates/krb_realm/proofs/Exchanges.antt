-- The exchanges of a login with the realm, by the steps of one call.
use Rattle.std.proofs.Common.{◌≡◌, Result, Ok, Err, inl, inr, subst, ap, refl, ◌∙◌}
use Rattle.picky_asn1.specs.Bytes.{Bytes}
use Rattle.decision_tables.specs.Tables.{Table}
use Rattle.krb_kdc_exchanges.specs.Call.{CallRecord}
use Rattle.krb_messages.specs.TicketGranting.{krbtgt_of}
use Rattle.krb_kdc_exchanges.specs.Rows.{PkinitRows}
use Rattle.krb_client.specs.Asked.{AsAskedRecord, TgsAskedRecord}
use Rattle.krb_client.specs.AsReply.{takes_as_reply}
use Rattle.krb_client.specs.Client.{ClientRecord, CredentialRecord}
use Rattle.krb_client.specs.Means.{MeansRecord}
use Rattle.krb_client.specs.Refusals.{IsTaken}
use Rattle.krb_client.specs.TgsReply.{takes_tgs_reply}
use Rattle.krb_client.specs.declared.refusal.AskRefusal.{AskRefusal}
use Rattle.krb_client.specs.declared.refusal.TakeRefusal.{TakeRefusal}
use Rattle.krb_logins.specs.LoginRun.{AsExchange, Exchanges, TgsExchange, ended, followed}
use Rattle.krb_logins.specs.Parties.{LoginRecord, RealmRecord, call_at}
use Rattle.krb_logins.specs.Steps.{IsAsAsked, IsKdcAnswered, IsTgsAsked}
use Rattle.krb_logins.specs.declared.refusal.LoginRefusal.{LoginRefusal}
use Rattle.krb_logins.specs.declared.refusal.LoginRefusal.TheVariants.{Answered, Asked, Taken}
use Rattle.krb_logins.specs.ApExchanges.{IsStep, Made, sent_as}
use Rattle.krb_realm.specs.Logins.{Answer, AsAsk, AsTake, TgsAsk, TgsTake}

-- the last step
step_ended : {V E : Type 0} (does : Result V E → Type 0) (own : E → LoginRefusal) (result : Result V LoginRefusal) → IsStep (λ made. made) does own result → followed does own ended result
step_ended does own (Ok made) x = inl (made, x, refl)
step_ended does own (Err refusal) x = inr (x.0, x.1, ap Err x.2)

-- an exchange: what the client asks, the realm answers, and the client takes
module _ {A : Type 0} (asks : Result (Bytes × A) AskRefusal → Type 0) (call : CallRecord) (rows : PkinitRows) (takes : A → Bytes → Table (Result CredentialRecord TakeRefusal)) (result : Result CredentialRecord LoginRefusal) where
  abbrev Exchange : Type 0
  Exchange =
      followed asks Asked (λ sent.
      followed (IsKdcAnswered call rows sent.0) Answered (λ reply.
      followed (IsTaken (takes sent.1 reply)) Taken ended)) result

  unasked : (refusal : LoginRefusal) → IsStep sent_as asks Asked (Err refusal) → result ≡ Err refusal → Exchange
  unasked refusal x same = inr (x.0, x.1, same ∙ ap Err x.2)

  module _ (sent : Made × A) (lent : Bytes) (asked : IsStep sent_as asks Asked (Ok sent)) (is_sent : lent ≡ sent.0.items) where
    unanswered : (refusal : LoginRefusal) → IsStep (λ (reply : Made). reply.items) (IsKdcAnswered call rows lent) Answered (Err refusal) → result ≡ Err refusal → Exchange
    unanswered refusal x same =
        inl ((sent.0.items, sent.1), asked, inr (x.0, subst (λ bytes. IsKdcAnswered call rows bytes (Err x.0)) is_sent x.1, same ∙ ap Err x.2))

    replied : (reply : Made) (shown : Bytes) → IsStep (λ (reply : Made). reply.items) (IsKdcAnswered call rows lent) Answered (Ok reply) → shown ≡ reply.items
        → IsStep (λ credential. credential) (IsTaken (takes sent.1 shown)) Taken result → Exchange
    replied reply shown x is_shown y =
        inl (
          (sent.0.items, sent.1),
          asked,
          inl (
            reply.items,
            subst (λ bytes. IsKdcAnswered call rows bytes (Ok reply.items)) is_sent x,
            step_ended (IsTaken (takes sent.1 reply.items)) Taken result (subst (λ bytes. IsStep (λ credential. credential) (IsTaken (takes sent.1 bytes)) Taken result) is_shown y),
          ),
        )

module _ (client : ClientRecord) (means : MeansRecord) (realm : RealmRecord) (rows : PkinitRows) (login : LoginRecord) (result : Result CredentialRecord LoginRefusal) where
  -- the AS exchange
  abbrev asks_as : Result (Bytes × AsAskedRecord) AskRefusal → Type 0
  asks_as = IsAsAsked client means (krbtgt_of client.realm) login.till login.client_as login.words_as

  abbrev as_call : CallRecord
  as_call = call_at realm login.realm_as login.realm_words_as

  pub as_unasked : (refusal : LoginRefusal) → AsAsk client means login (Err refusal) → result ≡ Err refusal → AsExchange client means realm rows login result
  unfolding AsAsk AsExchange
  as_unasked = unasked asks_as as_call rows (takes_as_reply client means) result

  module _ (request : Made) (asked : AsAskedRecord) (lent : Bytes) (asks : AsAsk client means login (Ok (request, asked))) (is_sent : lent ≡ request.items) where
    pub as_unanswered : (refusal : LoginRefusal) → Answer as_call rows lent (Err refusal) → result ≡ Err refusal → AsExchange client means realm rows login result
    unfolding AsAsk Answer AsExchange
    as_unanswered = unanswered asks_as as_call rows (takes_as_reply client means) result (request, asked) lent asks is_sent

    pub as_replied : (reply : Made) (shown : Bytes) → Answer as_call rows lent (Ok reply) → shown ≡ reply.items → AsTake client means asked shown result → AsExchange client means realm rows login result
    unfolding AsAsk Answer AsTake AsExchange
    as_replied = replied asks_as as_call rows (takes_as_reply client means) result (request, asked) lent asks is_sent

-- the TGS exchange
module _ (client : ClientRecord) (realm : RealmRecord) (rows : PkinitRows) (login : LoginRecord) (result : Result CredentialRecord LoginRefusal) (granting : CredentialRecord) where
  abbrev asks_tgs : Result (Bytes × TgsAskedRecord) AskRefusal → Type 0
  asks_tgs = IsTgsAsked client granting login.service login.till login.client_tgs login.words_tgs

  abbrev tgs_call : CallRecord
  tgs_call = call_at realm login.realm_tgs login.realm_words_tgs

  pub tgs_unasked : (refusal : LoginRefusal) → TgsAsk client login granting (Err refusal) → result ≡ Err refusal → TgsExchange client realm rows login granting result
  unfolding TgsAsk TgsExchange
  tgs_unasked = unasked asks_tgs tgs_call rows (takes_tgs_reply client) result

  module _ (request : Made) (asked : TgsAskedRecord) (lent : Bytes) (asks : TgsAsk client login granting (Ok (request, asked))) (is_sent : lent ≡ request.items) where
    pub tgs_unanswered : (refusal : LoginRefusal) → Answer tgs_call rows lent (Err refusal) → result ≡ Err refusal → TgsExchange client realm rows login granting result
    unfolding TgsAsk Answer TgsExchange
    tgs_unanswered = unanswered asks_tgs tgs_call rows (takes_tgs_reply client) result (request, asked) lent asks is_sent

    pub tgs_replied : (reply : Made) (shown : Bytes) → Answer tgs_call rows lent (Ok reply) → shown ≡ reply.items → TgsTake client asked shown result → TgsExchange client realm rows login granting result
    unfolding TgsAsk Answer TgsTake TgsExchange
    tgs_replied = replied asks_tgs tgs_call rows (takes_tgs_reply client) result (request, asked) lent asks is_sent

module _ (client : ClientRecord) (means : MeansRecord) (realm : RealmRecord) (rows : PkinitRows) (login : LoginRecord) (result : Result CredentialRecord LoginRefusal) where
  -- the TGS exchange by the ticket of the AS exchange
  pub exchanged : (granting : CredentialRecord) → AsExchange client means realm rows login (Ok granting) → TgsExchange client realm rows login granting result
      → Exchanges client means realm rows login result
  unfolding Exchanges
  exchanged granting first further = inl (granting, first, further)

  -- there is no such ticket
  pub not_exchanged : (refusal : LoginRefusal) → AsExchange client means realm rows login (Err refusal) → result ≡ Err refusal → Exchanges client means realm rows login result
  unfolding Exchanges
  not_exchanged refusal first same = inr (refusal, first, same)
