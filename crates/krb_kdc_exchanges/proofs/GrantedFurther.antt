-- What is granted by an older ticket, in the order of its table.
use Rattle.std.proofs.Common.{◌≡◌, ℕ, Bool, List, Option, None, Some, Result, Ok, Err, refl, subst, inl}
use Rattle.asn1_leaves.specs.declared.date.GeneralizedTime.{GeneralizedTime}
use Rattle.krb_crypto.specs.declared.suite.CipherSuite.{CipherSuite}
use Rattle.krb_realm_accounts.specs.Account.{AccountRecord}
use Rattle.krb_messages.specs.declared.data_types.enc_ticket_part.EncTicketPartInner.{EncTicketPartInner}
use Rattle.krb_messages.specs.declared.data_types.principal_name.PrincipalName.{PrincipalName}
use Rattle.krb_messages.specs.Refusals.{IsJudged}
use Rattle.krb_messages.specs.declared.messages.kdc_req_body.KdcReqBody.{KdcReqBody}
use Rattle.krb_messages.specs.declared.refusal.Refusal.{Refusal}
use Rattle.decision_tables.specs.Tables.{Table, need}
use Rattle.krb_tickets.specs.Grant.{GrantRecord}
use Rattle.krb_tickets.specs.ReplyKeys.{ReplyKeyRecord}
use Rattle.krb_tickets.specs.Granted.{IsTicketReply}
use Rattle.krb_ap_requests.specs.declared.presented.Authenticated.{Authenticated}
use Rattle.krb_kdc_exchanges.specs.Allowed.{limited}
use Rattle.krb_kdc_exchanges.specs.Call.{CallRecord}
use Rattle.krb_kdc_exchanges.specs.Granting.{IsGranted}
use Rattle.krb_kdc_exchanges.specs.Renewals.{IsTill}
use Rattle.krb_kdc_exchanges.specs.declared.span.Span.{Span}
use Rattle.krb_kdc_exchanges.specs.TgsTable.{first_granted, further_grant, further_in, further_lasting, further_replied, further_till, reply_key, subkey_in, without_des3}
use Rattle.krb_kdc_exchanges.proofs.Parts.{grant_refused}

-- the ticket would end where it starts, or earlier
pub not_lasting : (renews : Bool) (call : CallRecord) (part : EncTicketPartInner) (authenticated : Authenticated) (service_name : PrincipalName) (service : AccountRecord) (body : KdcReqBody) (e : Refusal)
    → IsJudged (further_lasting renews (limited service call.settings.lifetime) call.moment part body).gives (Err e) → IsGranted (further_in renews call part authenticated service_name service body).gives (Err e)
not_lasting renews call part authenticated service_name service body e x =
    let keyed : Option ReplyKeyRecord = reply_key authenticated.suite part.key.0.key_value.0 (subkey_in authenticated.authenticator) in
    let to_seal : Span → CipherSuite → ReplyKeyRecord → Table (Result (List ℕ) ℕ) =
    λ span suite under. further_replied call part service_name service suite under (further_till renews call.settings.policy.renewable_life part span body) body span in
    let to_key : Span → CipherSuite → Table (Result (List ℕ) ℕ) = λ span suite. need keyed 31 (to_seal span suite) in
    let to_suite : Span → Table (Result (List ℕ) ℕ) = λ span. need (first_granted (without_des3 call part service) body.etype.0) 14 (to_key span) in
    grant_refused (further_lasting renews (limited service call.settings.lifetime) call.moment part body) to_suite e x

module _ (renews : Bool) (call : CallRecord) (part : EncTicketPartInner) (authenticated : Authenticated) (service_name : PrincipalName) (service : AccountRecord) (body : KdcReqBody) (span : Span)
    (lasts : (further_lasting renews (limited service call.settings.lifetime) call.moment part body).gives (Ok span)) where
  abbrev first : Option CipherSuite
  first = first_granted (without_des3 call part service) body.etype.0

  abbrev pub key : Option ReplyKeyRecord
  key = reply_key authenticated.suite part.key.0.key_value.0 (subkey_in authenticated.authenticator)

  -- the renew-till that the ticket is to have
  abbrev pub wanted : Option ℕ
  wanted = further_till renews call.settings.policy.renewable_life part span body

  abbrev to_seal : CipherSuite → ReplyKeyRecord → Table (Result (List ℕ) ℕ)
  to_seal suite under = further_replied call part service_name service suite under wanted body span

  abbrev to_key : CipherSuite → Table (Result (List ℕ) ℕ)
  to_key suite = need key 31 (to_seal suite)

  abbrev pub answers : Result (List ℕ) ℕ → Type 0
  answers r = (further_in renews call part authenticated service_name service body).gives r

  -- no suite of the client's is known
  pub no_suite : None ≡ first → answers (Err 14)
  no_suite none = inl (span, lasts, subst (λ o. (need o 14 to_key).gives (Err 14)) none refl)

  -- the subkey is of no suite
  pub no_key : (suite : CipherSuite) → Some suite ≡ first → None ≡ key → answers (Err 31)
  no_key suite some none =
      inl (span, lasts, subst (λ o. (need o 14 to_key).gives (Err 31)) some (subst (λ k. (need k 31 (to_seal suite)).gives (Err 31)) none refl))

  pub given : (suite : CipherSuite) (under : ReplyKeyRecord) (till : Option GeneralizedTime) (ticket : GrantRecord) (bytes : List ℕ) → Some suite ≡ first → Some under ≡ key → IsTill wanted till
      → ticket ≡ further_grant call part service_name suite body span till → IsTicketReply ticket under service call.words bytes → answers (Ok bytes)
  given suite under till ticket bytes some keyed is same reply =
      let own = subst (λ g. IsTicketReply g under service call.words bytes) same reply in
      inl (span, lasts, subst (λ o. (need o 14 to_key).gives (Ok bytes)) some (subst (λ k. (need k 31 (to_seal suite)).gives (Ok bytes)) keyed (till, is, (bytes, own, refl))))
