-- A reply by the few is a reply by all.
use Rattle.std.proofs.Common.{◌≡◌, ℕ, List, Option, None, Some, Result, Ok, Err, refl, sym, ap, subst, inl, inr, ◌∙◌}
use Rattle.std.specs.Prelude.{Vec}
use Rattle.std.specs.Global.{Global}
use Rattle.krb_realm_accounts.specs.Accounts.{AccountMap, Look, look_in}
use Rattle.krb_messages.specs.declared.messages.kdc_req.KdcReq.{KdcReq}
use Rattle.krb_messages.specs.Messages.{IsAsReq, IsTgsReq}
use Rattle.krb_kdc_exchanges.specs.Call.{CallRecord}
use Rattle.krb_kdc_exchanges.specs.Requests.{account_of, body_of, client_of, service_of}
use Rattle.krb_messages.specs.Padata.{padata_in}
use Rattle.krb_kdc_exchanges.specs.Rows.{PkinitRows}
use Rattle.krb_messages.specs.TicketGranting.{krbtgt_of}
use Rattle.krb_kdc_exchanges.specs.Replies.{Replies, as_reply, tgs_reply}
use Rattle.krb_kdc_exchanges.specs.ByTicket.{IsInvolvedFurther}
use Rattle.krb_kdc_exchanges.proofs.TgsInvolved.{same_further}
use Rattle.krb_messages.specs.Names.{components}
use Rattle.krb_messages.specs.declared.data_types.principal_name.PrincipalName.{PrincipalName}
use Rattle.krb_kdc.specs.declared.call.LookupCall.{LookupCall}
use Rattle.krb_kdc.specs.declared.fault.LookupRefusal.{LookupRefusal}
use Rattle.krb_kdc.specs.declared.fault.LookupRefusal.TheVariants.{Unreadable, Fault}
use Rattle.krb_kdc.specs.Answers.{IsAnswerBy}
use Rattle.krb_kdc.specs.Calls.{call_with}
use Rattle.krb_kdc.specs.Few.{Knows}
use Rattle.krb_kdc.specs.Involved.{KnowsFurther, KnowsNamed}
use Rattle.krb_kdc.specs.Sources.{RepliesBy, as_reply_by}
use Rattle.krb_kdc.specs.Tickets.{IsTgsReqTicket}

named_account : (all : Look) (few : AccountMap) (name : Option PrincipalName) → KnowsNamed all few name → account_of (look_in few) name ≡ account_of all name
named_account all few None knows = refl
named_account all few (Some name) knows = knows

module _ (given : LookupCall) (all : Look) (few : AccountMap) where
  abbrev small : CallRecord
  small = call_with given (look_in few)

  abbrev whole : CallRecord
  whole = call_with given all

  -- an AS request
  pub as_replied : (rows : PkinitRows) (own : CallRecord) → own ≡ small → (reply : List ℕ) (asked : KdcReq)
      → KnowsNamed all few (client_of (body_of asked)) → KnowsNamed all few (service_of (body_of asked))
      → (as_reply_by own rows asked).gives (Some reply) → (as_reply_by whole rows asked).gives (Some reply)
  as_replied rows own same reply asked client service x =
      let own_reply : (as_reply_by small rows asked).gives (Some reply) = subst (λ call. (as_reply_by call rows asked).gives (Some reply)) same x in
      subst (λ s. (as_reply small rows (account_of all (client_of (body_of asked))) s asked).gives (Some reply)) (named_account all few (service_of (body_of asked)) service)
      (subst (λ c. (as_reply small rows c (account_of (look_in few) (service_of (body_of asked))) asked).gives (Some reply)) (named_account all few (client_of (body_of asked)) client) own_reply)

  -- a TGS request: the few have the accounts that it involves
  knows_further : (asked : KdcReq) → KnowsFurther all few (krbtgt_of given.realm.now) asked → (these : List (List ℕ)) → IsInvolvedFurther small asked these → look_in few these ≡ all these
  knows_further asked knows these (inl is) = ap (look_in few) is ∙ knows.granting ∙ sym (ap all is)
  knows_further asked knows these (inr (inl (name, named, is))) =
      let own : Knows all few (components name) = subst (KnowsNamed all few) named knows.service in
      ap (look_in few) is ∙ own ∙ sym (ap all is)
  knows_further asked knows these (inr (inr (ap_req, part, by, is))) =
      let ticket : IsTgsReqTicket few (krbtgt_of given.realm.now) (padata_in asked) part =
      record { value = by.value; ap_req = ap_req; account = by.granting; first = by.first; read = by.read; has = by.account; opens = by.opens } in
      ap (look_in few) is ∙ knows.client part ticket ∙ sym (ap all is)

  further_replied : (asked : KdcReq) → KnowsFurther all few (krbtgt_of given.realm.now) asked → (reply : Option (List ℕ)) → (tgs_reply small asked).gives reply
      → (tgs_reply whole asked).gives reply
  further_replied asked knows reply (Ok bytes, judged, told) = (Ok bytes, same_further small all asked (knows_further asked knows) (Ok bytes) judged, told)
  further_replied asked knows reply (Err code, judged, told) = (Err code, same_further small all asked (knows_further asked knows) (Err code) judged, told)

  pub tgs_replied : (own : CallRecord) → own ≡ small → (reply : List ℕ) (asked : KdcReq) → KnowsFurther all few (krbtgt_of given.realm.now) asked
      → (tgs_reply own asked).gives (Some reply) → (tgs_reply whole asked).gives (Some reply)
  tgs_replied own same reply asked knows x = further_replied asked knows (Some reply) (subst (λ call. (tgs_reply call asked).gives (Some reply)) same x)

-- a reply by the few is one by some accounts
module _ (given : LookupCall) (few : AccountMap) (own : CallRecord) (same : own ≡ call_with given (look_in few)) (asked : KdcReq) (reply : List ℕ) where
  pub as_by_few : (rows : PkinitRows) → (as_reply_by own rows asked).gives (Some reply) → (as_reply_by (call_with given (look_in few)) rows asked).gives (Some reply)
  as_by_few rows x = subst (λ call. (as_reply_by call rows asked).gives (Some reply)) same x

  pub tgs_by_few : (tgs_reply own asked).gives (Some reply) → (tgs_reply (call_with given (look_in few)) asked).gives (Some reply)
  tgs_by_few x = subst (λ call. (tgs_reply call asked).gives (Some reply)) same x

-- the reply to the message, by what is given for the request that it is
module _ {P : Type 0} (rows : P → PkinitRows) (gives : KdcReq → P → Type 0) (call : CallRecord) (message : List ℕ) where
  pub by_given : (asked : KdcReq) (reply : List ℕ) → IsAsReq message asked → (pkinit : P) × gives asked pkinit × (as_reply_by call (rows pkinit) asked).gives (Some reply)
      → RepliesBy rows gives call message (Some reply)
  unfolding Replies
  by_given asked reply read (pkinit, is, x) = inl (asked, read, (pkinit, is, inl (asked, read, x)))

  pub by_tgs : (asked : KdcReq) (reply : List ℕ) → ((other : KdcReq) → IsAsReq message other → ⊥) → IsTgsReq message asked → (tgs_reply call asked).gives (Some reply)
      → RepliesBy rows gives call message (Some reply)
  by_tgs asked reply none read x = inr (none, inl (asked, read, x))

  pub unread : ((other : KdcReq) → IsAsReq message other → ⊥) → ((other : KdcReq) → IsTgsReq message other → ⊥) → RepliesBy rows gives call message None
  unread none neither = inr (none, inr (neither, refl))

-- the reply where the same is given for each request
module _ {P : Type 0} (rows : P → PkinitRows) (own : P) (call : CallRecord) (message : List ℕ) where
  abbrev same : KdcReq → P → Type 0
  same request given = given ≡ own

  by_own : (reply : Option (List ℕ)) → RepliesBy rows same call message reply → Replies call (rows own) message reply
  unfolding Replies
  by_own reply (inl (request, read, (given, is, x))) = subst (λ (p : P). Replies call (rows p) message reply) is x
  by_own reply (inr (none, further)) = inr (none, further)

  pub always : (result : Result (Vec ℕ Global) LookupRefusal) → IsAnswerBy (RepliesBy rows same call message) result → IsAnswerBy (Replies call (rows own) message) result
  always (Ok reply) is = by_own (Some reply.items) is
  always (Err Unreadable) is = by_own None is
  always (Err (Fault fault)) is = tt
