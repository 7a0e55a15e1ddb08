-- Why a reply rests on the accounts involved alone.
use Rattle.std.proofs.Common.{◌≡◌, ℕ, List, Option, None, Some, Ok, Err, refl, subst, inl, inr}
use Rattle.krb_messages.specs.declared.messages.kdc_req.KdcReq.{KdcReq}
use Rattle.krb_messages.specs.declared.data_types.principal_name.PrincipalName.{PrincipalName}
use Rattle.krb_realm_accounts.specs.Accounts.{Look}
use Rattle.krb_kdc_exchanges.specs.Rows.{PkinitRows}
use Rattle.krb_messages.specs.Names.{components}
use Rattle.krb_kdc_exchanges.specs.Call.{CallRecord}
use Rattle.krb_kdc_exchanges.specs.Requests.{account_of, client_of, service_of}
use Rattle.krb_kdc_exchanges.specs.ByTicket.{IsInvolvedFurther}
use Rattle.krb_kdc_exchanges.proofs.TgsInvolved.{same_further}
use Rattle.krb_kdc_exchanges.specs.Involved.{IsNamed, IsOfInvolvedAlone}
use Rattle.krb_kdc_exchanges.specs.Replies.{Replies, as_reply, tgs_reply}

same_account : (look other : Look) (name : Option PrincipalName) → ((these : List (List ℕ)) → IsNamed name these → look these ≡ other these)
    → account_of look name ≡ account_of other name
same_account look other None agree = refl
same_account look other (Some given) agree = agree (components given) (given, refl, refl)

-- the reply to an AS request of accounts that are looked up
abbrev looked : CallRecord → PkinitRows → Look → Look → KdcReq → Option (List ℕ) → Type 0
looked call rows of_client of_service v =
    (as_reply call rows (account_of of_client (client_of v.req_body.0)) (account_of of_service (service_of v.req_body.0)) v).gives

same_looked : (call : CallRecord) (rows : PkinitRows) (look other : Look) (v : KdcReq) (reply : Option (List ℕ))
    → account_of look (client_of v.req_body.0) ≡ account_of other (client_of v.req_body.0)
    → account_of look (service_of v.req_body.0) ≡ account_of other (service_of v.req_body.0)
    → looked call rows look look v reply → looked call rows other other v reply
same_looked call rows look other v reply client service given =
    subst (λ s. (as_reply call rows (account_of other (client_of v.req_body.0)) s v).gives reply) service
    (subst (λ c. (as_reply call rows c (account_of look (service_of v.req_body.0)) v).gives reply) client given)

-- and the reply to a TGS request
same_reply : (call : CallRecord) (other : Look) (v : KdcReq) → ((these : List (List ℕ)) → IsInvolvedFurther call v these → call.look these ≡ other these)
    → (reply : Option (List ℕ)) → (tgs_reply call v).gives reply → (tgs_reply (record call { look = other }) v).gives reply
same_reply call other v agree reply (Ok bytes, given, told) = (Ok bytes, same_further call other v agree (Ok bytes) given, told)
same_reply call other v agree reply (Err code, given, told) = (Err code, same_further call other v agree (Err code) given, told)

pub of_involved_alone : (rows : PkinitRows) → IsOfInvolvedAlone rows
unfolding Replies
of_involved_alone rows call other request agree reply (inl (v, found, given)) =
    let client = same_account call.look other (client_of v.req_body.0) (λ these named. agree these (inl (v, found, inl named))) in
    let service = same_account call.look other (service_of v.req_body.0) (λ these named. agree these (inl (v, found, inr named))) in
    inl (v, found, same_looked call rows call.look other v reply client service given)
of_involved_alone rows call other request agree reply (inr (none, inl (v, found, given))) =
    inr (none, inl (v, found, same_reply call other v (λ these involved. agree these (inr (v, found, involved))) reply given))
of_involved_alone rows call other request agree reply (inr (none, inr rest)) = inr (none, inr rest)
