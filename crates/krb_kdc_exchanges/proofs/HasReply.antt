-- A call to a realm has a reply: each part of its table has an outcome.
use Rattle.std.proofs.Common.{◌≡◌, ◌<◌, ℕ, ◌/◌, ◌%◌, ◌^◌, List, length, Option, None, Some, Result, Ok, Err, subst, arith}
use Rattle.asn1_der.specs.Tree.{der, wrapped}
use Rattle.asn1_leaves.specs.declared.date.GeneralizedTime.{GeneralizedTime}
use Rattle.block_ciphers.specs.Bytes.{IsBytes}
use Rattle.krb_time.specs.Moment.{IsMoment}
use Rattle.krb_realm_accounts.specs.Account.{AccountRecord}
use Rattle.krb_realm_accounts.specs.Accounts.{Look}
use Rattle.krb_kdc_exchanges.specs.Rows.{PkinitRows}
use Rattle.krb_messages.specs.Names.{components}
use Rattle.krb_messages.specs.declared.data_types.principal_name.PrincipalName.{PrincipalName}
use Rattle.krb_messages.specs.declared.messages.kdc_req.KdcReq.{KdcReq}
use Rattle.krb_messages.specs.MessageTrees.{kdc_req_inner_tree}
use Rattle.krb_messages.specs.Messages.{IsAsReq, IsTgsReq, sole_as_req, sole_tgs_req}
use Rattle.decision_tables.specs.Some.{HasSome}
use Rattle.decision_tables.specs.Tables.{Table, ask, done}
use Rattle.decision_tables.proofs.Outcomes.{HasOutcome, has_asked, has_done, has_made, some_of}
use Rattle.krb_kdc_exchanges.specs.AsTable.{as_table}
use Rattle.krb_kdc_exchanges.specs.Call.{CallRecord}
use Rattle.krb_kdc_exchanges.specs.Calls.{IsCall, IsKeyed}
use Rattle.krb_kdc_exchanges.specs.Requests.{account_of, client_of, service_of}
use Rattle.krb_kdc_exchanges.proofs.AsHasOutcome.{has_as_outcome}
use Rattle.krb_kdc_exchanges.proofs.Seconds.{has_time}
use Rattle.krb_kdc_exchanges.proofs.Short.{Fits, IsShort, in_wrapped}
use Rattle.krb_kdc_exchanges.specs.TgsTable.{tgs_table}
use Rattle.krb_kdc_exchanges.proofs.TgsHasOutcome.{has_tgs_outcome}
use Rattle.krb_kdc_exchanges.specs.Errors.{error_bytes}
use Rattle.krb_time.specs.SecondOf.{IsSecondOf, sole_second}
use Rattle.krb_kdc_exchanges.specs.Replies.{Replies, answered, as_reply, e_data_of, named_service, reply_of, tgs_reply}

has_told : (call : CallRecord) (e_data : ℕ → Option (List ℕ)) (request : KdcReq) → IsMoment call.moment → (r : Result (List ℕ) ℕ) → HasOutcome (reply_of call e_data request r)
has_told call e_data request in_time (Ok bytes) = has_done (Some bytes)
has_told call e_data request in_time (Err code) =
    let time = has_time (call.moment / 1000000) (omega arith) in
    let bytes : GeneralizedTime → List ℕ = λ time. error_bytes call.realm time (call.moment % 1000000) (named_service call.realm (service_of request.req_body.0)) code (e_data code) in
    let rest : GeneralizedTime → Table (Option (List ℕ)) = λ time. done (Some (bytes time)) in
    has_made (IsSecondOf call.moment) (sole_second call.moment) rest (some_of (IsSecondOf call.moment) time.0 time.1) (λ found x. has_done (Some (bytes found)))

has_answered : (call : CallRecord) (e_data : ℕ → Option (List ℕ)) (request : KdcReq) (judged : Table (Result (List ℕ) ℕ)) → IsMoment call.moment → HasOutcome judged
    → HasOutcome (answered call e_data request judged)
has_answered call e_data request judged in_time x = has_made judged.gives judged.one (reply_of call e_data request) x (λ r y. has_told call e_data request in_time r)

-- an account that is looked up is keyed
keyed_of : (look : Look) (name : Option PrincipalName) (account : AccountRecord) → ((these : List (List ℕ)) (found : AccountRecord) → look these ≡ Some found → IsKeyed found)
    → account_of look name ≡ Some account → IsKeyed account
keyed_of look None account keyed e = absurd (cc (e))
keyed_of look (Some name) account keyed e = keyed (components name) account e

-- the tree inside a request's tag is as short as its bytes
request_fits : (first : ℕ) (bytes : List ℕ) (v : KdcReq) → IsBytes bytes → bytes ≡ der (wrapped first (kdc_req_inner_tree v)) → Fits (length bytes) (kdc_req_inner_tree v)
request_fits first bytes v are e =
    let whole : IsShort (length bytes) bytes = record { bytes = are; short = omega arith } in
    in_wrapped (length bytes) first (kdc_req_inner_tree v) (record { written = subst (IsShort (length bytes)) e whole })

module _ (call : CallRecord) (rows : PkinitRows) (bytes : List ℕ) (is : IsCall call) (are : IsBytes bytes) (few : length bytes < 2 ^ 64) where
  has_as_reply : (v : KdcReq) → IsAsReq bytes v → HasOutcome (as_reply call rows (account_of call.look (client_of v.req_body.0)) (account_of call.look (service_of v.req_body.0)) v)
  has_as_reply v found =
      let of_client = account_of call.look (client_of v.req_body.0) in
      let of_service = account_of call.look (service_of v.req_body.0) in
      has_answered call (e_data_of rows.offered of_client) v (as_table call rows of_client of_service v) is.in_time
      (has_as_outcome call rows of_client of_service v is (length bytes) few (request_fits 106 bytes v are found.1)
      (λ client e. keyed_of call.look (client_of v.req_body.0) client is.keyed e)
      (λ service e. keyed_of call.look (service_of v.req_body.0) service is.keyed e))

  has_tgs_reply : (v : KdcReq) → IsTgsReq bytes v → HasOutcome (tgs_reply call v)
  has_tgs_reply v found =
      has_answered call (λ code. None) v (tgs_table call v) is.in_time (has_tgs_outcome call v is (length bytes) few (request_fits 108 bytes v are found.1))

pub has_reply : (call : CallRecord) (rows : PkinitRows) (request : List ℕ) → IsCall call → IsBytes request → length request < 2 ^ 64 → HasSome (Replies call rows request)
unfolding Replies
has_reply call rows request is are few =
    let none : Table (Option (List ℕ)) = done None in
    let by_as : KdcReq → Table (Option (List ℕ)) = λ v. as_reply call rows (account_of call.look (client_of v.req_body.0)) (account_of call.look (service_of v.req_body.0)) v in
    let other : Table (Option (List ℕ)) = ask (IsTgsReq request) (sole_tgs_req request) none (tgs_reply call) in
    has_asked (IsAsReq request) (sole_as_req request) other by_as
    (has_asked (IsTgsReq request) (sole_tgs_req request) none (tgs_reply call) (has_done None) (has_tgs_reply call rows request is are few))
    (has_as_reply call rows request is are few)
