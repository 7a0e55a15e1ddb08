-- The reply to a request that isn't by certificate depends on whether logins by certificate are offered, and on nothing more of them.
use Rattle.std.proofs.Common.{◌≡◌, Bool, Option, None, Some, Result, sym, inl, inr, refl, subst, ◌∙◌}
use Rattle.std.specs.Prelude.{true, false}
use Rattle.std.specs.Option.{is_some}
use Rattle.krb_messages.specs.Messages.{IsAsReq, sole_as_req}
use Rattle.picky_asn1.specs.Bytes.{Bytes}
use Rattle.krb_realm_accounts.specs.Account.{AccountRecord}
use Rattle.krb_kdc_exchanges.specs.Allowed.{first_allowed, lifetime_of}
use Rattle.krb_kdc_exchanges.specs.AsTable.{as_table, authenticated_by, possible}
use Rattle.krb_kdc_exchanges.specs.Grants.{granted}
use Rattle.krb_constants.specs.declared.error_codes.TheConstants.{KDC_ERR_C_PRINCIPAL_UNKNOWN, KDC_ERR_S_PRINCIPAL_UNKNOWN}
use Rattle.krb_constants.specs.declared.padata_types.TheConstants.{PA_PK_AS_REQ}
use Rattle.krb_constants.specs.declared.types.TheConstants.{AS_REQ_MSG_TYPE}
use Rattle.decision_tables.specs.Tables.{Table, and_then, need}
use Rattle.krb_kdc_exchanges.specs.Call.{CallRecord}
use Rattle.krb_kdc_exchanges.specs.Requests.{account_of, body_of, client_of, has_refused_option, header_rows, service_of}
use Rattle.krb_messages.specs.Padata.{padata_in}
use Rattle.krb_messages.specs.declared.messages.kdc_req.KdcReq.{KdcReq}
use Rattle.krb_kdc_exchanges.specs.Replies.{Replies, answered, as_reply, e_data_of}
use Rattle.krb_messages.specs.Padata.{first_of}
use Rattle.krb_messages.specs.Names.{components}
use Rattle.krb_messages.specs.Refusals.{Code}
use Rattle.krb_kdc_exchanges.specs.Rows.{PkinitRows}

-- A request without PA-PK-AS-REQ has none that is the first.
pub none_first : (first : Option Bytes) (has : Bool) → has ≡ is_some first → has ≡ false → first ≡ None
none_first None has told none = refl
none_first (Some padata) has told none = absurd (cc (told, none))

-- The table of an AS request whose first PA-PK-AS-REQ is this, if it has one.
abbrev table_by : CallRecord → PkinitRows → Option AccountRecord → Option AccountRecord → KdcReq → Option Bytes → Table (Result Bytes Code)
table_by call rows of_client of_service request first =
    and_then (header_rows AS_REQ_MSG_TYPE call.realm (has_refused_option (body_of request).kdc_options.0) request) (λ _.
    need (client_of (body_of request)) KDC_ERR_C_PRINCIPAL_UNKNOWN (λ client_name.
    need of_client KDC_ERR_C_PRINCIPAL_UNKNOWN (λ client.
    need (service_of (body_of request)) KDC_ERR_S_PRINCIPAL_UNKNOWN (λ service_name.
    need of_service KDC_ERR_S_PRINCIPAL_UNKNOWN (λ service.
    and_then (first_allowed call.moment (record { client_name = client_name; client = client; service_name = service_name; service = service })) (λ _.
    and_then (possible call (lifetime_of call.settings.lifetime client service) client.suite (body_of request)) (λ span.
    and_then (authenticated_by call rows client (components client_name) request first) (λ under.
    granted call (record { client_name = client_name; client = client; service_name = service_name; service = service }) under span (body_of request)))))))))

module _ (call : CallRecord) (rows other : PkinitRows) (of_client of_service : Option AccountRecord) (request : KdcReq) (reply : Option Bytes) where
  by_first : (first : Option Bytes) → first ≡ None → (e_data : Code → Option Bytes) → (answered call e_data request (table_by call rows of_client of_service request first)).gives reply
      → (answered call e_data request (table_by call other of_client of_service request first)).gives reply
  by_first None none e_data gives = gives
  by_first (Some padata) none e_data gives = absurd (cc (none))

  as_unasked : first_of PA_PK_AS_REQ (padata_in request) ≡ None → rows.offered ≡ other.offered → (as_reply call rows of_client of_service request).gives reply
      → (as_reply call other of_client of_service request).gives reply
  as_unasked none offered gives =
      let P : Bool → Type 0 = λ is. (answered call (e_data_of is of_client) request (as_table call other of_client of_service request)).gives reply in
      subst P offered (by_first (first_of PA_PK_AS_REQ (padata_in request)) none (e_data_of rows.offered of_client) gives)

pub unasked : (call : CallRecord) (rows other : PkinitRows) (message : Bytes) (request : KdcReq) (reply : Option Bytes) → rows.offered ≡ other.offered → IsAsReq message request
    → first_of PA_PK_AS_REQ (padata_in request) ≡ None → Replies call rows message reply → Replies call other message reply
unfolding Replies
unasked call rows other message request reply offered read none (inl (asked, is, gives)) =
    let unasked_too : first_of PA_PK_AS_REQ (padata_in asked) ≡ None = subst (λ (r : KdcReq). first_of PA_PK_AS_REQ (padata_in r) ≡ None) (sole_as_req message request asked read is) none in
    inl (asked, is, as_unasked call rows other (account_of call.look (client_of (body_of asked))) (account_of call.look (service_of (body_of asked))) asked reply unasked_too offered gives)
unasked call rows other message request reply offered read none (inr further) = inr further
