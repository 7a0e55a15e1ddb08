-- How a client with algorithm agility authenticates itself by certificate (RFC 4556, sections 3.2.1 and 3.2.4; RFC 8636, section 6).
use Rattle.std.specs.Prelude.{◌≡◌, Option, Result, Ok, Err}
use Rattle.std.proofs.Common.{ap, sym, ◌∙◌}
use Rattle.picky_asn1.specs.Bytes.{Bytes}
use Rattle.krb_time.specs.Units.{Micros}
use Rattle.krb_constants.specs.declared.padata_types.TheConstants.{PA_PK_AS_REQ}
use Rattle.krb_crypto.specs.Keys.{KeyRecord}
use Rattle.krb_messages.specs.Messages.{IsAsReq, sole_as_req}
use Rattle.krb_messages.specs.RandomBytes.{Random}
use Rattle.krb_messages.specs.declared.data_types.pa_data.PaData.{PaData}
use Rattle.krb_messages.specs.declared.messages.kdc_rep.KdcRep.{KdcRep}
use Rattle.krb_messages.specs.declared.messages.kdc_req.KdcReq.{KdcReq}
use Rattle.krb_messages.specs.declared.messages.kdc_req_body.KdcReqBody.{KdcReqBody}
use Rattle.krb_client.specs.Asked.{AsAskedRecord, agreement_part}
use Rattle.krb_client.specs.Client.{ClientRecord}
use Rattle.krb_client.specs.Means.{MeansRecord}
use Rattle.krb_client.specs.declared.refusal.TakeRefusal.{TakeRefusal}
use Rattle.krb_client.specs.declared.refusal.TakeRefusal.TheVariants.{NotTrusted}
use Rattle.krb_tickets.specs.MethodData.{pa_data_of}
use Rattle.krb_kdc_exchanges.specs.AgreedKeys.{key_by}
use Rattle.krb_kdc_exchanges.specs.Requests.{body_of, client_of, service_of}
use Rattle.decision_tables.specs.Tables.{Table, and_then_told, ask, done, need}
use Rattle.x509_keys.specs.KeyFunctions.{KeysRecord}
use Rattle.pkinit_messages.specs.Contexts.{ContextRecord}
use Rattle.pkinit_validation.specs.Anchors.{AnchorRecord}
use Rattle.pkinit_clients.specs.AgileReplies.{Found, agile_secret}
use Rattle.pkinit_clients.specs.AgileRequests.{IsAgileRequest, IsNoAgileRequest, sole_agile_request}
use Rattle.pkinit_clients.specs.Means.{pk_as_rep_in, pkinit_asked}

-- The padata of a request has the type PA-PK-AS-REQ. Its padata-value is a PA-PK-AS-REQ with the client's lists, for this body, at the
-- moment.
pub record IsAgilePadata (keys : KeysRecord) (certificate : Bytes) (body : KdcReqBody) (moment : Micros) (words : Random) (padata : PaData) : Type 0 where
  pub value : Bytes
  pub is_request : IsAgileRequest keys certificate body moment (agreement_part words) value
  pub made : padata ≡ pa_data_of PA_PK_AS_REQ value

pub sole_agile_padata : (keys : KeysRecord) (certificate : Bytes) (body : KdcReqBody) (moment : Micros) (words : Random) (a b : PaData)
    → IsAgilePadata keys certificate body moment words a → IsAgilePadata keys certificate body moment words b → a ≡ b
sole_agile_padata keys certificate body moment words a b x y =
    x.made ∙ ap (pa_data_of PA_PK_AS_REQ) (sole_agile_request keys certificate body moment (agreement_part words) x.value y.value x.is_request y.is_request) ∙ sym y.made

-- the client has no padata PA-PK-AS-REQ
abbrev pub IsNoAgilePadata : KeysRecord → Bytes → KdcReqBody → Micros → Random → Type 0
IsNoAgilePadata keys certificate body moment words = IsNoAgileRequest keys certificate body moment (agreement_part words)

-- what the reply key is derived for: the client's realm, the names of its request, the request, and PA-PK-AS-REP (RFC 8636, section 6)
abbrev pub asked_context : ClientRecord → KdcReq → Bytes → Bytes → ContextRecord
asked_context client request as_req padata = record {
  realm = client.realm;
  client = client_of (body_of request);
  service = service_of (body_of request);
  as_req = as_req;
  pk_as_rep = padata;
}

-- the reply key by what was found, where the bytes are the client's AS request
abbrev pub found_key : ClientRecord → Bytes → Bytes → Found → Table (Result KeyRecord TakeRefusal)
found_key client as_req padata found =
    -- The client's request is an AS-REQ (RFC 4120, section 5.4.1). No test: a client takes replies to its own requests.
    ask (IsAsReq as_req) (sole_as_req as_req) (done (Err NotTrusted)) (λ request.
    done (Ok (record { suite = client.suite; bytes = key_by client.suite found.1 found.0 (asked_context client request as_req padata) })))

-- the reply key of the padata-value of PA-PK-AS-REP
abbrev pub agile_key_in : KeysRecord → AnchorRecord → ClientRecord → AsAskedRecord → Bytes → Bytes → Table (Result KeyRecord TakeRefusal)
agile_key_in keys anchor client asked as_req padata =
    and_then_told (λ fault. NotTrusted) (agile_secret keys (pkinit_asked anchor client asked) padata) (found_key client as_req padata)

-- Judges an AS-REP by its padata PA-PK-AS-REP, and makes the reply key.
abbrev pub agile_reply_key : KeysRecord → AnchorRecord → Bytes → ClientRecord → AsAskedRecord → KdcRep → Table (Result KeyRecord TakeRefusal)
agile_reply_key keys anchor as_req client asked reply =
    -- The AS-REP has padata of the type PA-PK-AS-REP, of which the first counts (RFC 4556, section 3.2.4).
    -- Test: `no padata`.
    need (pk_as_rep_in reply) NotTrusted (agile_key_in keys anchor client asked as_req)

-- the means of a client with this certificate, this anchor for the realm's certificate, and these key functions; replies are taken as
-- those to this AS request
abbrev pub by_agile_certificate : Bytes → AnchorRecord → KeysRecord → Bytes → MeansRecord
by_agile_certificate certificate anchor keys as_req = record {
  asks = IsAgilePadata keys certificate;
  sole_asks = sole_agile_padata keys certificate;
  refuses = IsNoAgilePadata keys certificate;
  reply_key = agile_reply_key keys anchor as_req;
}
