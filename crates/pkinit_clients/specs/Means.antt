-- How a client authenticates itself by certificate (RFC 4556, sections 3.2.1 and 3.2.4).
use Rattle.std.specs.Prelude.{◌≡◌, [], Option, Result, Ok}
use Rattle.std.specs.Option.{option_map_or}
use Rattle.std.proofs.Common.{ap, sym, ◌∙◌}
use Rattle.picky_asn1.specs.Bytes.{Bytes}
use Rattle.krb_time.specs.Units.{Micros}
use Rattle.krb_constants.specs.declared.padata_types.TheConstants.{PA_PK_AS_REP, PA_PK_AS_REQ}
use Rattle.krb_messages.specs.RandomBytes.{Random}
use Rattle.krb_messages.specs.declared.data_types.pa_data.PaData.{PaData}
use Rattle.krb_messages.specs.declared.messages.kdc_rep.KdcRep.{KdcRep}
use Rattle.krb_messages.specs.declared.messages.kdc_req_body.KdcReqBody.{KdcReqBody}
use Rattle.krb_crypto.specs.Keys.{KeyRecord}
use Rattle.krb_crypto.specs.AgreedKeys.{agreed_key}
use Rattle.krb_messages.specs.Padata.{first_of}
use Rattle.krb_client.specs.Asked.{AsAskedRecord, agreement_part}
use Rattle.krb_client.specs.Client.{ClientRecord}
use Rattle.krb_client.specs.Means.{MeansRecord}
use Rattle.krb_tickets.specs.MethodData.{pa_data_of}
use Rattle.krb_client.specs.declared.refusal.TakeRefusal.{TakeRefusal}
use Rattle.krb_client.specs.declared.refusal.TakeRefusal.TheVariants.{NotTrusted}
use Rattle.decision_tables.specs.Tables.{Table, and_then_told, done, need}
use Rattle.x509_keys.specs.KeyFunctions.{KeysRecord}
use Rattle.pkinit_validation.specs.Anchors.{AnchorRecord}
use Rattle.pkinit_clients.specs.Asked.{PkinitAskedRecord}
use Rattle.pkinit_clients.specs.Replies.{secret_of}
use Rattle.pkinit_clients.specs.Requests.{IsNoPkAsReq, IsPkAsReqOf, sole_pk_as_req}

-- The padata of a request has the type PA-PK-AS-REQ. Its padata-value is a PA-PK-AS-REQ for this body, at the moment (RFC 4556,
-- sections 3.1.3 and 3.2.1). Test: `a@R for h, test` of `pkinit_steps.txt`.
pub record IsPkinitPadata (keys : KeysRecord) (certificate : Bytes) (body : KdcReqBody) (moment : Micros) (words : Random) (padata : PaData) : Type 0 where
  pub value : Bytes
  pub is_request : IsPkAsReqOf keys certificate body moment (agreement_part words) value
  pub made : padata ≡ pa_data_of PA_PK_AS_REQ value

pub sole_pkinit_padata : (keys : KeysRecord) (certificate : Bytes) (body : KdcReqBody) (moment : Micros) (words : Random) (a b : PaData)
    → IsPkinitPadata keys certificate body moment words a → IsPkinitPadata keys certificate body moment words b → a ≡ b
sole_pkinit_padata keys certificate body moment words a b x y =
    x.made ∙ ap (pa_data_of PA_PK_AS_REQ) (sole_pk_as_req keys certificate body moment (agreement_part words) x.value y.value x.is_request y.is_request) ∙ sym y.made

-- the client has no padata PA-PK-AS-REQ
abbrev pub IsNoPkinitPadata : KeysRecord → Bytes → KdcReqBody → Micros → Random → Type 0
IsNoPkinitPadata keys certificate body moment words = IsNoPkAsReq keys certificate body moment (agreement_part words)

-- the padata-value of the first padata PA-PK-AS-REP of a reply (RFC 4556, section 3.1.3)
abbrev pub pk_as_rep_in : KdcRep → Option Bytes
pk_as_rep_in reply = first_of PA_PK_AS_REP (option_map_or (λ tagged. tagged.0) reply.padata.0 [])

-- what a client with this anchor remembers of what it asked
abbrev pub pkinit_asked : AnchorRecord → ClientRecord → AsAskedRecord → PkinitAskedRecord
pkinit_asked anchor client asked = record {
  realm = client.realm;
  anchor = anchor;
  moment = asked.moment;
  nonce = asked.nonce;
  words = asked.agreement;
}

-- the key of the client's suite that a secret gives (RFC 4556, section 3.2.3.1)
abbrev pub key_by : ClientRecord → Bytes → KeyRecord
key_by client secret = record { suite = client.suite; bytes = agreed_key client.suite secret }

-- the reply key of the secret that the padata-value of PA-PK-AS-REP gives
abbrev pub key_in : KeysRecord → AnchorRecord → ClientRecord → AsAskedRecord → Bytes → Table (Result KeyRecord TakeRefusal)
key_in keys anchor client asked padata =
    and_then_told (λ fault. NotTrusted) (secret_of keys (pkinit_asked anchor client asked) padata) (λ secret.
    done (Ok (key_by client secret)))

-- Judges an AS-REP by its padata PA-PK-AS-REP, and makes the reply key of the secret.
abbrev pub reply_key : KeysRecord → AnchorRecord → ClientRecord → AsAskedRecord → KdcRep → Table (Result KeyRecord TakeRefusal)
reply_key keys anchor client asked reply =
    -- The AS-REP has padata of the type PA-PK-AS-REP, of which the first counts (RFC 4556, section 3.2.4).
    -- Test: `a@R, no padata`, `e@R, a first type 17 that doesn't read` of `pkinit_steps.txt`.
    need (pk_as_rep_in reply) NotTrusted (key_in keys anchor client asked)

-- the means of a client with this certificate, this anchor for the realm's certificate, and these key functions
abbrev pub by_certificate : Bytes → AnchorRecord → KeysRecord → MeansRecord
by_certificate certificate anchor keys = record {
  asks = IsPkinitPadata keys certificate;
  sole_asks = sole_pkinit_padata keys certificate;
  refuses = IsNoPkinitPadata keys certificate;
  reply_key = reply_key keys anchor;
}
