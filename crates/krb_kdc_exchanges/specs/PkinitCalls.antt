-- The call by which a request by certificate is judged, and what client and realm agree on (RFC 4556, section 3.2).
use Rattle.std.specs.Prelude.{Option, Result, Ok, Err, List}
use Rattle.picky_asn1.specs.Bytes.{Bytes}
use Rattle.krb_time.specs.Units.{Micros}
use Rattle.krb_messages.specs.RandomBytes.{Random}
use Rattle.krb_messages.specs.declared.refusal.Refusal.{Refusal}
use Rattle.krb_messages.specs.declared.messages.kdc_req_body.KdcReqBody.{KdcReqBody}
use Rattle.pkinit_messages.specs.declared.agility.kdf.Kdf.{Kdf}
use Rattle.krb_kdc_exchanges.specs.declared.pkinit_call.Agreed as agreed_held
use Rattle.krb_kdc_exchanges.specs.declared.pkinit_call.PkinitCall as held

-- the realm's name and its clock skew; the components of the request's `cname`, and the request's body; the moment, and random
-- bytes
pub record PkinitCallRecord : Type 0 where
  pub realm : Bytes
  pub skew : Micros
  pub client : List Bytes
  pub body : KdcReqBody
  pub moment : Micros
  pub words : Random

-- the call of the code, as definitions see it
abbrev pub call_of : held.PkinitCall → PkinitCallRecord
call_of call = record {
  realm = call.realm.now;
  skew = call.skew;
  client = call.client.now;
  body = call.body.now;
  moment = call.moment;
  words = call.words.now;
}

-- the secret that client and realm share, the key derivation function of RFC 8636 if they agreed on one, and the data of PA-PK-AS-REP
pub record AgreedRecord : Type 0 where
  pub secret : Bytes
  pub kdf : Option Kdf
  pub reply : Bytes

-- the agreement of the code, or its refusal, as definitions see it
abbrev pub agreed_as : Result agreed_held.Agreed Refusal → Result AgreedRecord Refusal
agreed_as (Ok agreed) = Ok (record { secret = agreed.secret.items; kdf = agreed.kdf; reply = agreed.reply.items })
agreed_as (Err refusal) = Err refusal
