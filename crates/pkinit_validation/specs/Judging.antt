-- What a request by certificate is judged by, where there are an anchor and a certificate.
use Rattle.picky_asn1.specs.Bytes.{Bytes}
use Rattle.krb_time.specs.Units.{Micros}
use Rattle.krb_messages.specs.RandomBytes.{Random}
use Rattle.krb_messages.specs.declared.messages.kdc_req_body.KdcReqBody.{KdcReqBody}
use Rattle.krb_kdc_exchanges.specs.PkinitCalls.{PkinitCallRecord}
use Rattle.pkinit_validation.specs.Anchors.{AnchorRecord}
use Rattle.pkinit_validation.specs.Expected.{ExpectedRecord, expected_of}
use Rattle.pkinit_validation.specs.declared.judging.Judging as held

-- the principal that is expected to have signed; the realm's own certificate and its clock skew; the request's body, and random bytes
pub record JudgingRecord : Type 0 where
  pub expected : ExpectedRecord
  pub certificate : Bytes
  pub skew : Micros
  pub body : KdcReqBody
  pub words : Random

-- what a request is judged by, as the program's value holds it
abbrev pub judging_of : held.Judging → JudgingRecord
judging_of judging = record {
  expected = expected_of judging.expected;
  certificate = judging.certificate.now;
  skew = judging.skew;
  body = judging.body.now;
  words = judging.words.now;
}

abbrev pub judging_by : PkinitCallRecord → AnchorRecord → Bytes → JudgingRecord
judging_by call anchor certificate = record {
  expected = record { realm = call.realm; name = call.client; anchor = anchor; moment = call.moment };
  certificate = certificate;
  skew = call.skew;
  body = call.body;
  words = call.words;
}
