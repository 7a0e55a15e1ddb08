-- What a client remembers of a request by certificate (RFC 4556, section 3.2.4).
use Rattle.std.specs.Prelude.{ℕ}
use Rattle.picky_asn1.specs.Bytes.{Bytes}
use Rattle.krb_time.specs.Units.{Micros}
use Rattle.krb_messages.specs.TicketGranting.{krbtgt_of}
use Rattle.pkinit_validation.specs.Anchors.{AnchorRecord}
use Rattle.pkinit_validation.specs.Expected.{ExpectedRecord}
use Rattle.pkinit_clients.specs.declared.asked.PkinitAsked as held

-- the client's realm and its anchor; the moment, the nonce, and the random bytes of the agreement
pub record PkinitAskedRecord : Type 0 where
  pub realm : Bytes
  pub anchor : AnchorRecord
  pub moment : Micros
  pub nonce : ℕ
  pub words : Bytes

-- What a client remembers of a request by certificate, to judge its reply (RFC 4556, section 3.2.4).
abbrev pub asked_of : held.PkinitAsked → PkinitAskedRecord
asked_of asked = record {
  realm = asked.realm.now;
  anchor = asked.anchor.now;
  moment = asked.moment;
  nonce = asked.nonce;
  words = asked.words.now;
}

-- whom the reply is to be signed by: the realm's ticket-granting service, as the anchor has it at the request's moment (RFC 4556,
-- section 3.2.4)
abbrev pub expected_realm : PkinitAskedRecord → ExpectedRecord
expected_realm asked = record { realm = asked.realm; name = krbtgt_of asked.realm; anchor = asked.anchor; moment = asked.moment }
