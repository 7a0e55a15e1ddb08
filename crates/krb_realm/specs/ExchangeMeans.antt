-- A client's means that have padata for honest exchanges alone.
use Rattle.std.specs.Prelude.{ℕ}
use Rattle.picky_asn1.specs.Bytes.{Bytes}
use Rattle.krb_time.specs.Units.{Micros}
use Rattle.krb_messages.specs.RandomBytes.{Random}
use Rattle.krb_kdc_exchanges.specs.Call.{CallRecord, pkinit_call}
use Rattle.krb_client.specs.Client.{ClientRecord}
use Rattle.krb_client.specs.Means.{MeansRecord}
use Rattle.x509_keys.specs.KeyFunctions.{KeysRecord}
use Rattle.pkinit_validation.specs.Anchors.{AnchorRecord}
use Rattle.pkinit_validation.specs.Trust.{TrustRecord}
use Rattle.krb_client.specs.Asked.{agreement_part}
use Rattle.pkinit_clients.specs.Asked.{PkinitAskedRecord}
use Rattle.pkinit_clients.specs.Means.{IsPkinitPadata, reply_key, sole_pkinit_padata}
use Rattle.krb_realm.specs.Exchange.{IsExchangeMet, IsHonestExchange}

-- what a client remembers of a request with this nonce, at the moment
abbrev pub asked_at : ClientRecord → AnchorRecord → ℕ → Micros → Random → PkinitAskedRecord
asked_at client anchor nonce moment words = record {
  realm = client.realm;
  anchor = anchor;
  moment = moment;
  nonce = nonce;
  words = agreement_part words;
}

-- the padata PA-PK-AS-REQ, where the exchange with this realm is honest; no request is refused where the premise of such an exchange is met
abbrev pub exchange_means : ClientRecord → Bytes → AnchorRecord → KeysRecord → CallRecord → TrustRecord → KeysRecord → ℕ → MeansRecord
exchange_means client certificate anchor keys call trust realm_keys nonce = record {
  asks = λ body moment words padata. IsPkinitPadata keys certificate body moment words padata
      × IsHonestExchange keys certificate trust realm_keys (pkinit_call call client.components body) (asked_at client anchor nonce moment words);
  sole_asks = λ body moment words a b x y. sole_pkinit_padata keys certificate body moment words a b x.0 y.0;
  refuses = λ body moment words. IsExchangeMet keys certificate trust realm_keys (pkinit_call call client.components body) (asked_at client anchor nonce moment words) → ⊥;
  reply_key = reply_key keys anchor;
}
