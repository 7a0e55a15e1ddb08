-- The reply key, under which the reply's own part is encrypted (RFC 4120, sections 3.1.3, 3.3.3, 7.5.1).
use Rattle.std.specs.Prelude.{ℕ, Option, None, Some}
use Rattle.std.specs.Option.{option_map}
use Rattle.picky_asn1.specs.Bytes.{Bytes}
use Rattle.krb_crypto.specs.declared.suite.CipherSuite.{CipherSuite}
use Rattle.krb_realm_accounts.specs.Account.{AccountRecord}
use Rattle.krb_constants.specs.KeyUsages.{key_usage}
use Rattle.krb_constants.specs.declared.key_usages.TheConstants.{AS_REP_ENC, TGS_REP_ENC_SESSION_KEY, TGS_REP_ENC_SUB_KEY}
use Rattle.krb_tickets.specs.declared.reply.Exchange.{Exchange}
use Rattle.krb_tickets.specs.declared.reply.Exchange.TheVariants.{As, Tgs}
use Rattle.krb_tickets.specs.declared.reply.ReplyKey as held

-- the exchange of the reply; the key with its suite and, where the ciphertext has one, its kvno; the key usage; and the data of
-- PA-PK-AS-REP where client and realm agreed on the key
pub record ReplyKeyRecord : Type 0 where
  pub exchange : Exchange
  pub suite : CipherSuite
  pub key : Bytes
  pub kvno : Option ℕ
  pub usage : ℕ
  pub pk_as_rep : Option Bytes

-- the reply key of the code, as definitions see it
abbrev pub reply_key_of : held.ReplyKey → ReplyKeyRecord
reply_key_of this = record {
  exchange = this.exchange;
  suite = this.key.now.suite;
  key = this.key.now.bytes;
  kvno = this.kvno;
  usage = key_usage this.usage;
  pk_as_rep = option_map (λ reply. reply.now) this.pk_as_rep;
}

-- the client's key is the reply key of an AS exchange by encrypted timestamp
abbrev pub as_reply_key : AccountRecord → ReplyKeyRecord
as_reply_key client = record { exchange = As; suite = client.suite; key = client.key; kvno = Some client.kvno; usage = key_usage AS_REP_ENC; pk_as_rep = None }

-- The presented ticket's session key is the reply key of a TGS exchange without a subkey, for key usage 8 (RFC 4120, sections 3.3.3 and
-- 5.4.2). Test: `tgs honest` of `kdc_exchanges.txt`.
abbrev pub tgs_reply_key : CipherSuite → Bytes → ReplyKeyRecord
tgs_reply_key suite key = record { exchange = Tgs; suite = suite; key = key; kvno = None; usage = key_usage TGS_REP_ENC_SESSION_KEY; pk_as_rep = None }

-- The authenticator's subkey is the reply key of a TGS exchange where there is one, for key usage 9 (RFC 4120, sections 3.3.3 and 5.4.2).
-- Test: `tgs subkey` of `kdc_exchanges.txt`.
abbrev pub tgs_subkey_reply_key : CipherSuite → Bytes → ReplyKeyRecord
tgs_subkey_reply_key suite key = record { exchange = Tgs; suite = suite; key = key; kvno = None; usage = key_usage TGS_REP_ENC_SUB_KEY; pk_as_rep = None }

-- the agreed key is the reply key of an AS exchange by certificate, whose reply has PA-PK-AS-REP (RFC 4556, section 3.2.3.1)
abbrev pub agreed_reply_key : CipherSuite → Bytes → Bytes → ReplyKeyRecord
agreed_reply_key suite key reply = record { exchange = As; suite = suite; key = key; kvno = None; usage = key_usage AS_REP_ENC; pk_as_rep = Some reply }
