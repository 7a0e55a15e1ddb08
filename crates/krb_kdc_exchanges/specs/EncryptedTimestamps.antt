-- The encrypted timestamp of a client, under its own key (RFC 4120, section 5.2.7.2).
use Rattle.std.specs.Prelude.{◌≡◌, Option, None, Some, ℤ, pos}
use Rattle.std.specs.Option.{option_map}
use Rattle.std.proofs.Common.{sym, ◌∙◌, subst}
use Rattle.asn1_der.specs.Tree.{Tree, Writes}
use Rattle.asn1_leaves.specs.GeneralizedTime.{seconds_of}
use Rattle.picky_asn1.specs.Bytes.{Bytes}
use Rattle.krb_realm_accounts.specs.Account.{AccountRecord}
use Rattle.krb_constants.specs.KeyUsages.{key_usage}
use Rattle.krb_constants.specs.declared.key_usages.TheConstants.{AS_REQ_TIMESTAMP}
use Rattle.krb_messages.specs.declared.data_types.encrypted_data.EncryptedData.{EncryptedData}
use Rattle.krb_messages.specs.declared.data_types.pa_enc_timestamp.PaEncTsEnc.{PaEncTsEnc}
use Rattle.krb_messages.specs.Trees as held
use Rattle.krb_tickets.specs.SealedData.{IsSealedIn, sole_sealed}
use Rattle.krb_time.specs.Times.{moment_at}
use Rattle.krb_time.specs.Units.{Micros}

-- PA-ENC-TS-ENC as a tree
abbrev pub timestamp_tree : PaEncTsEnc → Tree
timestamp_tree = held.pa_enc_ts_enc_tree

-- the bytes are the encoding of an EncryptedData that decrypts under the account's key to the timestamp (key usage 1; RFC 4120,
-- section 7.5.1)
pub record IsEncryptedTimestamp (account : AccountRecord) (bytes : Bytes) (timestamp : PaEncTsEnc) : Type 0 where
  pub sealed : EncryptedData
  pub writes : Writes held.encrypted_data_tree sealed bytes
  pub opens : IsSealedIn {T = PaEncTsEnc} timestamp_tree account.suite account.key (key_usage AS_REQ_TIMESTAMP) sealed timestamp

-- bytes decrypt to one timestamp at most
pub sole_encrypted_timestamp : (account : AccountRecord) (bytes : Bytes) (v w : PaEncTsEnc) → IsEncryptedTimestamp account bytes v → IsEncryptedTimestamp account bytes w → v ≡ w
sole_encrypted_timestamp account bytes v w x y =
    let same = held.encrypted_data-injective x.sealed y.sealed x.writes.0 y.writes.0 (sym x.writes.1 ∙ y.writes.1) in
    let first = subst (λ s. IsSealedIn {T = PaEncTsEnc} timestamp_tree account.suite account.key (key_usage AS_REQ_TIMESTAMP) s v) same x.opens in
    sole_sealed timestamp_tree held.pa_enc_ts_enc-injective account.suite account.key (key_usage AS_REQ_TIMESTAMP) y.sealed v w first y.opens

-- a missing `pausec` is zero
abbrev pub or_zero : Option ℤ → ℤ
or_zero None = pos 0
or_zero (Some micros) = micros

-- the moment of the timestamp, or none if its `pausec` is no part of a second
unfoldable pub moment_of : PaEncTsEnc → Option Micros
moment_of timestamp = moment_at (seconds_of timestamp.patimestamp.0.0) (or_zero (option_map (λ tagged. tagged.0) timestamp.pausec.0))
