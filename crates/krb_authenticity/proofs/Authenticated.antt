-- How the realm authenticated the client of a first ticket, and who had made the timestamp.
use Rattle.std.proofs.Common.{◌≡◌, ℕ, ◌/◌, ◌%◌, false, List, Option, None, Some, Result, Ok, Err, refl, sym, ap, subst, ◌∙◌, inl, inr}
use Rattle.asn1_leaves.specs.GeneralizedTime.{seconds_of}
use Rattle.asn1_leaves.specs.declared.date.GeneralizedTime.{GeneralizedTime}
use Rattle.picky_asn1.specs.Bytes.{Bytes}
use Rattle.krb_time.specs.Skew.{is_far}
use Rattle.krb_time.specs.Units.{Micros}
use Rattle.krb_crypto.specs.Suites.{cipher_confounder_size}
use Rattle.krb_messages.specs.Names.{components}
use Rattle.krb_messages.specs.RandomBytes.{timestamp_confounder}
use Rattle.krb_messages.specs.Trees.{pa_enc_ts_enc-injective, pa_enc_ts_enc_tree}
use Rattle.krb_messages.specs.declared.data_types.pa_data.PaData.{PaData}
use Rattle.krb_messages.specs.declared.data_types.pa_enc_timestamp.PaEncTsEnc.{PaEncTsEnc}
use Rattle.krb_realm_accounts.specs.Account.{AccountRecord}
use Rattle.decision_tables.specs.Tables.{Table, ask, done, need, refuse}
use Rattle.krb_kdc_exchanges.specs.PkinitCalls.{AgreedRecord}
use Rattle.krb_kdc_exchanges.specs.Rows.{PkinitRows}
use Rattle.krb_kdc_exchanges.specs.EncryptedTimestamps.{IsEncryptedTimestamp, moment_of, sole_encrypted_timestamp}
use Rattle.krb_tickets.specs.Grant.{GrantRecord}
use Rattle.krb_kdc_exchanges.specs.AgreedKeys.{agreed_reply}
use Rattle.krb_tickets.specs.ReplyKeys.{ReplyKeyRecord, as_reply_key}
use Rattle.krb_ap_requests.proofs.Chosen.{needed}
use Rattle.krb_ap_requests.proofs.Shown.{both}
use Rattle.krb_service.proofs.Admitting.{passes}
use Rattle.krb_logins.proofs.Times.{moment_told}
use Rattle.krb_logins.proofs.WholeRequests.{writes_timestamp}
use Rattle.krb_kdc_exchanges.specs.Call.{CallRecord, pkinit_call, skew_of}
use Rattle.krb_kdc_exchanges.specs.Requests.{body_of}
use Rattle.krb_messages.specs.Padata.{first_of, padata_in}
use Rattle.krb_kdc_exchanges.specs.AsTable.{authenticated_by, timestamped}
use Rattle.krb_client.specs.EncryptedTimestamps.{timestamp_of}
use Rattle.krb_client.specs.Messages.{timestamp_bytes}
use Rattle.krb_authenticity.specs.Authentic.{IsShown}
use Rattle.krb_authenticity.specs.Ciphertexts.{CiphertextRecord, IsTimestampOf, IsUnforged, RealmOpens, timestamp_under}
use Rattle.krb_authenticity.specs.Grants.{IsFirst}
use Rattle.krb_authenticity.specs.Parties.{ExchangeRecord, FirstRequest, SentRecord}
use Rattle.krb_authenticity.proofs.Made.{timestamp_made}
use Rattle.krb_authenticity.proofs.Opened.{OpensTo, one_opened, sealed_to}

timestamp_told : (second : GeneralizedTime) (moment : Micros) → seconds_of second ≡ moment / 1000000 → moment_of (timestamp_of second (moment % 1000000)) ≡ Some moment
unfolding moment_of
timestamp_told second moment e = moment_told moment (seconds_of second) e

pub same_some : (a b : ℕ) → Some a ≡ Some b → a ≡ b
same_some a b e = cc (e)

-- ---- the rows of the encrypted timestamp

-- the first padata PA-ENC-TIMESTAMP opened under the account's key, to a moment near now
record IsTimed (call : CallRecord) (client : AccountRecord) (padata : List PaData) : Type 0 where
  found : Bytes
  first : first_of 2 padata ≡ Some found
  timestamp : PaEncTsEnc
  opens : IsEncryptedTimestamp client found timestamp
  time : ℕ
  tells : moment_of timestamp ≡ Some time
  near : is_far (skew_of call) call.moment time ≡ false

module _ (call : CallRecord) (client : AccountRecord) (padata : List PaData) where
  abbrev near_row : ℕ → Table (Result (Unit {0}) ℕ)
  near_row time = refuse (is_far (skew_of call) call.moment time) 37 (done (Ok tt))

  abbrev told_row : PaEncTsEnc → Table (Result (Unit {0}) ℕ)
  told_row timestamp = need (moment_of timestamp) 24 near_row

  abbrev opened_row : Bytes → Table (Result (Unit {0}) ℕ)
  opened_row bytes = ask (IsEncryptedTimestamp client bytes) (sole_encrypted_timestamp client bytes) (done (Err 24)) told_row

  timed_rows : (found : Bytes) → first_of 2 padata ≡ Some found → (opened_row found).gives (Ok tt) → IsTimed call client padata
  timed_rows found first (inl (timestamp, opens, x)) =
      let time = needed {A = ℕ} {T = Unit {0}} (moment_of timestamp) 24 near_row tt x in
      let near = passes {T = Unit {0}} (is_far (skew_of call) call.moment time.0) 37 (done (Ok tt)) tt time.2 in
      record { found = found; first = first; timestamp = timestamp; opens = opens; time = time.0; tells = time.1; near = near.0 }
  timed_rows found first (inr (none, e)) = absurd (cc (e))

  is_timed : (timestamped call client padata).gives (Ok tt) → IsTimed call client padata
  is_timed x =
      let own = needed {A = Bytes} {T = Unit {0}} (first_of 2 padata) 25 opened_row tt x in
      timed_rows own.0 own.1 own.2

-- ---- who made the timestamp

module _ (rows : PkinitRows) (keys : List Bytes) (before : List ExchangeRecord) (sent : SentRecord) (exchange : ExchangeRecord) (unforged : IsUnforged rows keys before sent (RealmOpens exchange))
    (grant : GrantRecord) (under : ReplyKeyRecord) (service : AccountRecord) (first : IsFirst rows exchange grant under service) where
  abbrev client : AccountRecord
  client = first.principals.client

  -- a client that holds the key made it, at the moment that it tells
  of_client : (c : CiphertextRecord) (timestamp : PaEncTsEnc) (time : ℕ) (request : FirstRequest) → OpensTo {T = PaEncTsEnc} pa_enc_ts_enc_tree c timestamp → moment_of timestamp ≡ Some time
      → IsTimestampOf request c → (c.key ≡ request.key.bytes) × (time ≡ request.moment)
  of_client c timestamp time request opens tells is =
      let sealed_time = is.sent.shown.sealed_time in
      let own : PaEncTsEnc = timestamp_of sealed_time.second (request.moment % 1000000) in
      let made = timestamp_under request.key.suite request.key.bytes is.sent.shown.encrypted_timestamp.cipher.0 in
      let opened = sealed_to {T = PaEncTsEnc} pa_enc_ts_enc_tree own request.key.suite request.key.bytes None 1
      (timestamp_confounder (cipher_confounder_size request.key.suite) request.words) (timestamp_bytes own) is.sent.shown.encrypted_timestamp (writes_timestamp own) sealed_time.sealed in
      let same : timestamp ≡ own = one_opened {T = PaEncTsEnc} pa_enc_ts_enc_tree pa_enc_ts_enc-injective c made is.is timestamp own opens opened in (
        ap (λ (k : CiphertextRecord). k.key) is.is,
        same_some time request.moment (sym tells ∙ ap moment_of same ∙ timestamp_told sealed_time.second request.moment sealed_time.of_moment),
      )

  by_timestamp : IsTimed exchange.call client (padata_in first.asked) → IsShown rows keys sent exchange first.principals first.asked
  by_timestamp timed = inr (λ kept.
      let cipher : Bytes = timed.opens.sealed.cipher.0 in
      let c : CiphertextRecord = timestamp_under client.suite client.key cipher in
      let made = timestamp_made rows before sent client.suite client.key cipher (unforged c (inl (record {
        asked = first.asked;
        read = first.read;
        name = first.principals.client_name;
        named = first.client_named;
        account = client;
        found = first.client_found;
        value = timed.found;
        first = timed.first;
        timestamp = timed.timestamp;
        opens = timed.opens;
        is = refl;
      })) kept) in
      let by = of_client c timed.timestamp timed.time made.0 timed.opens.opens.opens timed.tells made.2 in
      (made.0, made.1, made.2.sent, by.0, subst (λ time. is_far (skew_of exchange.call) exchange.call.moment time ≡ false) by.1 timed.near))

  abbrev own_key : Unit {0} → Table (Result ReplyKeyRecord ℕ)
  own_key _ = done (Ok (as_reply_key client))

  abbrev agreed_on : AgreedRecord → Table (Result ReplyKeyRecord ℕ)
  agreed_on agreed = done (Ok (agreed_reply exchange.call client first.asked agreed))

  by_padata : (padata : Option Bytes) → first_of 16 (padata_in first.asked) ≡ padata
      → (authenticated_by exchange.call rows client (components first.principals.client_name) first.asked padata).gives (Ok under)
      → IsShown rows keys sent exchange first.principals first.asked
  by_padata None found x =
      let own = both {A = Unit {0}} {T = ReplyKeyRecord} (timestamped exchange.call client (padata_in first.asked)) own_key under x in
      by_timestamp (is_timed exchange.call client (padata_in first.asked) own.1)
  by_padata (Some padata) found x =
      let own = both {A = AgreedRecord} {T = ReplyKeyRecord} (rows.judges (pkinit_call exchange.call (components first.principals.client_name) (body_of first.asked)) padata) agreed_on under x in
      inl (padata, own.0, found, own.1)

  pub was_shown : IsShown rows keys sent exchange first.principals first.asked
  was_shown = by_padata (first_of 16 (padata_in first.asked)) refl first.authenticates
