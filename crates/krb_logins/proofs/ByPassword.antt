-- A client that shares a key with its realm, as that of a password, is authenticated by it: the realm opens its time.
use Rattle.std.proofs.Common.{◌≡◌, ℕ, ◌/◌, ◌%◌, false, List, [], ◌∷◌, None, Some, Result, Ok, Err, refl, sym, ◌∙◌, subst}
use Rattle.asn1_leaves.specs.declared.date.GeneralizedTime.{GeneralizedTime}
use Rattle.picky_asn1.specs.Bytes.{Bytes}
use Rattle.asn1_leaves.specs.GeneralizedTime.{seconds_of}
use Rattle.krb_time.specs.Skew.{is_far}
use Rattle.krb_time.specs.Units.{Micros}
use Rattle.krb_crypto.specs.Suites.{cipher_confounder_size}
use Rattle.krb_crypto.specs.declared.suite.CipherSuite.{CipherSuite}
use Rattle.krb_messages.specs.RandomBytes.{timestamp_confounder}
use Rattle.krb_messages.specs.declared.data_types.encrypted_data.EncryptedData.{EncryptedData}
use Rattle.krb_messages.specs.declared.data_types.pa_data.PaData.{PaData}
use Rattle.krb_messages.specs.declared.data_types.pa_enc_timestamp.PaEncTsEnc.{PaEncTsEnc}
use Rattle.krb_messages.specs.declared.messages.kdc_req.KdcReq.{KdcReq}
use Rattle.krb_messages.specs.declared.messages.kdc_req_body.KdcReqBody.{KdcReqBody}
use Rattle.krb_realm_accounts.specs.Account.{AccountRecord}
use Rattle.decision_tables.specs.Tables.{Table, ask, done, need, refuse}
use Rattle.krb_tickets.specs.Sealing.{sealed_opens}
use Rattle.krb_kdc_exchanges.specs.Rows.{PkinitRows}
use Rattle.krb_messages.specs.Padata.{first_padata, first_of}
use Rattle.krb_kdc_exchanges.specs.EncryptedTimestamps as preauth
use Rattle.krb_kdc_exchanges.specs.EncryptedTimestamps.{moment_of, sole_encrypted_timestamp, timestamp_tree}
use Rattle.krb_tickets.specs.ReplyKeys.{ReplyKeyRecord, as_reply_key}
use Rattle.krb_kdc_exchanges.specs.AsTable.{authenticated, authenticated_by, timestamped}
use Rattle.krb_kdc_exchanges.specs.Call.{CallRecord, skew_of}
use Rattle.krb_kdc_exchanges.specs.Calls.{AreKeyed}
use Rattle.krb_messages.specs.Padata.{padata_in}
use Rattle.krb_client.specs.AsRequest.{as_request_of}
use Rattle.krb_client.specs.Client.{ClientRecord}
use Rattle.krb_client.specs.Messages.{encrypted_bytes, timestamp_bytes}
use Rattle.krb_tickets.specs.MethodData.{pa_data_of}
use Rattle.krb_client.specs.EncryptedTimestamps.{IsSealedTime, IsPaEncTimestamp, by_key, timestamp_of}
use Rattle.krb_service.specs.Service.{ServiceRecord}
use Rattle.krb_logins.specs.Authenticated.{IsAgreedKey, IsAuthenticatedFor, as_body_of_login, first_asked}
use Rattle.krb_logins.specs.Honest.{AreEnough, AreParties, AreUnlimited, IsGranting, IsHonestByPassword, realm_skew}
use Rattle.krb_logins.specs.Laws.{IsMet}
use Rattle.krb_logins.specs.Parties.{LoginRecord, RealmRecord, RememberedRecord, call_at}
use Rattle.krb_logins.specs.Steps.{AreDecided}
use Rattle.krb_logins.proofs.Giving.{by_ask, by_need, by_refuse}
use Rattle.krb_logins.proofs.Opened.{opened_by}
use Rattle.krb_logins.proofs.Passing.{past_then}
use Rattle.krb_logins.proofs.Times.{moment_told}
use Rattle.krb_logins.proofs.WholeRequests.{writes_encrypted, writes_timestamp}

-- the first entry is the only one
no_pkinit : (value : Bytes) → first_of 16 (pa_data_of 2 value ∷ []) ≡ None
unfolding first_of first_padata
no_pkinit value = refl

own_padata : (value : Bytes) → first_of 2 (pa_data_of 2 value ∷ []) ≡ Some value
unfolding first_of first_padata
own_padata value = refl

timestamp_told : (second : GeneralizedTime) (moment : Micros) → seconds_of second ≡ moment / 1000000 → moment_of (timestamp_of second (moment % 1000000)) ≡ Some moment
unfolding moment_of
timestamp_told second moment e = moment_told moment (seconds_of second) e

-- the account opens what the client sealed
timestamp_opens : (suite : CipherSuite) (key : Bytes) (account : AccountRecord) (moment : Micros) (confounder : Bytes) (sealed : EncryptedData)
    → account.suite ≡ suite → account.key ≡ key → (it : IsSealedTime suite key moment confounder sealed)
    → preauth.IsEncryptedTimestamp account (encrypted_bytes sealed) (timestamp_of it.second (moment % 1000000))
timestamp_opens suite key account moment confounder sealed same_suite same_key it =
    let value = timestamp_of it.second (moment % 1000000) in
    record {
      sealed = sealed;
      writes = writes_encrypted sealed;
      opens = opened_by {T = PaEncTsEnc} timestamp_tree suite account.suite key account.key 1 sealed value (sym same_suite) (sym same_key)
          (sealed_opens {T = PaEncTsEnc} timestamp_tree value suite key None 1 confounder (timestamp_bytes value) sealed (writes_timestamp value) it.sealed);
    }

module _ (call : CallRecord) (account : AccountRecord) (value : Bytes) (timestamp : PaEncTsEnc) (moment : Micros) where
  abbrev padata : List PaData
  padata = pa_data_of 2 value ∷ []

  abbrev near_row : Micros → Table (Result (Unit {0}) ℕ)
  near_row time = refuse (is_far (skew_of call) call.moment time) 37 (done (Ok tt))

  abbrev told_row : PaEncTsEnc → Table (Result (Unit {0}) ℕ)
  told_row own = need (moment_of own) 24 near_row

  abbrev timestamp_row : Bytes → Table (Result (Unit {0}) ℕ)
  timestamp_row bytes = ask (preauth.IsEncryptedTimestamp account bytes) (sole_encrypted_timestamp account bytes) (done (Err 24)) told_row

  shown_in_time : preauth.IsEncryptedTimestamp account value timestamp → moment_of timestamp ≡ Some moment → is_far (skew_of call) call.moment moment ≡ false
      → (timestamped call account padata).gives (Ok tt)
  shown_in_time is told in_time =
      by_need {T = Unit {0}} {E = ℕ} (first_of 2 padata) 25 timestamp_row value (Ok tt) (own_padata value)
      (by_ask (preauth.IsEncryptedTimestamp account value) (sole_encrypted_timestamp account value) (done (Err 24)) told_row timestamp (Ok tt) is
      (by_need {T = Unit {0}} {E = ℕ} (moment_of timestamp) 24 near_row moment (Ok tt) told
      (by_refuse {T = Unit {0}} {E = ℕ} (is_far (skew_of call) call.moment moment) 37 (done (Ok tt)) (Ok tt) in_time refl)))

-- a client that shows its key in time, without PA-PK-AS-REQ, is replied to under that key
own_key : (call : CallRecord) (rows : PkinitRows) (account : AccountRecord) (name : List Bytes) (request : KdcReq) → first_of 16 (padata_in request) ≡ None
    → (timestamped call account (padata_in request)).gives (Ok tt) → (r : Result ReplyKeyRecord ℕ) → (authenticated call rows account name request).gives r
    → r ≡ Ok (as_reply_key account)
own_key call rows account name request none shown r x =
    let timed = subst (λ padata. (authenticated_by call rows account name request padata).gives r) none x in
    past_then {A = Unit {0}} {T = ReplyKeyRecord} (timestamped call account (padata_in request)) (λ _. done (Ok (as_reply_key account))) tt r shown timed

module _ (client : ClientRecord) (key : Bytes) (realm : RealmRecord) (rows : PkinitRows) (account : AccountRecord) (login : LoginRecord) (body : KdcReqBody)
    (suite : account.suite ≡ client.suite) (shared : account.key ≡ key) (near : is_far (realm_skew realm) login.realm_as login.client_as ≡ false) where
  abbrev call : CallRecord
  call = call_at realm login.realm_as login.realm_words_as

  abbrev confounder : Bytes
  confounder = timestamp_confounder (cipher_confounder_size client.suite) login.words_as

  in_time : is_far (skew_of call) login.realm_as login.client_as ≡ false
  in_time = near

  shown : (sealed : EncryptedData) → IsSealedTime client.suite key login.client_as confounder sealed
      → (timestamped call account (pa_data_of 2 (encrypted_bytes sealed) ∷ [])).gives (Ok tt)
  shown sealed it =
      shown_in_time call account (encrypted_bytes sealed) (timestamp_of it.second (login.client_as % 1000000)) login.client_as
      (timestamp_opens client.suite key account login.client_as confounder sealed suite shared it)
      (timestamp_told it.second login.client_as it.of_moment) in_time

  -- the reply key is that key
  agreed : IsAgreedKey client (by_key client.suite key) (first_asked client login) (as_reply_key account)
  agreed = record {
    exchange = refl;
    usage = refl;
    taken = λ reply padata k given. given ∙ (λ i. Ok (record { suite = sym suite i; bytes = sym shared i }));
  }

  replied_under : (padata : PaData) → IsPaEncTimestamp client.suite key login.client_as login.words_as padata → (r : Result ReplyKeyRecord ℕ)
      → (authenticated call rows account client.components (as_request_of padata body)).gives r → r ≡ Ok (as_reply_key account)
  replied_under padata it r x =
      let own = subst (λ p. (authenticated call rows account client.components (as_request_of p body)).gives r) it.made x in
      own_key call rows account client.components (as_request_of (pa_data_of 2 (encrypted_bytes it.encrypted_timestamp)) body) (no_pkinit (encrypted_bytes it.encrypted_timestamp))
      (shown it.encrypted_timestamp it.sealed_time) r own

  pub authenticated_by_key : IsAuthenticatedFor client (by_key client.suite key) realm rows account login body
  authenticated_by_key = record {
    asks = λ none. none;
    shown = λ padata it r x. (as_reply_key account, replied_under padata it r x, agreed);
  }

-- an honest login by password is met by the means of that key, whatever the realm judges PA-PK-AS-REQ by
pub met_by_password : (client : ClientRecord) (key : Bytes) (realm : RealmRecord) (rows : PkinitRows) (service : ServiceRecord) (before : RememberedRecord) (login : LoginRecord)
    → AreParties client service → AreEnough login → IsGranting realm → AreKeyed realm.look → AreUnlimited client service realm → IsHonestByPassword client key realm service before login
    → IsMet client (by_key client.suite key) realm rows service before login
met_by_password client key realm rows service before login parties enough granting keyed unlimited by = record {
  parties = parties;
  enough = enough;
  granting = granting;
  keyed = keyed;
  unlimited = unlimited;
  honest = by.honest;
  authenticated = authenticated_by_key client key realm rows by.honest.client.account login (as_body_of_login client login)
      by.honest.client.suite by.shared by.honest.timely.as_near;
}

-- a key refuses no request
pub decided_by_key : (suite : CipherSuite) (key : Bytes) → AreDecided (by_key suite key)
decided_by_key suite key = λ body moment words padata asks none. none
