-- A client and a realm that trust each other by certificate: the realm authenticates the client, and both have one reply key.
use Rattle.std.proofs.Common.{◌≡◌, ℕ, false, [], ◌∷◌, Option, None, Some, Result, Ok, Err, inl, inr, refl, sym, ap, ◌∙◌, subst}
use Rattle.std.specs.Option.{option_map_or}
use Rattle.picky_asn1.specs.Bytes.{Bytes}
use Rattle.krb_time.specs.Skew.{is_far}
use Rattle.krb_messages.specs.declared.data_types.pa_data.PaData.{PaData}
use Rattle.krb_messages.specs.declared.messages.kdc_rep.KdcRep.{KdcRep}
use Rattle.krb_messages.specs.declared.messages.kdc_req.KdcReq.{KdcReq}
use Rattle.krb_messages.specs.declared.messages.kdc_req_body.KdcReqBody.{KdcReqBody}
use Rattle.krb_crypto.specs.Keys.{KeyRecord}
use Rattle.krb_crypto.specs.AgreedKeys.{agreed_key}
use Rattle.krb_realm_accounts.specs.Account.{AccountRecord}
use Rattle.decision_tables.specs.One.{same_parts}
use Rattle.decision_tables.specs.Tables.{done}
use Rattle.krb_kdc_exchanges.specs.PkinitCalls.{AgreedRecord, PkinitCallRecord}
use Rattle.krb_messages.specs.Padata.{first_padata, first_of}
use Rattle.krb_tickets.specs.MethodData.{pa_data_of}
use Rattle.krb_tickets.specs.Parts.{padata_of}
use Rattle.krb_tickets.specs.ReplyKeys.{ReplyKeyRecord, agreed_reply_key}
use Rattle.krb_kdc_exchanges.specs.AgreedKeys.{agreed_reply, kdf_context, key_by}
use Rattle.krb_kdc_exchanges.specs.AsTable.{authenticated, authenticated_by}
use Rattle.krb_kdc_exchanges.specs.Call.{CallRecord, skew_of}
use Rattle.krb_kdc_exchanges.specs.Calls.{AreKeyed}
use Rattle.krb_client.specs.AsRequest.{as_request_of}
use Rattle.krb_client.specs.Client.{ClientRecord}
use Rattle.krb_client.specs.declared.refusal.TakeRefusal.{TakeRefusal}
use Rattle.krb_client.specs.declared.refusal.TakeRefusal.TheVariants.{NotTrusted}
use Rattle.krb_service.specs.Service.{ServiceRecord}
use Rattle.krb_logins.specs.Authenticated.{IsAgreedKey, IsAuthenticated, as_body_of_login, first_asked}
use Rattle.krb_logins.specs.Honest.{AreEnough, AreParties, AreUnlimited, IsGranting}
use Rattle.krb_logins.specs.Laws.{IsMet}
use Rattle.krb_logins.specs.Parties.{LoginRecord, RealmRecord, RememberedRecord, call_at}
use Rattle.krb_logins.specs.Steps.{AreDecided}
use Rattle.krb_logins.proofs.Giving.{past_found}
use Rattle.x509_keys.specs.KeyFunctions.{KeysRecord}
use Rattle.pkinit_messages.specs.declared.agility.kdf.Kdf.{Kdf}
use Rattle.pkinit_validation.specs.Anchors.{AnchorRecord}
use Rattle.pkinit_validation.specs.AgreementBytes.{agreement_bytes}
use Rattle.pkinit_validation.specs.PkinitRows.{pkinit_rows}
use Rattle.pkinit_validation.specs.PkinitTable.{pkinit_table}
use Rattle.pkinit_validation.specs.Trust.{TrustRecord}
use Rattle.krb_client.specs.Asked.{agreement_part}
use Rattle.pkinit_clients.specs.Asked.{PkinitAskedRecord}
use Rattle.pkinit_clients.specs.Faults.{Secret}
use Rattle.pkinit_clients.specs.Means.{IsPkinitPadata, by_certificate, key_in, pk_as_rep_in}
use Rattle.pkinit_clients.specs.Replies.{secret_of}
use Rattle.pkinit_clients.proofs.Decided as clients
use Rattle.krb_realm.specs.Agreements.{IsAgreedReply}
use Rattle.krb_realm.specs.Honest.{IsHonestAgreement, IsHonestReply, IsHonestRequest}
use Rattle.krb_realm.specs.HonestByCertificate.{IsHonestByCertificate, pkinit_asked_of_login, pkinit_call_of_login}
use Rattle.krb_realm.proofs.Granted as granting
use Rattle.krb_realm.proofs.Taken as taking
use Rattle.krb_realm.proofs.Rows.{past_need}

-- the one entry is the first of its type
own_request : (value : Bytes) → first_of 16 (pa_data_of 16 value ∷ []) ≡ Some value
unfolding first_of first_padata
own_request value = refl

own_reply : (value : Bytes) → first_of 17 (pa_data_of 17 value ∷ []) ≡ Some value
unfolding first_of first_padata
own_reply value = refl

-- PA-PK-AS-REP of a reply whose padata is that alone
told_reply : (reply : KdcRep) (value : Bytes) → reply.padata.0 ≡ padata_of (Some value) → pk_as_rep_in reply ≡ Some value
told_reply reply value e = ap (λ padata. first_of 17 (option_map_or (λ tagged. tagged.0) padata [])) e ∙ own_reply value

module _ (client : ClientRecord) (certificate : Bytes) (anchor : AnchorRecord) (client_keys : KeysRecord) (realm : RealmRecord) (trust : TrustRecord) (realm_keys : KeysRecord)
    (service : ServiceRecord) (before : RememberedRecord) (login : LoginRecord)
    (by : IsHonestByCertificate client certificate anchor client_keys realm trust realm_keys service before login) where
  abbrev call : CallRecord
  call = call_at realm login.realm_as login.realm_words_as

  abbrev account : AccountRecord
  account = by.honest.client.account

  abbrev body : KdcReqBody
  body = as_body_of_login client login

  abbrev judged : PkinitCallRecord
  judged = pkinit_call_of_login client realm login

  abbrev remembered : PkinitAskedRecord
  remembered = pkinit_asked_of_login anchor client login

  abbrev agreement : IsHonestAgreement client_keys realm_keys certificate login.client_as (agreement_part login.words_as) trust judged
  agreement = by.exchange.agreement

  in_time : is_far (skew_of call) login.realm_as login.client_as ≡ false
  in_time = by.honest.timely.as_near

  abbrev request : IsHonestRequest client_keys realm_keys certificate login.client_as (agreement_part login.words_as) trust judged
  request = record {
    agreement = agreement;
    near = in_time;
    read = by.exchange.realm_trusted.read;
    reads = by.exchange.realm_trusted.accepts.reads;
    signs = by.exchange.realm_trusted.signs;
  }

  abbrev reply_there : IsHonestReply client_keys realm_keys agreement.pkinit.own (agreement_bytes login.realm_words_as) remembered
  reply_there = record { agreeing = agreement.agreeing; realm_trusted = by.exchange.realm_trusted }

  -- the realm agreed on the secret, without a key derivation function, and replies so
  abbrev IsAgreed : AgreedRecord → Type 0
  IsAgreed agreed =
      (agreed.secret ≡ agreement.agreeing.secret)
      × IsAgreedReply realm_keys agreement.pkinit.own agreement.agreeing.realm_key.subject_public_key body.nonce.0 agreed.reply
      × (agreed.kdf ≡ None)

  abbrev key_under : AgreedRecord → ReplyKeyRecord
  key_under agreed = agreed_reply_key account.suite (agreed_key account.suite agreed.secret) agreed.reply

  -- the reply key is the key of the secret alone
  same_key : (asked : KdcReq) (agreed : AgreedRecord) → agreed.kdf ≡ None → agreed_reply call account asked agreed ≡ key_under agreed
  same_key asked agreed none =
      ap (λ (kdf : Option Kdf). agreed_reply_key account.suite (key_by account.suite kdf agreed.secret (kdf_context call asked agreed.reply)) agreed.reply) none

  module _ (agreed : AgreedRecord) (is : IsAgreed agreed) where
    -- the client's secret is the realm's
    one_secret : (secret : Secret) → (secret_of client_keys remembered agreed.reply).gives secret → secret ≡ Ok agreed.secret
    one_secret secret gives =
        taking.taken client_keys realm_keys agreement.pkinit.own (agreement_bytes login.realm_words_as) remembered reply_there agreed.reply is.1 secret gives ∙ ap Ok (sym is.0)

    one_key : (key : Result KeyRecord TakeRefusal) → (key_in client_keys anchor client (first_asked client login) agreed.reply).gives key
        → key ≡ Ok (record { suite = account.suite; bytes = agreed_key account.suite agreed.secret })
    one_key key (inl x) =
        let same : x.0 ≡ agreed.secret = same_parts (Ok x.0) (Ok agreed.secret) (one_secret (Ok x.0) x.1) in
        x.2 ∙ (λ i. Ok (record { suite = sym by.honest.client.suite i; bytes = agreed_key (sym by.honest.client.suite i) (same i) }))
    one_key key (inr x) = absurd (same_parts (Err x.0) (Ok agreed.secret) (one_secret (Err x.0) x.1))

    agreed_one : IsAgreedKey client (by_certificate certificate anchor client_keys) (first_asked client login) (key_under agreed)
    agreed_one = record {
      exchange = refl;
      usage = refl;
      taken = λ reply padata key gives.
          one_key key
          (past_need {A = Bytes} {T = KeyRecord} {E = TakeRefusal} (pk_as_rep_in reply) NotTrusted (key_in client_keys anchor client (first_asked client login)) agreed.reply key
          (told_reply reply agreed.reply padata) gives);
    }

  module _ (padata : PaData) (it : IsPkinitPadata client_keys certificate body login.client_as login.words_as padata) where
    found : (s : Result AgreedRecord ℕ) → (pkinit_table realm_keys trust judged it.value).gives s → (agreed : AgreedRecord) × IsAgreed agreed × (s ≡ Ok agreed)
    found s gives =
        let granted = granting.granted client_keys realm_keys certificate login.client_as (agreement_part login.words_as) trust judged request it.value it.is_request s gives in
        (granted.agreed, (granted.same_secret, granted.is_reply, granted.no_kdf), granted.is_agreed)

    replied_under : (r : Result ReplyKeyRecord ℕ) → (authenticated call (pkinit_rows trust realm_keys) account client.components (as_request_of padata body)).gives r
        → (agreed : AgreedRecord) × IsAgreed agreed × (r ≡ Ok (key_under agreed))
    replied_under r x =
        let own = subst (λ p. (authenticated call (pkinit_rows trust realm_keys) account client.components (as_request_of p body)).gives r) it.made x in
        let asked : KdcReq = as_request_of (pa_data_of 16 it.value) body in
        let made =
        past_found {A = AgreedRecord} {T = ReplyKeyRecord} {E = ℕ} IsAgreed (pkinit_table realm_keys trust judged it.value) (λ agreed. done (Ok (agreed_reply call account asked agreed))) r found
        (subst (λ first. (authenticated_by call (pkinit_rows trust realm_keys) account client.components asked first).gives r) (own_request it.value) own) in
        (made.0, made.1, made.2 ∙ (λ i. Ok (same_key asked made.0 made.1.2 i)))

  pub authenticated_by_certificate : IsAuthenticated client (by_certificate certificate anchor client_keys) realm (pkinit_rows trust realm_keys) account login
  authenticated_by_certificate = record {
    asks = granting.asked client_keys realm_keys certificate login.client_as (agreement_part login.words_as) trust judged request;
    shown = λ padata it r x.
        let replied = replied_under padata it r x in
        (key_under replied.0, replied.2, agreed_one replied.0 replied.1);
  }

-- an honest login by certificate is met by the means of that certificate, at a realm that judges by its own
pub met_by_certificate : (client : ClientRecord) (certificate : Bytes) (anchor : AnchorRecord) (client_keys : KeysRecord) (realm : RealmRecord) (trust : TrustRecord) (realm_keys : KeysRecord)
    (service : ServiceRecord) (before : RememberedRecord) (login : LoginRecord) → AreParties client service → AreEnough login → IsGranting realm → AreKeyed realm.look → AreUnlimited client service realm
    → IsHonestByCertificate client certificate anchor client_keys realm trust realm_keys service before login
    → IsMet client (by_certificate certificate anchor client_keys) realm (pkinit_rows trust realm_keys) service before login
met_by_certificate client certificate anchor client_keys realm trust realm_keys service before login parties enough granted keyed unlimited by = record {
  parties = parties;
  enough = enough;
  granting = granted;
  keyed = keyed;
  unlimited = unlimited;
  honest = by.honest;
  authenticated = authenticated_by_certificate client certificate anchor client_keys realm trust realm_keys service before login by;
}

-- a certificate refuses no request that it has padata for
pub decided_by_certificate : (certificate : Bytes) (anchor : AnchorRecord) (keys : KeysRecord) → AreDecided (by_certificate certificate anchor keys)
decided_by_certificate certificate anchor keys = λ body moment words padata asks none.
    clients.decided_by_certificate keys certificate body moment words padata asks none
