-- An exchange that is judged honest is so, and where the premise of an honest exchange is met both come to one secret.
use Rattle.std.proofs.Common.{◌≡◌, Bool, None, Some, Result, Ok, Err, sym, ap, ◌∙◌, subst}
use Rattle.std.specs.Prelude.{◌↔◌, ℤ, IfOk, IsTrue, pos}
use Rattle.picky_asn1_der.specs.Raw.{Raw}
use Rattle.picky_asn1.specs.Bytes.{Bytes}
use Rattle.krb_time.specs.Units.{Micros}
use Rattle.krb_messages.specs.RandomBytes.{AreEnoughForReply, Random}
use Rattle.krb_messages.specs.Refusals.{Code}
use Rattle.krb_messages.specs.declared.data_types.pa_data.PaData.{PaData}
use Rattle.krb_messages.specs.declared.messages.kdc_req_body.KdcReqBody.{KdcReqBody}
use Rattle.krb_kdc_exchanges.specs.PkinitCalls.{AgreedRecord, PkinitCallRecord}
use Rattle.krb_logins.proofs.Judged.{judged_last}
use Rattle.decision_tables.specs.One.{same_parts}
use Rattle.decision_tables.specs.Tables.{Table}
use Rattle.x509_keys.specs.KeyFunctions.{KeysRecord}
use Rattle.pkinit_validation.specs.AgreementBytes.{agreement_bytes}
use Rattle.pkinit_validation.specs.PublicKeys.{IsPublicKey}
use Rattle.pkinit_validation.specs.declared.public_key.AgreementPublicKey.{AgreementPublicKey}
use Rattle.pkinit_validation.specs.PkinitTable.{pkinit_table}
use Rattle.pkinit_validation.specs.Trust.{TrustRecord}
use Rattle.krb_client.specs.Asked.{agreement_part}
use Rattle.pkinit_clients.specs.Asked.{PkinitAskedRecord, expected_realm}
use Rattle.pkinit_clients.specs.Means.{IsPkinitPadata}
use Rattle.pkinit_clients.specs.Replies.{secret_of}
use Rattle.pkinit_clients.specs.Requests.{IsNoPkAsReq, IsPkAsReqOf}
use Rattle.krb_realm.specs.Agreements.{IsAgreedReply, IsGrantedAgreement, IsKeyInfoText, IsTrusted}
use Rattle.krb_realm.specs.Exchange.{HasPublicKey, HaveOneSecret, IsAgreedBy, IsExchangeMet, IsHonestExchange}
use Rattle.krb_realm.specs.Honest.{IsHonestAgreement, IsHonestReply, IsHonestRequest}
use Rattle.krb_realm.proofs.Granted as granting
use Rattle.krb_realm.proofs.Shown.{shown}
use Rattle.krb_realm.proofs.Taken as taking

-- the data of padata that were made
pub of_padata : (keys : KeysRecord) (certificate : Bytes) (body : KdcReqBody) (moment : Micros) (words : Random) (padata : PaData) (bytes : Bytes)
    → bytes ≡ padata.padata_data.0 → IsPkinitPadata keys certificate body moment words padata → IsPkAsReqOf keys certificate body moment (agreement_part words) bytes
of_padata keys certificate body moment words padata bytes same it =
    subst (λ (b : Bytes). IsPkAsReqOf keys certificate body moment (agreement_part words) b) (sym (same ∙ ap (λ (p : PaData). p.padata_data.0) it.made)) it.is_request

-- what both come to shows that the exchange is honest
honest_by : (client_keys realm_keys : KeysRecord) (certificate : Bytes) (trust : TrustRecord) (call : PkinitCallRecord) (asked : PkinitAskedRecord) (padata : Bytes)
    → IsPkAsReqOf client_keys certificate call.body asked.moment asked.words padata → IsAgreedBy client_keys trust realm_keys call asked padata
    → IsHonestExchange client_keys certificate trust realm_keys call asked
honest_by client_keys realm_keys certificate trust call asked padata is by =
    let some : Some by.own.element ≡ Some is.value = sym by.own.value ∙ is.is_value in
    let element : by.own.element ≡ is.value = cc (some) in
    shown client_keys realm_keys certificate trust call asked padata is by.own.key (subst (λ (e : Raw). IsPublicKey e by.own.key) element by.own.is_key)
    by.secret.agreed by.secret.granted by.secret.taken

-- an exchange whose premise is met
module _ (client_keys realm_keys : KeysRecord) (certificate : Bytes) (trust : TrustRecord) (call : PkinitCallRecord) (asked : PkinitAskedRecord)
    (met : IsExchangeMet client_keys certificate trust realm_keys call asked) where
  abbrev agreement : IsHonestAgreement client_keys realm_keys certificate asked.moment asked.words trust call
  agreement = met.exchange.agreement

  abbrev request : IsHonestRequest client_keys realm_keys certificate asked.moment asked.words trust call
  request = record {
    agreement = agreement;
    near = met.near;
    read = met.exchange.realm_trusted.read;
    reads = met.exchange.realm_trusted.accepts.reads;
    signs = met.exchange.realm_trusted.signs;
  }

  abbrev reply_there : IsHonestReply client_keys realm_keys agreement.pkinit.own (agreement_bytes call.words) asked
  reply_there = record {
    agreeing = agreement.agreeing;
    realm_trusted =
        subst (λ (n : ℤ). IsTrusted realm_keys client_keys (expected_realm asked) agreement.pkinit.own (IsKeyInfoText agreement.agreeing.realm_key.subject_public_key n)) met.nonce met.exchange.realm_trusted;
  }

  -- the client has padata
  pub has_padata : IsNoPkAsReq client_keys certificate call.body asked.moment asked.words → ⊥
  has_padata = granting.asked client_keys realm_keys certificate asked.moment asked.words trust call request

  module _ (padata : Bytes) (is : IsPkAsReqOf client_keys certificate call.body asked.moment asked.words padata) where
    one_secret : (agreed : AgreedRecord) → (pkinit_table realm_keys trust call padata).gives (Ok agreed) → HaveOneSecret client_keys trust realm_keys call asked padata
    one_secret agreed gives =
        let granted : IsGrantedAgreement realm_keys agreement.pkinit.own agreement.agreeing.realm_key.subject_public_key call.body.nonce.0 agreement.agreeing.secret (Ok agreed) =
        granting.granted client_keys realm_keys certificate asked.moment asked.words trust call request padata is (Ok agreed) gives in
        let reply : IsAgreedReply realm_keys agreement.pkinit.own agreement.agreeing.realm_key.subject_public_key (pos asked.nonce) granted.agreed.reply =
        subst (λ (n : ℤ). IsAgreedReply realm_keys agreement.pkinit.own agreement.agreeing.realm_key.subject_public_key n granted.agreed.reply) met.nonce granted.is_reply in
        record {
          enough = met.enough;
          agreed = granted.agreed;
          granted = subst (λ (r : Result AgreedRecord Code). (pkinit_table realm_keys trust call padata).gives r) granted.is_agreed gives;
          taken =
              subst (λ (s : Bytes). (secret_of client_keys asked granted.agreed.reply).gives (Ok s)) (sym granted.same_secret)
              (taking.given client_keys realm_keys agreement.pkinit.own (agreement_bytes call.words) asked reply_there granted.agreed.reply reply);
        }

    -- both come to one secret
    pub agreed_by : IsAgreedBy client_keys trust realm_keys call asked padata
    agreed_by =
        let grant = granting.grant client_keys realm_keys certificate asked.moment asked.words trust call request padata is in
        record {
          own = record {
            element = agreement.agreeing.client_element;
            value = agreement.agreeing.client_value;
            key = agreement.agreeing.client_key;
            is_key = agreement.agreeing.is_client_key;
          };
          secret = one_secret grant.0 grant.1;
        }

-- what the judge of an exchange answers, by the call and by what the client remembers
module _ (client_keys realm_keys : KeysRecord) (certificate : Bytes) (trust : TrustRecord) (own_call call : PkinitCallRecord) (own_asked asked : PkinitAskedRecord) (padata : Bytes)
    (same : own_call ≡ call) (also : own_asked ≡ asked) where
  abbrev By : PkinitCallRecord → PkinitAskedRecord → Type 0
  By c a = IsAgreedBy client_keys trust realm_keys c a padata

  abbrev Made : Type 0
  Made = IsPkAsReqOf client_keys certificate call.body asked.moment asked.words padata

  abbrev Honest : Type 0
  Honest = IsHonestExchange client_keys certificate trust realm_keys call asked

  abbrev Met : Type 0
  Met = IsExchangeMet client_keys certificate trust realm_keys call asked

  of_judged : By own_call own_asked → Made → Honest
  of_judged by made =
      honest_by client_keys realm_keys certificate trust call asked padata made
      (subst (λ (a : PkinitAskedRecord). By call a) also (subst (λ (c : PkinitCallRecord). By c own_asked) same by))

  of_met : Made → Met → By own_call own_asked
  of_met made met =
      subst (λ (c : PkinitCallRecord). By c own_asked) (sym same)
      (subst (λ (a : PkinitAskedRecord). By call a) (sym also) (agreed_by client_keys realm_keys certificate trust call asked met padata made))

  pub judged_honest : {E : Type 0} (r : Result Bool E) → IfOk r (λ is. IsTrue is ↔ By own_call own_asked) → IfOk r (λ is. IsTrue is → Made → Honest)
  judged_honest (Ok is) x = λ answer made. of_judged (x.0 answer) made
  judged_honest (Err refusal) x = tt

  pub judged_met : {E : Type 0} (r : Result Bool E) → IfOk r (λ is. IsTrue is ↔ By own_call own_asked) → IfOk r (λ is. Made → Met → IsTrue is)
  judged_met (Ok is) x = λ made met. x.1 (of_met made met)
  judged_met (Err refusal) x = tt

-- both parts of it are judged in a row
module _ (client_keys : KeysRecord) (trust : TrustRecord) (realm_keys : KeysRecord) (call : PkinitCallRecord) (asked : PkinitAskedRecord) (padata : Bytes) where
  pub both_judged : {E : Type 0} (r : Result Bool E) → HasPublicKey client_keys asked.words → IfOk r (λ is. IsTrue is ↔ HaveOneSecret client_keys trust realm_keys call asked padata)
      → IfOk r (λ is. IsTrue is ↔ IsAgreedBy client_keys trust realm_keys call asked padata)
  both_judged r own =
      judged_last (HaveOneSecret client_keys trust realm_keys call asked padata) (IsAgreedBy client_keys trust realm_keys call asked padata) r
      (λ secret. record { own = own; secret = secret }) (λ by. by.secret)

  -- what the realm grants has one secret
  pub granted_judged : {E : Type 0} (agreed : AgreedRecord) (r : Result Bool E) → AreEnoughForReply call.words → (pkinit_table realm_keys trust call padata).gives (Ok agreed)
      → IfOk r (λ is. IsTrue is ↔ (secret_of client_keys asked agreed.reply).gives (Ok agreed.secret)) → IfOk r (λ is. IsTrue is ↔ HaveOneSecret client_keys trust realm_keys call asked padata)
  granted_judged agreed r enough gives =
      judged_last ((secret_of client_keys asked agreed.reply).gives (Ok agreed.secret)) (HaveOneSecret client_keys trust realm_keys call asked padata) r
      (λ taken. record { enough = enough; agreed = agreed; granted = gives; taken = taken })
      (λ have.
      let same : have.agreed ≡ agreed = same_parts (Ok have.agreed) (Ok agreed) ((pkinit_table realm_keys trust call padata).one (Ok have.agreed) (Ok agreed) have.granted gives) in
      subst (λ (a : AgreedRecord). (secret_of client_keys asked a.reply).gives (Ok a.secret)) same have.taken)

  -- what it refuses has none
  pub no_grant : (code : Code) → (pkinit_table realm_keys trust call padata).gives (Err code) → HaveOneSecret client_keys trust realm_keys call asked padata → ⊥
  no_grant code gives have =
      same_parts (Ok have.agreed) (Err code) ((pkinit_table realm_keys trust call padata).one (Ok have.agreed) (Err code) have.granted gives)

-- a table gives one value
pub one_given : {A E : Type 0} (t : Table (Result A E)) (own other : A) (b : Bool) → t.gives (Ok own) → (IsTrue b ↔ (own ≡ other)) → IsTrue b ↔ t.gives (Ok other)
one_given {A} t own other b gives is = (
  (λ answer. subst (λ (a : A). t.gives (Ok a)) (is.0 answer) gives),
  λ also. is.1 (same_parts (Ok own) (Ok other) (t.one (Ok own) (Ok other) gives also)),
)

pub none_given : {A E : Type 0} (t : Table (Result A E)) (error : E) (other : A) → t.gives (Err error) → t.gives (Ok other) → ⊥
none_given t error other gives also = same_parts (Ok other) (Err error) (t.one (Ok other) (Err error) also gives)

-- a public value is judged by the key in it
module _ (keys : KeysRecord) (words : Bytes) where
  pub key_judged : {E : Type 0} (element : Raw) (r : Result Bool E) → keys.public_value words ≡ Some element → IfOk r (λ is. IsTrue is ↔ ((key : AgreementPublicKey) × IsPublicKey element key))
      → IfOk r (λ is. IsTrue is ↔ HasPublicKey keys words)
  key_judged element r value =
      judged_last ((key : AgreementPublicKey) × IsPublicKey element key) (HasPublicKey keys words) r
      (λ key. record { element = element; value = value; key = key.0; is_key = key.1 })
      (λ has.
      let some : Some has.element ≡ Some element = sym has.value ∙ value in
      let same : has.element ≡ element = cc (some) in
      (has.key, subst (λ (e : Raw). IsPublicKey e has.key) same has.is_key))

  pub no_key : keys.public_value words ≡ None → HasPublicKey keys words → ⊥
  no_key none has = let never : None ≡ Some has.element = sym none ∙ has.value in absurd (cc (never))
