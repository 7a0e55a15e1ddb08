-- What a client asks by the means that have padata for an honest exchange alone, and what its judge makes of that.
use Rattle.std.proofs.Common.{◌≡◌, ◌⊎◌, ◌&&◌, ℕ, Bool, true, false, List, Result, Ok, Err, inl, inr, refl, sym, ap, ◌∙◌, subst}
use Rattle.std.specs.Prelude.{◌↔◌, ◌≢◌, IfErr, IfOk, IsTrue}
use Rattle.picky_asn1.specs.Bytes.{Bytes}
use Rattle.krb_messages.specs.RandomBytes.{AreEnoughForReply}
use Rattle.krb_messages.specs.TicketGranting.{krbtgt_of}
use Rattle.krb_messages.specs.declared.data_types.pa_data.PaData.{PaData}
use Rattle.krb_realm_accounts.specs.Names.{are_components, is_realm_name}
use Rattle.krb_kdc_exchanges.specs.Call.{pkinit_call}
use Rattle.krb_kdc_exchanges.specs.PkinitCalls.{PkinitCallRecord}
use Rattle.krb_client.specs.AsRequest.{IsUnasked, as_body}
use Rattle.krb_client.specs.Client.{ClientRecord}
use Rattle.krb_client.specs.Means.{MeansRecord}
use Rattle.krb_client.specs.Requests.{nonce_of}
use Rattle.krb_client.specs.declared.refusal.AskRefusal.{AskRefusal}
use Rattle.krb_client.specs.declared.refusal.AskRefusal.TheVariants.{Memory, NoKeyFunction}
use Rattle.krb_service.specs.Service.{ServiceRecord}
use Rattle.krb_logins.specs.Honest.{IsHonestLogin}
use Rattle.krb_logins.specs.Parties.{LoginRecord, RealmRecord, RememberedRecord, call_at}
use Rattle.x509_keys.specs.KeyFunctions.{KeysRecord}
use Rattle.pkinit_validation.specs.Anchors.{AnchorRecord}
use Rattle.pkinit_validation.specs.Trust.{TrustRecord}
use Rattle.pkinit_clients.specs.Asked.{PkinitAskedRecord}
use Rattle.pkinit_clients.specs.Requests.{IsNoPkAsReq}
use Rattle.krb_realm.specs.Exchange.{IsExchangeMet, IsHonestExchange}
use Rattle.krb_realm.specs.ExchangeMeans.{asked_at, exchange_means}
use Rattle.krb_realm.specs.HonestByCertificate.{IsHonestByCertificate, pkinit_asked_of_login, pkinit_call_of_login}
use Rattle.krb_realm.proofs.Honesty.{has_padata}

-- padata that were made are refused only where the premise isn't met
pub unshown_as : {A : Type 0} (r : Result A AskRefusal) (Made Met : Type 0) → Made
    → IfErr r (λ refusal. (refusal ≡ Memory) ⊎ ((refusal ≡ NoKeyFunction) × (Made → Met → ⊥))) → IfErr r (λ refusal. (refusal ≡ Memory) ⊎ ((refusal ≡ NoKeyFunction) × (Met → ⊥)))
unshown_as (Ok value) Made Met made x = tt
unshown_as (Err refusal) Made Met made (inl x) = inl x
unshown_as (Err refusal) Made Met made (inr x) = inr (x.0, λ met. x.1 made met)

-- and so are padata that aren't made
pub unmade_as : (client_keys realm_keys : KeysRecord) (certificate : Bytes) (trust : TrustRecord) (call : PkinitCallRecord) (asked : PkinitAskedRecord) (refusal : AskRefusal)
    → (refusal ≡ Memory) ⊎ ((refusal ≡ NoKeyFunction) × IsNoPkAsReq client_keys certificate call.body asked.moment asked.words)
    → (refusal ≡ Memory) ⊎ ((refusal ≡ NoKeyFunction) × (IsExchangeMet client_keys certificate trust realm_keys call asked → ⊥))
unmade_as client_keys realm_keys certificate trust call asked refusal (inl x) = inl x
unmade_as client_keys realm_keys certificate trust call asked refusal (inr x) = inr (x.0, λ met. has_padata client_keys realm_keys certificate trust call asked met x.1)

-- the ticket-granting service has a name
granting_name : (realm : Bytes) → is_realm_name realm ≡ true → are_components (krbtgt_of realm) ≡ true
granting_name realm named = ap (λ b. b && true) named

-- a client that asks the ticket-granting service of its realm
module _ (client : ClientRecord) (certificate : Bytes) (anchor : AnchorRecord) (client_keys : KeysRecord) (realm : RealmRecord) (trust : TrustRecord) (realm_keys : KeysRecord) (login : LoginRecord)
    (service : List Bytes) (nonce : ℕ) (named : service ≡ krbtgt_of client.realm) (numbered : nonce ≡ nonce_of login.words_as) where
  abbrev means : MeansRecord
  means = exchange_means client certificate anchor client_keys (call_at realm login.realm_as login.realm_words_as) trust realm_keys nonce

  abbrev Honest : PkinitCallRecord → PkinitAskedRecord → Type 0
  Honest = IsHonestExchange client_keys certificate trust realm_keys

  abbrev Met : PkinitCallRecord → PkinitAskedRecord → Type 0
  Met = IsExchangeMet client_keys certificate trust realm_keys

  abbrev call_for : List Bytes → PkinitCallRecord
  call_for s = pkinit_call (call_at realm login.realm_as login.realm_words_as) client.components (as_body client s login.till login.words_as)

  abbrev asked_by : ℕ → PkinitAskedRecord
  asked_by n = asked_at client anchor n login.client_as login.words_as

  -- the client has padata for an honest exchange alone
  pub asked_honest : (padata : PaData) → means.asks (as_body client service login.till login.words_as) login.client_as login.words_as padata
      → Honest (pkinit_call_of_login client realm login) (pkinit_asked_of_login anchor client login)
  asked_honest padata asks =
      subst (λ (n : ℕ). Honest (call_for (krbtgt_of client.realm)) (asked_by n)) numbered
      (subst (λ (s : List Bytes). Honest (call_for s) (asked_by nonce)) named asks.1)

  own_met : Met (pkinit_call_of_login client realm login) (pkinit_asked_of_login anchor client login) → Met (call_for service) (asked_by nonce)
  own_met met =
      subst (λ (s : List Bytes). Met (call_for s) (asked_by nonce)) (sym named)
      (subst (λ (n : ℕ). Met (call_for (krbtgt_of client.realm)) (asked_by n)) (sym numbered) met)

  -- where its premise is met, only memory refuses it
  pub only_memory : is_realm_name client.realm ≡ true → (refusal : AskRefusal) → IsUnasked client means service login.till login.client_as login.words_as refusal
      → Met (pkinit_call_of_login client realm login) (pkinit_asked_of_login anchor client login) → refusal ≡ Memory
  only_memory realm_named refusal (inl x) met =
      let never : false ≡ true = sym x.1 ∙ ap are_components named ∙ granting_name client.realm realm_named in absurd (cc (never))
  only_memory realm_named refusal (inr (inl x)) met = x
  only_memory realm_named refusal (inr (inr x)) met = absurd (x.1 (own_met met))

-- what is false isn't true
pub never_true : {E : Type 0} (r : Result Bool E) (P Q : Type 0) → IfOk r (λ is. P × (is ≡ false)) → IfOk r (λ is. IsTrue is → Q)
never_true (Ok is) P Q x = λ answer. let never : false ≡ true = sym x.1 ∙ answer in absurd (cc (never))
never_true (Err refusal) P Q x = tt

pub only_refused : {E : Type 0} (r : Result Bool E) (refusal : AskRefusal) (Q : Type 0) → IfOk r (λ is. (refusal ≢ Memory) × (is ≡ false)) → (Q → refusal ≡ Memory) → IfOk r (λ is. Q → IsTrue is)
only_refused (Ok is) refusal Q x memory = λ met. absurd (x.0 (memory met))
only_refused (Err other) refusal Q x memory = tt

-- an honest login is one by certificate where its exchange is honest
pub certified_judged : {E : Type 0} (client : ClientRecord) (certificate : Bytes) (anchor : AnchorRecord) (client_keys : KeysRecord) (realm : RealmRecord) (trust : TrustRecord) (realm_keys : KeysRecord)
    (service : ServiceRecord) (before : RememberedRecord) (login : LoginRecord) (r : Result Bool E) → AreEnoughForReply login.realm_words_as → IsHonestLogin client realm service before login
    → IfOk r (λ is. IsTrue is → IsHonestExchange client_keys certificate trust realm_keys (pkinit_call_of_login client realm login) (pkinit_asked_of_login anchor client login))
    → IfOk r (λ is. IsExchangeMet client_keys certificate trust realm_keys (pkinit_call_of_login client realm login) (pkinit_asked_of_login anchor client login) → IsTrue is)
    → IfOk r (λ is. IsTrue is ↔ IsHonestByCertificate client certificate anchor client_keys realm trust realm_keys service before login)
certified_judged client certificate anchor client_keys realm trust realm_keys service before login (Ok is) enough honest x y = (
  (λ answer. record { honest = honest; exchange = x answer }),
  λ by. y (record { enough = enough; near = by.honest.timely.as_near; nonce = refl; exchange = by.exchange }),
)
certified_judged client certificate anchor client_keys realm trust realm_keys service before login (Err refusal) enough honest x y = tt
