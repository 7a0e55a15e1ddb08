-- The key that a client makes of what it found is made for its request and the reply.
use Rattle.std.proofs.Common.{◌≡◌, Option, None, Some, Result, sym, subst}
use Rattle.std.specs.Prelude.{IfOk}
use Rattle.picky_asn1.specs.Bytes.{Bytes}
use Rattle.krb_client.specs.Client.{ClientRecord}
use Rattle.krb_crypto.specs.AgreedKeys.{agreed_key}
use Rattle.krb_crypto.specs.Keys.{KeyRecord}
use Rattle.krb_crypto.specs.declared.suite.CipherSuite.{CipherSuite}
use Rattle.krb_kdc_exchanges.specs.AgreedKeys.{key_by}
use Rattle.krb_kdc_exchanges.specs.Requests.{body_of, client_of, service_of}
use Rattle.krb_messages.specs.declared.data_types.principal_name.PrincipalName.{PrincipalName}
use Rattle.krb_messages.specs.declared.messages.kdc_req.KdcReq.{KdcReq}
use Rattle.pkinit_messages.specs.Contexts.{ContextRecord}
use Rattle.pkinit_messages.specs.DerivedKeys.{derived_key}
use Rattle.pkinit_messages.specs.declared.agility.kdf.Kdf.{Kdf}
use Rattle.pkinit_clients.specs.AgileMeans.{asked_context}

-- the key is that of the client's suite
abbrev pub IsKeyOf : {E : Type 0} → ClientRecord → Option Kdf → Bytes → ContextRecord → Result KeyRecord E → Type 0
IsKeyOf client kdf secret context result = IfOk result (λ key. key ≡ record { suite = client.suite; bytes = key_by client.suite kdf secret context })

pub agreed_is : {E : Type 0} (client : ClientRecord) (result : Result KeyRecord E) (suite : CipherSuite) (secret : Bytes) (context : ContextRecord) → suite ≡ client.suite
    → IfOk result (λ key. key ≡ record { suite = suite; bytes = agreed_key suite secret }) → (chosen : Option Kdf) → chosen ≡ None → IsKeyOf client chosen secret context result
agreed_is client result suite secret context same made chosen none =
    subst (λ (c : Option Kdf). IsKeyOf client c secret context result) (sym none)
    (subst (λ (s : CipherSuite). IfOk result (λ key. key ≡ record { suite = s; bytes = agreed_key s secret })) same made)

module _ (client : ClientRecord) (request : KdcReq) (realm : Bytes) (name service : Option PrincipalName) (as_req padata : Bytes) where
  -- what the key is derived for, by its parts
  abbrev context_by : ContextRecord
  context_by = record { realm = realm; client = name; service = service; as_req = as_req; pk_as_rep = padata }

  same_context : realm ≡ client.realm → name ≡ client_of (body_of request) → service ≡ service_of (body_of request) → context_by ≡ asked_context client request as_req padata
  same_context realms names services = λ i. record { realm = realms i; client = names i; service = services i; as_req = as_req; pk_as_rep = padata }

  pub derived_is : {E : Type 0} (result : Result KeyRecord E) (suite : CipherSuite) (kdf : Kdf) (secret : Bytes) → suite ≡ client.suite → realm ≡ client.realm
      → name ≡ client_of (body_of request) → service ≡ service_of (body_of request)
      → IfOk result (λ key. key ≡ record { suite = suite; bytes = derived_key suite kdf secret context_by }) → (chosen : Option Kdf) → chosen ≡ Some kdf
      → IsKeyOf client chosen secret (asked_context client request as_req padata) result
  derived_is result suite kdf secret same realms names services made chosen is =
      subst (λ (c : Option Kdf). IsKeyOf client c secret (asked_context client request as_req padata) result) (sym is)
      (subst (λ (context : ContextRecord). IfOk result (λ key. key ≡ record { suite = client.suite; bytes = derived_key client.suite kdf secret context })) (same_context realms names services)
      (subst (λ (s : CipherSuite). IfOk result (λ key. key ≡ record { suite = s; bytes = derived_key s kdf secret context_by })) same made))
