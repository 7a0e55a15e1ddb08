-- The key that a key derivation function gives is made for the request and the reply.
use Rattle.std.proofs.Common.{◌≡◌, Option, Some, Result, sym, subst}
use Rattle.std.specs.Prelude.{IfOk}
use Rattle.picky_asn1.specs.Bytes.{Bytes}
use Rattle.krb_crypto.specs.Keys.{KeyRecord}
use Rattle.krb_crypto.specs.declared.suite.CipherSuite.{CipherSuite}
use Rattle.krb_messages.specs.declared.data_types.principal_name.PrincipalName.{PrincipalName}
use Rattle.krb_messages.specs.declared.messages.kdc_req.KdcReq.{KdcReq}
use Rattle.pkinit_messages.specs.Contexts.{ContextRecord}
use Rattle.pkinit_messages.specs.DerivedKeys.{derived_key}
use Rattle.pkinit_messages.specs.declared.agility.kdf.Kdf.{Kdf}
use Rattle.krb_kdc_exchanges.specs.AgreedKeys.{as_req_bytes, kdf_context, key_by}
use Rattle.krb_kdc_exchanges.specs.Call.{CallRecord}
use Rattle.krb_kdc_exchanges.specs.Requests.{body_of, client_of, service_of}

module _ (call : CallRecord) (request : KdcReq) (client service : Option PrincipalName) (as_req reply : Bytes) where
  -- what the key is derived for, by its parts
  abbrev context_by : ContextRecord
  context_by = record { realm = call.realm; client = client; service = service; as_req = as_req; pk_as_rep = reply }

  same_context : client ≡ client_of (body_of request) → service ≡ service_of (body_of request) → as_req ≡ as_req_bytes request → context_by ≡ kdf_context call request reply
  same_context clients services requests =
      λ i. record { realm = call.realm; client = clients i; service = services i; as_req = requests i; pk_as_rep = reply }

  pub derived_is : {E : Type 0} (result : Result KeyRecord E) (suite : CipherSuite) (kdf : Kdf) (secret : Bytes) → client ≡ client_of (body_of request)
      → service ≡ service_of (body_of request) → as_req ≡ as_req_bytes request
      → IfOk result (λ key. key ≡ record { suite = suite; bytes = derived_key suite kdf secret context_by }) → (chosen : Option Kdf) → chosen ≡ Some kdf
      → IfOk result (λ key. key ≡ record { suite = suite; bytes = key_by suite chosen secret (kdf_context call request reply) })
  derived_is result suite kdf secret clients services requests made chosen is =
      subst (λ (c : Option Kdf). IfOk result (λ key. key ≡ record { suite = suite; bytes = key_by suite c secret (kdf_context call request reply) })) (sym is)
      (subst (λ (context : ContextRecord). IfOk result (λ key. key ≡ record { suite = suite; bytes = derived_key suite kdf secret context })) (same_context clients services requests) made)
