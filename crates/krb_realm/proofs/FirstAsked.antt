-- The client that an AS exchange authenticated itself asked, by its certificate or by the key of its account.
use Rattle.std.proofs.Common.{◌≡◌, List, Some, Ok, sym, subst, inl, inr}
use Rattle.asn1_leaves.specs.declared.date.GeneralizedTime.{GeneralizedTime}
use Rattle.picky_asn1.specs.Bytes.{Bytes}
use Rattle.krb_time.specs.Units.{Micros}
use Rattle.krb_messages.specs.Names.{components}
use Rattle.krb_messages.specs.Padata.{first_of, padata_in}
use Rattle.krb_messages.specs.declared.data_types.principal_name.PrincipalName.{PrincipalName}
use Rattle.krb_kdc_exchanges.specs.Call.{pkinit_call}
use Rattle.krb_kdc_exchanges.specs.PkinitCalls.{AgreedRecord, PkinitCallRecord}
use Rattle.krb_kdc_exchanges.specs.Requests.{body_of}
use Rattle.krb_authenticity.specs.Authentic.{WasAuthenticated}
use Rattle.krb_authenticity.specs.Parties.{ExchangeRecord, SentRecord}
use Rattle.krb_authenticity.proofs.Named.{timed_named}
use Rattle.x509_keys.specs.KeyFunctions.{KeysRecord}
use Rattle.x509_keys.specs.declared.subject_public_key_info.SubjectPublicKeyInfo.{SubjectPublicKeyInfo}
use Rattle.pkinit_validation.specs.Anchors.{AnchorRecord}
use Rattle.pkinit_validation.specs.Expected.{ExpectedRecord}
use Rattle.pkinit_validation.specs.PkinitRows.{pkinit_rows}
use Rattle.pkinit_validation.specs.PkinitTable.{pkinit_table}
use Rattle.pkinit_validation.specs.Trust.{TrustRecord}
use Rattle.krb_realm.specs.FirstAsked.{AreKeysOwn, IsAskedByClient, IsCertifiedClient, expected_by}
use Rattle.krb_realm.specs.Signatures.{CertifiedRequest, IsByCertificate}
use Rattle.krb_realm.proofs.Signatures.{client_certified}

-- of equal names the same certificate is expected
same_expected : (realm other : Bytes) (client name : PrincipalName) (anchor : AnchorRecord) (moment : Micros) → realm ≡ other → client ≡ name
    → expected_by other name anchor moment ≡ expected_by realm client anchor moment
same_expected realm other client name anchor moment in_realm named = λ i. expected_by (sym in_realm i) (sym named i) anchor moment

module _ (trust : TrustRecord) (keys : KeysRecord) (secrets : List Bytes) (exchanges : List ExchangeRecord) (sent : SentRecord) (holders : List SubjectPublicKeyInfo) (certified : List CertifiedRequest)
    (realm : Bytes) (client : PrincipalName) (authtime : GeneralizedTime) (was : WasAuthenticated (pkinit_rows trust keys) secrets exchanges sent realm client authtime)
    (own : AreKeysOwn keys holders certified was.exchange sent) where
  abbrev call : PkinitCallRecord
  call = pkinit_call was.exchange.call (components was.first.principals.client_name) (body_of was.first.asked)

  by_certificate : (padata : Bytes) (agreed : AgreedRecord) → first_of 16 (padata_in was.first.asked) ≡ Some padata → (pkinit_table keys trust call padata).gives (Ok agreed)
      → IsCertifiedClient keys trust holders certified was.exchange realm client
  by_certificate padata agreed first given =
      let x = client_certified keys trust holders certified was.exchange was.first.asked was.first.read padata first own.signatures call agreed given in
      record {
        anchor = x.0;
        is_anchor = x.1;
        by = subst (λ (e : ExpectedRecord). IsByCertificate keys e holders certified was.exchange)
            (same_expected realm was.exchange.call.realm client was.first.principals.client_name x.0 was.exchange.call.moment was.in_realm was.named) x.3;
      }

  pub client_asked : IsAskedByClient keys trust secrets holders certified sent was.exchange was.first.principals.client.key realm client
  client_asked = elim was.shown [
    | inl x ↦ inl (by_certificate x.0 x.1 x.2 x.3)
    | inr timed ↦ inr (λ kept. timed_named (pkinit_rows trust keys) secrets exchanges sent realm client authtime was own.apart own.by_own (timed kept))
  ]
