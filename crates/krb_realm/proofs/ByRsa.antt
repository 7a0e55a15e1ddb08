-- An honest login by RSA certificates is one by certificates.
use Rattle.std.proofs.Common.{◌≡◌, Some, ap, subst}
use Rattle.std.specs.Prelude.{is_ok}
use Rattle.picky_asn1_der.specs.Raw.{Raw}
use Rattle.picky_asn1.specs.Bytes.{Bytes}
use Rattle.public_key_cryptography.specs.declared.group.Group.{Group}
use Rattle.krb_client.specs.Asked.{agreement_part}
use Rattle.krb_client.specs.Client.{ClientRecord}
use Rattle.krb_service.specs.Service.{ServiceRecord}
use Rattle.krb_logins.specs.Parties.{LoginRecord, RealmRecord, RememberedRecord}
use Rattle.pkinit_validation.specs.Anchors.{AnchorRecord}
use Rattle.pkinit_validation.specs.Expected.{ExpectedRecord}
use Rattle.pkinit_validation.specs.AgreementBytes.{agreement_bytes}
use Rattle.pkinit_validation.specs.PublicKeys.{IsPublicKey}
use Rattle.pkinit_validation.specs.Trust.{TrustRecord}
use Rattle.krb_realm.specs.Agreements.{IsTrusted}
use Rattle.krb_realm.specs.HonestByCertificate.{IsHonestByCertificate}
use Rattle.rsa_keys.specs.Values.{is_value, value_element}
use Rattle.rsa_keys.specs.Agreements.{IsAgreed, own_number, own_value}
use Rattle.rsa_keys.specs.Functions.{rsa_functions}
use Rattle.rsa_keys.specs.declared.own_key.OwnKey.{OwnKey}
use Rattle.rsa_keys.proofs.RightKeys.{right-made}
use Rattle.rsa_keys.proofs.Shared.{taken}
use Rattle.rsa_keys.proofs.Verified.{signed_valid}
use Rattle.krb_realm.specs.HonestByRsa.{IsCertified, IsHonestByRsa}
use Rattle.krb_realm.proofs.PublicKeys.{is_public_key, key_of}

-- what the party signs verifies under its certificate's key
trusted : (group : Group) (own other : OwnKey) (expected : ExpectedRecord) (certificate : Bytes) (IsText : Bytes → Type 0) → IsCertified group own other expected certificate
    → IsTrusted (rsa_functions group (Some own)) (rsa_functions group (Some other)) expected certificate IsText
trusted group own other expected certificate IsText h = record {
  read = h.read;
  accepts = h.accepts;
  signs = λ text is.
      let made = right-made own text h.right in
      (made.0, made.1, ap (λ answer. is_ok answer) (signed_valid own h.read.certificate.tbs_certificate.subject_public_key_info text made.0 h.is_own made.1));
}

-- a public value is a public key
own_key : (group : Group) (secret : Bytes) (value : Raw) → own_value group secret ≡ Some value → IsPublicKey value (key_of group (own_number group secret))
own_key group secret value e =
    subst (λ element. IsPublicKey element (key_of group (own_number group secret)))
    (taken (is_value group (own_number group secret)) (value_element group (own_number group secret)) value e).same (is_public_key group (own_number group secret))

pub by_rsa : (group : Group) (client : ClientRecord) (certificate : Bytes) (anchor : AnchorRecord) (client_own : OwnKey) (realm : RealmRecord) (trust : TrustRecord) (realm_own : OwnKey)
    (service : ServiceRecord) (before : RememberedRecord) (login : LoginRecord)
    → ((ours theirs : Bytes) (our_value their_value : Raw) → own_value group ours ≡ Some our_value → own_value group theirs ≡ Some their_value → IsAgreed group ours theirs their_value)
    → IsHonestByRsa group client certificate anchor client_own realm trust realm_own service before login
    → IsHonestByCertificate client certificate anchor (rsa_functions group (Some client_own)) realm trust (rsa_functions group (Some realm_own)) service before login
by_rsa group client certificate anchor client_own realm trust realm_own service before login one_secret h =
    let client_words : Bytes = agreement_part login.words_as in
    let realm_words : Bytes = agreement_bytes login.realm_words_as in
    let shared : IsAgreed group realm_words client_words h.client_value = one_secret realm_words client_words h.realm_value h.client_value h.has_realm_value h.has_client_value in
    record {
      honest = h.honest;
      exchange = record {
        agreement = record {
          agreeing = record {
            client_element = h.client_value;
            client_value = h.has_client_value;
            client_key = key_of group (own_number group client_words);
            is_client_key = own_key group client_words h.client_value h.has_client_value;
            realm_element = h.realm_value;
            realm_value = h.has_realm_value;
            realm_key = key_of group (own_number group realm_words);
            is_realm_key = own_key group realm_words h.realm_value h.has_realm_value;
            secret = shared.secret;
            realm_agrees = shared.by_value;
            client_agrees = shared.by_bits;
          };
          pkinit = h.pkinit;
          client_trusted = trusted group client_own realm_own _ certificate _ h.client_certified;
        };
        realm_trusted = trusted group realm_own client_own _ h.pkinit.own _ h.realm_certified;
      };
    }
