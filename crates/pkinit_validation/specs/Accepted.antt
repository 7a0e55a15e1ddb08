-- Which certificates are accepted under an anchor (RFC 5280, section 6.1.3, for a path of one certificate).
use Rattle.std.specs.Prelude.{◌/◌, nat_le, Bool, false, true, not, ◌&&◌, Result, Ok}
use Rattle.std.specs.Bool.{nat_eq}
use Rattle.std.specs.List.{list_any}
use Rattle.std.specs.Cmp.Lexicographic.{pointwise}
use Rattle.asn1_leaves.specs.GeneralizedTime.{seconds_of}
use Rattle.krb_time.specs.Units.{Micros, Seconds}
use Rattle.decision_tables.specs.Tables.{Table, and_then, done, refuse}
use Rattle.x509_fields.specs.declared.time.Time.{Time}
use Rattle.x509_fields.specs.declared.time.Time.TheVariants.{Utc, Generalized}
use Rattle.x509_fields.specs.declared.validity.Validity.{Validity}
use Rattle.x509_certificates.specs.declared.extension.Extension.{Extension}
use Rattle.x509_certificates.specs.declared.extension_value.ExtensionValue.{ExtensionValue}
use Rattle.x509_certificates.specs.declared.extension_value.ExtensionValue.TheVariants as kind
use Rattle.x509_certificates.specs.ExtensionsFields.{extensions_in}
use Rattle.x509_certificates.specs.declared.certificate.Certificate.{Certificate}
use Rattle.x509_keys.specs.KeyFunctions.{KeysRecord}
use Rattle.pkinit_validation.specs.Certificates.{ReadRecord, name_bytes}
use Rattle.pkinit_validation.specs.Expected.{ExpectedRecord}
use Rattle.pkinit_validation.specs.Principals.{named}
use Rattle.pkinit_validation.specs.declared.refusal.TrustRefusal.{TrustRefusal}
use Rattle.pkinit_validation.specs.declared.refusal.TrustRefusal.TheVariants.{InvalidCertificate, CantVerifyCertificate}

-- A validity's time, a UTCTime or a GeneralizedTime, in seconds since year 0 (RFC 5280, section 4.1.2.5).
abbrev pub time_seconds : Time → Seconds
time_seconds (Utc time) = seconds_of time.0.time
time_seconds (Generalized time) = seconds_of time.0

-- The second of the moment is one of the validity. Both notBefore and notAfter belong to it.
abbrev pub is_valid_at : Micros → Validity → Bool
is_valid_at moment validity =
    nat_le (time_seconds validity.not_before) (moment / 1000000) && nat_le (moment / 1000000) (time_seconds validity.not_after)

-- The extension's value is of a kind that is not recognised.
abbrev pub is_generic : ExtensionValue → Bool
is_generic (kind.Generic octets) = true
is_generic other = false

-- The extension is critical, and of a kind that is not recognised.
abbrev pub is_unrecognised : Extension → Bool
is_unrecognised extension = extension.critical.0.0 && is_generic extension.extn_value

-- The certificate has a critical extension of a kind that is not recognised.
abbrev pub has_unrecognised : Certificate → Bool
has_unrecognised certificate = list_any is_unrecognised (extensions_in certificate.tbs_certificate.extensions.tagged.0)

-- Judges a certificate under the anchor: its validity, its issuer, its critical extensions and its signature.
-- Not judged: keyUsage, extKeyUsage (id-pkinit-KPClientAuth, id-pkinit-KPKdc) and basicConstraints (RFC 4556, sections 3.2.2 and 3.2.4;
-- RFC 5280, section 4.2.1.9). Test: `critical key usage and constraints`, `CA TRUE client certificate`.
-- Not judged: revocation of the certificate (RFC 5280, section 6.1.3). No test: neither a CRL nor an OCSP response is given.
-- Not judged: the validity and the extensions of the anchor's own certificate (RFC 5280, section 6.1).
-- Test: `first microsecond of 0000`.
abbrev pub issued : KeysRecord → ExpectedRecord → ReadRecord → Table (Result (Unit {0}) TrustRefusal)
issued keys expected read =
    -- The second of the moment is not before notBefore and not after notAfter (RFC 5280, section 6.1.3).
    -- Test: `certificate begins a second later, moment plus 999999`, `certificate ended a second ago`,
    -- `validity ends in this second, moment plus 999999`.
    refuse (not (is_valid_at expected.moment read.certificate.tbs_certificate.validity)) InvalidCertificate
    -- The issuer is the anchor's subject, as DER: a PrintableString is not a UTF8String (RFC 5280, section 6.1.3).
    -- Test: `another issuer`, `issuer in Printable`.
    (refuse (not (pointwise nat_eq (name_bytes read.certificate.tbs_certificate.issuer) expected.anchor.subject)) CantVerifyCertificate
    -- Each critical extension is of a recognised kind (RFC 5280, section 4.2).
    -- Test: `critical generic extension`, `generic extension not critical`.
    (refuse (has_unrecognised read.certificate) CantVerifyCertificate
    -- The signature verifies under the anchor's key, by signatureAlgorithm, over the octets of tbsCertificate in the input (RFC 5280,
    -- section 6.1.3). Test: `signature of the certificate wrong`, `certificate spelled loosely, signed over its strict spelling`.
    (refuse (not (keys.verifies expected.anchor.key read.certificate.signature_algorithm read.signed read.certificate.signature_value.octets)) CantVerifyCertificate
    (done (Ok tt)))))

-- Judges a certificate under the anchor, and then the principal that it names.
abbrev pub accepted : KeysRecord → ExpectedRecord → ReadRecord → Table (Result (Unit {0}) TrustRefusal)
accepted keys expected read = and_then (issued keys expected read) (λ _. named expected read.certificate)
