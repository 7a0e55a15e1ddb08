-- Who signed some content (RFC 5652, section 5.6; RFC 4556, sections 3.2.2 and 3.2.4).
use Rattle.std.specs.Prelude.{not, Result, Ok}
use Rattle.std.specs.Bool.{nat_eq}
use Rattle.std.specs.Cmp.Lexicographic.{pointwise}
use Rattle.sha2.specs.Sha256.{sha256}
use Rattle.picky_asn1.specs.Integer.{integer_content}
use Rattle.decision_tables.specs.Tables.{Table, done, refuse}
use Rattle.x509_certificates.specs.declared.certificate.Certificate.{Certificate}
use Rattle.x509_keys.specs.KeyFunctions.{KeysRecord}
use Rattle.pkinit_validation.specs.Certificates.{name_bytes}
use Rattle.pkinit_validation.specs.Judged.{JudgedRecord}
use Rattle.pkinit_validation.specs.declared.refusal.TrustRefusal.{TrustRefusal}
use Rattle.pkinit_validation.specs.declared.refusal.TrustRefusal.TheVariants.{InvalidSignature}

-- Judges whether the certificate's holder signed the content.
abbrev pub signed_by : KeysRecord → Certificate → JudgedRecord → Table (Result (Unit {0}) TrustRefusal)
signed_by keys certificate judged =
    -- The sid of the SignerInfo has the certificate's issuer (RFC 5652, section 5.3). Test: `other issuer`, `issuer is the subject`.
    refuse (not (pointwise nat_eq (name_bytes certificate.tbs_certificate.issuer) (name_bytes judged.issuer))) InvalidSignature
    -- The sid of the SignerInfo has the certificate's serialNumber (RFC 5652, section 5.3). Test: `other serial`, `serial modulo 256`.
    (refuse (not (pointwise nat_eq (integer_content certificate.tbs_certificate.serial_number) (integer_content judged.serial))) InvalidSignature
    -- The message-digest attribute is the SHA-256 digest of the eContent octets (RFC 5652, sections 5.4 and 5.6).
    -- Test: `digest of other content`, `digest empty`.
    (refuse (not (pointwise nat_eq (sha256 judged.content) judged.digest)) InvalidSignature
    -- The signature verifies under the certificate's key over the signed attributes (RFC 5652, sections 5.4 and 5.6).
    -- Test: `signature wrong`, `signature over the content` of `trusted.txt`.
    -- The signature is over the signed attributes with the tag of a SET OF in place of [0] (RFC 5652, section 5.4).
    -- Test: `signature over first byte A0` of `trusted.txt`.
    (refuse (not (keys.verifies certificate.tbs_certificate.subject_public_key_info judged.algorithm judged.covered judged.signature)) InvalidSignature
    (done (Ok tt)))))
