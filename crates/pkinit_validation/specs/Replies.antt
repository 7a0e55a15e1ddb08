-- What a realm replies to a client that authenticates by certificate (RFC 4556, section 3.2.3.1).
use Rattle.std.specs.Prelude.{ℕ, ℤ, List, None, Result, Ok, Err, Vec}
use Rattle.std.specs.Global.{Global}
use Rattle.asn1_der.specs.Tree.{der}
use Rattle.asn1_der.specs.Tagged.{tagged_tree}
use Rattle.picky_asn1.specs.BitString.{Bits}
use Rattle.picky_asn1.specs.Bytes.{Bytes}
use Rattle.x509_oids.specs.Identifiers as oids
use Rattle.decision_tables.specs.Tables.{Table, ask, done, need}
use Rattle.krb_messages.specs.RandomBytes.{Random}
use Rattle.krb_messages.specs.Refusals.{Code}
use Rattle.krb_constants.specs.declared.error_codes.TheConstants.{KRB_ERR_GENERIC}
use Rattle.krb_messages.specs.declared.refusal.Refusal.{Refusal}
use Rattle.x509_keys.specs.KeyFunctions.{KeysRecord}
use Rattle.pkinit_messages.specs.declared.kdc_dh_key_info.KdcDhKeyInfo.{KdcDhKeyInfo}
use Rattle.pkinit_messages.specs.declared.pa_pk_as_rep.PaPkAsRep.{PaPkAsRep}
use Rattle.pkinit_messages.specs.declared.pa_pk_as_rep.PaPkAsRep.TheVariants.{DhInfo}
use Rattle.pkinit_messages.specs.contracts.kdc_dh_key_info.KdcDhKeyInfoTagged.TheImpl as info_impl
use Rattle.pkinit_messages.specs.contracts.pa_pk_as_rep.PaPkAsRepSerialize.TheImpl as reply_impl
use Rattle.cms_signed_data.specs.Written.{IsWritten}
use Rattle.pkinit_validation.specs.AgreementBytes.{agreement_bytes}
use Rattle.pkinit_validation.specs.PublicKeys.{IsPublicKey, sole_public_key}
use Rattle.cms_signed_data.specs.WrittenOnce.{one_written}
use Rattle.asn1_der.specs.Octets.{sequence_octet}

-- id-pkinit-DHKeyData, the type of a KDCDHKeyInfo as signed content
abbrev pub dh_key_data : List ℕ
dh_key_data = oids.pkinit_dhkey_data

-- KDCDHKeyInfo has the realm's subjectPublicKey and the nonce of pkAuthenticator. It has no dhKeyExpiration, since the realm uses its
-- value once (RFC 4556, section 3.2.3.1). Test: `granted a suite 18`, `granted, nonces differ (twin)`.
abbrev pub key_info_of : Bits → ℤ → KdcDhKeyInfo
key_info_of value nonce = record {
  subject_public_key = record { 0 = value };
  nonce = record { 0 = nonce };
  dh_key_expiration = record { 0 = None };
}

-- The DER encoding of a KDCDHKeyInfo (RFC 4556, section 3.2.3.1).
unfoldable pub key_info_bytes : KdcDhKeyInfo → Bytes
key_info_bytes info = der (tagged_tree sequence_octet info_impl.ghosts.row_tree info_impl.ghosts.row_of info)

-- PA-PK-AS-REP has dhInfo with dhSignedData. It has no serverDHNonce, even where clientDHNonce is there (RFC 4556, section 3.2.3.1).
-- Test: `granted a suite 18`, `granted, client nonce`.
abbrev pub dh_reply_of : Bytes → PaPkAsRep
dh_reply_of signed = DhInfo (record { 0 = record { dh_signed_data = record { 0 = signed }; server_dh_nonce = record { 0 = None } } })

-- The DER encoding of a PA-PK-AS-REP (RFC 4556, section 3.2.3).
unfoldable pub dh_reply_bytes : PaPkAsRep → Bytes
dh_reply_bytes reply = der (reply_impl.ghosts.tree reply)

-- The PA-PK-AS-REP to a pkAuthenticator with this nonce: the public value of the random bytes, signed by the holder of the certificate.
abbrev pub pk_as_rep : KeysRecord → Bytes → ℤ → Random → Table (Result Bytes Code)
pk_as_rep keys certificate nonce words =
    -- The KDC's key agreement has a public value, whose BIT STRING is the subjectPublicKey of KDCDHKeyInfo (RFC 4556, section 3.2.3.1).
    -- Test: `public_value none`, `public_value none, client e`.
    need (keys.public_value (agreement_bytes words)) KRB_ERR_GENERIC (λ element.
    -- The KDC's public value is a SEQUENCE of any element and a BIT STRING (RFC 5280, section 4.1.2.7).
    -- Test: `public_value NULL`, `public_value bits first`.
    ask (IsPublicKey element) (sole_public_key element) (done (Err KRB_ERR_GENERIC)) (λ key.
    -- The KDC signs KDCDHKeyInfo as the dhSignedData of DHRepInfo, with its certificate (RFC 4556, section 3.2.3.1).
    -- Test: `sign none, and an algorithm named`, `sign none, client d`.
    ask (IsWritten keys.sign dh_key_data (key_info_bytes (key_info_of key.subject_public_key nonce)) certificate)
    (one_written keys.sign dh_key_data (key_info_bytes (key_info_of key.subject_public_key nonce)) certificate) (done (Err KRB_ERR_GENERIC)) (λ signed.
    done (Ok (dh_reply_bytes (dh_reply_of signed))))))

-- bytes as a definition sees them
abbrev pub as_bytes : Result (Vec ℕ Global) Refusal → Result Bytes Refusal
as_bytes (Ok bytes) = Ok bytes.items
as_bytes (Err refusal) = Err refusal
