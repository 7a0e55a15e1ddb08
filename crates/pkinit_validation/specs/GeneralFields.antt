-- The fields of an extensible AuthPack as a KDC judges them (RFC 4556, section 3.2.1; RFC 8636; MS-PKCA, section 2.2.3).
use Rattle.std.specs.Prelude.{ℤ, not, Option, None, Some, Result, Ok, Err}
use Rattle.picky_asn1.specs.Bytes.{Bytes}
use Rattle.picky_asn1_der.specs.Raw.{Raw}
use Rattle.decision_tables.specs.Tables.{Table, and_then, ask, done, need, refuse}
use Rattle.krb_constants.specs.declared.error_codes.TheConstants.{KDC_ERR_PREAUTH_FAILED}
use Rattle.krb_messages.specs.Bodies.{body_bytes}
use Rattle.krb_messages.specs.Refusals.{Code}
use Rattle.krb_messages.specs.declared.messages.kdc_req_body.KdcReqBody.{KdcReqBody}
use Rattle.krb_time.specs.Units.{Micros}
use Rattle.pkinit_messages.specs.declared.agility.kdf.Kdf.{Kdf}
use Rattle.pkinit_messages.specs.AuthPacks.{are_in_order, authenticator_in, checksum_in, kdfs_in, time_in, value_in}
use Rattle.pkinit_validation.specs.Checksums.{IsPaChecksum2, is_checksum_of, second_checksum_in, sole_pa_checksum}
use Rattle.pkinit_messages.specs.ChosenKdfs.{first_known}
use Rattle.pkinit_messages.specs.declared.agility.auth_pack.ExtensibleAuthPack.{ExtensibleAuthPack}
use Rattle.pkinit_validation.specs.AuthPacks.{is_sha1_of}

-- the element of clientPublicValue, the time and the nonce of pkAuthenticator, and the key derivation function
pub record FieldsRecord : Type 0 where
  pub value : Raw
  pub time : Micros
  pub nonce : ℤ
  pub kdf : Option Kdf

-- Judges paChecksum2, where it is there.
abbrev pub second_checksum : Bytes → Option Raw → Table (Result (Unit {0}) Code)
second_checksum bytes None = done (Ok tt)
second_checksum bytes (Some field) =
    -- The field [5] of pkAuthenticator is the one DER encoding of a PAChecksum2 (MS-PKCA, section 2.2.3). Test: `paChecksum2 NULL`.
    ask (IsPaChecksum2 field) (sole_pa_checksum field) (done (Err KDC_ERR_PREAUTH_FAILED)) (λ checksum.
    -- The paChecksum2 is the digest of the KDC-REQ-BODY by its algorithm: SHA-1, SHA-256, SHA-384 or SHA-512 (MS-PKCA, section 2.2.3).
    -- Test: `granted, paChecksum2 SHA-256`, `paChecksum2 of another body`, `paChecksum2 SHA-224`.
    refuse (not (is_checksum_of bytes checksum.0)) KDC_ERR_PREAUTH_FAILED
    (done (Ok tt)))

-- Judges the checksums of pkAuthenticator.
abbrev pub covers : KdcReqBody → ExtensibleAuthPack → Table (Result (Unit {0}) Code)
covers body pack =
    -- The paChecksum of pkAuthenticator is there, and is the SHA-1 digest of the KDC-REQ-BODY (RFC 4556, section 3.2.1). Test:
    -- `paChecksum missing beside paChecksum2`, `paChecksum of another body`.
    refuse (not (is_sha1_of (body_bytes body) (checksum_in pack))) KDC_ERR_PREAUTH_FAILED
    (second_checksum (body_bytes body) (second_checksum_in pack))

-- Judges the fields of an extensible AuthPack.
-- Not judged: supportedCMSTypes, a list of any elements (RFC 4556, section 3.2.1). Test: `granted, CMS types of Heimdal`.
-- Not judged: clientDHNonce and freshnessToken (RFC 4556, section 3.2.1; RFC 8070, section 4). Test: `granted, freshness token`.
-- Ignored: further fields in their order (X.680, section 25.2). Test: `granted, field [6]`.
abbrev pub general_fields : KdcReqBody → ExtensibleAuthPack → Table (Result FieldsRecord Code)
general_fields body pack =
    -- Further fields ascend, each number once (X.680, section 25.6). Test: `field [6] twice`, `fields [7], [6]`.
    refuse (not (are_in_order pack)) KDC_ERR_PREAUTH_FAILED
    -- The AuthPack has clientPublicValue, which may be any element (RFC 4556, section 3.2.1). Test: `general: public value missing`.
    (need (value_in pack) KDC_ERR_PREAUTH_FAILED (λ value.
    -- The cusec of pkAuthenticator is from 0 to 999,999 (RFC 4556, section 3.2.1). Test: `general: cusec 1000000`.
    need (time_in pack) KDC_ERR_PREAUTH_FAILED (λ time.
    and_then (covers body pack) (λ _.
    done (Ok (record { value = value; time = time; nonce = (authenticator_in pack).nonce.0; kdf = first_known (kdfs_in pack) }))))))
