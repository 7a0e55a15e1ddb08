-- PA-PK-AS-REP with or without a key derivation function (RFC 4556, section 3.2.3.1; RFC 8636, section 6).
use Rattle.std.specs.Prelude.{ℤ, Option, None, Some, Result, Ok, Err}
use Rattle.picky_asn1.specs.Bytes.{Bytes}
use Rattle.decision_tables.specs.Tables.{Table, ask, done, need}
use Rattle.krb_constants.specs.declared.error_codes.TheConstants.{KRB_ERR_GENERIC}
use Rattle.krb_messages.specs.RandomBytes.{Random}
use Rattle.krb_messages.specs.Refusals.{Code}
use Rattle.x509_keys.specs.KeyFunctions.{KeysRecord}
use Rattle.cms_signed_data.specs.Written.{IsWritten}
use Rattle.cms_signed_data.specs.WrittenOnce.{one_written}
use Rattle.pkinit_messages.specs.declared.agility.kdf.Kdf.{Kdf}
use Rattle.pkinit_messages.specs.AgileReplies.{agile_reply_bytes, agile_reply_of}
use Rattle.pkinit_validation.specs.AgreementBytes.{agreement_bytes}
use Rattle.pkinit_validation.specs.PublicKeys.{IsPublicKey, sole_public_key}
use Rattle.pkinit_validation.specs.Replies.{dh_key_data, key_info_bytes, key_info_of, pk_as_rep}

-- The PA-PK-AS-REP that names a key derivation function: the rows of `pk_as_rep`, with the function in DHRepInfo.
abbrev pub agile_reply : KeysRecord → Bytes → ℤ → Random → Kdf → Table (Result Bytes Code)
agile_reply keys certificate nonce words kdf =
    -- The KDC's key agreement has a public value (RFC 4556, section 3.2.3.1). No test: the rows' keys have one.
    need (keys.public_value (agreement_bytes words)) KRB_ERR_GENERIC (λ element.
    -- The KDC's public value is a SEQUENCE of any element and a BIT STRING (RFC 5280, section 4.1.2.7). No test: that of the rows' keys is.
    ask (IsPublicKey element) (sole_public_key element) (done (Err KRB_ERR_GENERIC)) (λ key.
    -- The KDC signs KDCDHKeyInfo as the dhSignedData of DHRepInfo, with its certificate (RFC 4556, section 3.2.3.1).
    -- No test: the rows' keys sign each content.
    ask (IsWritten keys.sign dh_key_data (key_info_bytes (key_info_of key.subject_public_key nonce)) certificate)
    (one_written keys.sign dh_key_data (key_info_bytes (key_info_of key.subject_public_key nonce)) certificate) (done (Err KRB_ERR_GENERIC)) (λ signed.
    done (Ok (agile_reply_bytes (agile_reply_of signed kdf))))))

-- The PA-PK-AS-REP by the key derivation function, if there is one.
abbrev pub general_reply : KeysRecord → Bytes → ℤ → Random → Option Kdf → Table (Result Bytes Code)
general_reply keys certificate nonce words None = pk_as_rep keys certificate nonce words
general_reply keys certificate nonce words (Some kdf) = agile_reply keys certificate nonce words kdf
