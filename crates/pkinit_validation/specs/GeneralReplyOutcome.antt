-- PA-PK-AS-REP with a key derivation function is made or refused: one of the two is the outcome.
use Rattle.std.proofs.Common.{ℤ, Option, None, Some, Result, Ok, Err}
use Rattle.picky_asn1.specs.Bytes.{Bytes}
use Rattle.krb_constants.specs.declared.error_codes.TheConstants.{KRB_ERR_GENERIC}
use Rattle.krb_messages.specs.RandomBytes.{Random}
use Rattle.krb_messages.specs.Refusals.{Code}
use Rattle.decision_tables.specs.Tables.{Table, ask, done}
use Rattle.decision_tables.proofs.Outcomes.{HasOutcome, has_asked, has_done, has_needed}
use Rattle.x509_keys.specs.KeyFunctions.{KeysRecord}
use Rattle.cms_signed_data.specs.Written.{IsWritten}
use Rattle.cms_signed_data.specs.WrittenOnce.{one_written}
use Rattle.pkinit_messages.specs.declared.agility.kdf.Kdf.{Kdf}
use Rattle.pkinit_messages.specs.AgileReplies.{agile_reply_bytes, agile_reply_of}
use Rattle.pkinit_validation.specs.AgreementBytes.{agreement_bytes}
use Rattle.pkinit_validation.specs.PublicKeys.{IsPublicKey, sole_public_key}
use Rattle.pkinit_validation.specs.ReplyOutcome.{has_reply}
use Rattle.pkinit_validation.specs.Replies.{dh_key_data, key_info_bytes, key_info_of}
use Rattle.pkinit_validation.specs.declared.public_key.AgreementPublicKey.{AgreementPublicKey}
use Rattle.pkinit_validation.specs.GeneralReplies.{agile_reply, general_reply}

module _ (keys : KeysRecord) (certificate : Bytes) (nonce : ℤ) (words : Random) where
  -- the octets of KDCDHKeyInfo with this key
  abbrev info : AgreementPublicKey → Bytes
  info key = key_info_bytes (key_info_of key.subject_public_key nonce)

  module _ (kdf : Kdf) where
    -- the outcome where the realm has a public key
    abbrev of_key : AgreementPublicKey → Table (Result Bytes Code)
    of_key key =
        ask (IsWritten keys.sign dh_key_data (info key) certificate) (one_written keys.sign dh_key_data (info key) certificate) (done (Err KRB_ERR_GENERIC))
        (λ signed. done (Ok (agile_reply_bytes (agile_reply_of signed kdf))))

    has_of_key : (key : AgreementPublicKey) → HasOutcome (of_key key)
    has_of_key key =
        has_asked (IsWritten keys.sign dh_key_data (info key) certificate) (one_written keys.sign dh_key_data (info key) certificate) (done (Err KRB_ERR_GENERIC))
        (λ signed. done (Ok (agile_reply_bytes (agile_reply_of signed kdf)))) (has_done (Err KRB_ERR_GENERIC))
        (λ signed s. has_done (Ok (agile_reply_bytes (agile_reply_of signed kdf))))

    has_agile : HasOutcome (agile_reply keys certificate nonce words kdf)
    has_agile =
        has_needed (keys.public_value (agreement_bytes words)) KRB_ERR_GENERIC
        (λ element. ask (IsPublicKey element) (sole_public_key element) (done (Err KRB_ERR_GENERIC)) of_key)
        (λ element e. has_asked (IsPublicKey element) (sole_public_key element) (done (Err KRB_ERR_GENERIC)) of_key (has_done (Err KRB_ERR_GENERIC)) (λ key k. has_of_key key))

  -- there is an outcome: a reply, or error 60
  pub has_general_reply : (kdf : Option Kdf) → HasOutcome (general_reply keys certificate nonce words kdf)
  has_general_reply None = has_reply keys certificate nonce words
  has_general_reply (Some kdf) = has_agile kdf
