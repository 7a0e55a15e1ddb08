-- PA-PK-AS-REP is made or refused: one of the two is the outcome.
use Rattle.std.proofs.Common.{ℤ, Result, Ok, Err}
use Rattle.picky_asn1.specs.Bytes.{Bytes}
use Rattle.krb_messages.specs.RandomBytes.{Random}
use Rattle.krb_messages.specs.Refusals.{Code}
use Rattle.krb_constants.specs.declared.error_codes.TheConstants.{KRB_ERR_GENERIC}
use Rattle.decision_tables.specs.Tables.{Table, ask, done}
use Rattle.decision_tables.proofs.Outcomes.{HasOutcome, has_asked, has_done, has_needed}
use Rattle.x509_keys.specs.KeyFunctions.{KeysRecord}
use Rattle.cms_signed_data.specs.Written.{IsWritten}
use Rattle.pkinit_validation.specs.AgreementBytes.{agreement_bytes}
use Rattle.pkinit_validation.specs.declared.public_key.AgreementPublicKey.{AgreementPublicKey}
use Rattle.pkinit_validation.specs.PublicKeys.{IsPublicKey, sole_public_key}
use Rattle.pkinit_validation.specs.Replies.{dh_key_data, dh_reply_bytes, dh_reply_of, key_info_bytes, key_info_of, pk_as_rep}
use Rattle.cms_signed_data.specs.WrittenOnce.{one_written}

module _ (keys : KeysRecord) (certificate : Bytes) (nonce : ℤ) (words : Random) where
  -- the octets of KDCDHKeyInfo with this key
  abbrev info : AgreementPublicKey → Bytes
  info key = key_info_bytes (key_info_of key.subject_public_key nonce)

  -- the outcome where the realm has a public key
  abbrev of_key : AgreementPublicKey → Table (Result Bytes Code)
  of_key key =
      ask (IsWritten keys.sign dh_key_data (info key) certificate) (one_written keys.sign dh_key_data (info key) certificate) (done (Err KRB_ERR_GENERIC))
      (λ signed. done (Ok (dh_reply_bytes (dh_reply_of signed))))

  -- there is an outcome where the realm has a public key
  has_of_key : (key : AgreementPublicKey) → HasOutcome (of_key key)
  has_of_key key =
      has_asked (IsWritten keys.sign dh_key_data (info key) certificate) (one_written keys.sign dh_key_data (info key) certificate) (done (Err KRB_ERR_GENERIC))
      (λ signed. done (Ok (dh_reply_bytes (dh_reply_of signed)))) (has_done (Err KRB_ERR_GENERIC)) (λ signed s. has_done (Ok (dh_reply_bytes (dh_reply_of signed))))

  -- there is an outcome: a reply, or error 60
  pub has_reply : HasOutcome (pk_as_rep keys certificate nonce words)
  has_reply =
      has_needed (keys.public_value (agreement_bytes words)) KRB_ERR_GENERIC (λ element. ask (IsPublicKey element) (sole_public_key element) (done (Err KRB_ERR_GENERIC)) of_key)
      (λ element e. has_asked (IsPublicKey element) (sole_public_key element) (done (Err KRB_ERR_GENERIC)) of_key (has_done (Err KRB_ERR_GENERIC)) (λ key k. has_of_key key))
