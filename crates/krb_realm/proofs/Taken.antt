-- An honest client takes the secret from the reply of an honest realm.
use Rattle.std.proofs.Common.{◌≡◌, true, Option, Ok, inl, refl, ap, eq-eqb}
use Rattle.std.specs.Prelude.{ℤ, pos, not}
use Rattle.asn1_leaves.specs.ObjectIdentifier.{oid_content, subidentifier}
use Rattle.asn1_der.specs.Tree.{IsWhole, leaf}
use Rattle.asn1_der.proofs.Spelling.{whole-wrapped}
use Rattle.picky_asn1.specs.BitString.{Bits, bit_content, is_bit_string}
use Rattle.picky_asn1.specs.Bytes.{Bytes}
use Rattle.picky_asn1.specs.Numbers.{is_number}
use Rattle.x509_keys.specs.KeyFunctions.{KeysRecord}
use Rattle.x509_keys.specs.KeyFunctions.TheirValue.{ValueBits}
use Rattle.x509_keys.specs.declared.functions.Signed.{Signed}
use Rattle.cms_signed_data.specs.SignedParts.{SignedParts}
use Rattle.cms_signed_data.specs.Written.{IsWritten}
use Rattle.cms_signed_data.specs.WrittenLaws.{written_is, written_parts}
use Rattle.pkinit_validation.specs.Replies.{dh_key_data, dh_reply_bytes, dh_reply_of, key_info_bytes, key_info_of}
use Rattle.pkinit_clients.specs.Asked.{PkinitAskedRecord, expected_realm}
use Rattle.pkinit_clients.specs.Faults.{Secret}
use Rattle.pkinit_clients.specs.Replies.{IsKdcDhKeyInfo, IsPaPkAsRep, is_dh_key_data, of_content, of_key_data, secret_of}
use Rattle.pkinit_clients.specs.declared.fault.ReplyFault.{ReplyFault}
use Rattle.pkinit_clients.specs.declared.fault.ReplyFault.TheVariants.{NotTrusted}
use Rattle.krb_realm.specs.Agreements.{AreAgreeing, IsAgreedReply, IsKeyInfoText}
use Rattle.krb_realm.specs.Honest.{IsHonestReply}
use Rattle.krb_realm.proofs.Rows.{by_need, by_refuse}
use Rattle.krb_realm.proofs.Trusting.{is_trusted}
use Rattle.krb_realm.proofs.Wholeness.{key_bits}

-- the reply is read back
pub written_reply : (signed bytes : Bytes) → bytes ≡ dh_reply_bytes (dh_reply_of signed) → IsPaPkAsRep bytes (dh_reply_of signed)
unfolding IsPaPkAsRep dh_reply_bytes
written_reply signed bytes e = (((tt, tt), tt), e)

-- the KDCDHKeyInfo that the realm signed is read back
pub written_info : (value : Bits) (nonce : ℤ) → IsWhole (leaf (is_bit_string value) 3 (bit_content value))
    → IsKdcDhKeyInfo (key_info_bytes (key_info_of value nonce)) (key_info_of value nonce)
unfolding IsKdcDhKeyInfo key_info_bytes
written_info value nonce whole = ((whole-wrapped 160 (leaf (is_bit_string value) 3 (bit_content value)) whole, ((tt, tt), tt)), refl)

-- its eContentType is id-pkinit-DHKeyData
written_type : (sign : Bytes → Option Signed) (content certificate signed : Bytes) (w : IsWritten sign dh_key_data content certificate signed)
    → is_dh_key_data (written_parts sign dh_key_data content certificate signed w) ≡ true
unfolding oid_content subidentifier
written_type sign content certificate signed w = refl

module _ (client_keys realm_keys : KeysRecord) (own realm_words : Bytes) (asked : PkinitAskedRecord) (honest : IsHonestReply client_keys realm_keys own realm_words asked)
    (reply : Bytes) (is : IsAgreedReply realm_keys own honest.agreeing.realm_key.subject_public_key (pos asked.nonce) reply) where
  abbrev agreeing : AreAgreeing client_keys realm_keys asked.words realm_words
  agreeing = honest.agreeing

  abbrev content : Bytes
  content = key_info_bytes (key_info_of agreeing.realm_key.subject_public_key (pos asked.nonce))

  abbrev parts : SignedParts
  parts = written_parts realm_keys.sign dh_key_data content own is.signed is.is_signed

  given_by_info : (of_key_data client_keys asked content).gives (Ok agreeing.secret)
  given_by_info =
      inl (
        key_info_of agreeing.realm_key.subject_public_key (pos asked.nonce),
        written_info agreeing.realm_key.subject_public_key (pos asked.nonce) (key_bits agreeing.realm_element agreeing.realm_key agreeing.is_realm_key),
        by_refuse {T = Bytes} {E = ReplyFault} (not (is_number asked.nonce (pos asked.nonce))) NotTrusted _ (Ok agreeing.secret) (ap not (eq-eqb asked.nonce asked.nonce refl))
            (by_need {A = Bytes} {T = Bytes} {E = ReplyFault} (client_keys.agree (ValueBits agreeing.realm_key.subject_public_key) asked.words) NotTrusted _ agreeing.secret (Ok agreeing.secret)
            agreeing.client_agrees refl),
      )

  given_by_content : (of_content client_keys asked parts).gives (Ok agreeing.secret)
  given_by_content =
      by_refuse {T = Bytes} {E = ReplyFault} (not (is_dh_key_data parts)) NotTrusted _ (Ok agreeing.secret) (ap not (written_type realm_keys.sign content own is.signed is.is_signed))
      (inl (
        tt,
        inl (
          tt,
          is_trusted realm_keys client_keys dh_key_data content own is.signed is.is_signed (expected_realm asked)
              (IsKeyInfoText agreeing.realm_key.subject_public_key (pos asked.nonce)) honest.realm_trusted refl,
          refl,
        ),
        given_by_info,
      ))

  pub given : (secret_of client_keys asked reply).gives (Ok agreeing.secret)
  unfolding secret_of
  given =
      inl (dh_reply_of is.signed, written_reply is.signed reply is.encoding, inl (parts, written_is realm_keys.sign dh_key_data content own is.signed is.is_signed, given_by_content))

  pub taken : (result : Secret) → (secret_of client_keys asked reply).gives result → result ≡ Ok agreeing.secret
  taken result gives = (secret_of client_keys asked reply).one result (Ok agreeing.secret) gives given
