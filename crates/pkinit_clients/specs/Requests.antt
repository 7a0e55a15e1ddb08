-- What a client sends to authenticate by certificate (RFC 4556, section 3.2.1).
use Rattle.std.specs.Prelude.{◌≡◌, ◌⊎◌, ◌%◌, None, Some}
use Rattle.std.proofs.Common.{sym, ap, ◌∙◌, subst}
use Rattle.asn1_leaves.specs.declared.date.GeneralizedTime.{GeneralizedTime}
use Rattle.asn1_der.specs.Tree.{der}
use Rattle.asn1_der.specs.Tagged.{tagged_tree}
use Rattle.picky_asn1_der.specs.Raw.{Raw}
use Rattle.picky_asn1.specs.Bytes.{Bytes}
use Rattle.krb_time.specs.SecondOf.{IsSecondOf, sole_second}
use Rattle.krb_time.specs.Units.{Micros}
use Rattle.krb_messages.specs.declared.messages.kdc_req_body.KdcReqBody.{KdcReqBody}
use Rattle.x509_keys.specs.KeyFunctions.{KeysRecord}
use Rattle.cms_signed_data.specs.Written.{IsNoCertificate, IsWritten, signed_bytes}
use Rattle.pkinit_messages.specs.declared.pa_pk_as_req.PaPkAsReq.{PaPkAsReq}
use Rattle.pkinit_messages.specs.contracts.pa_pk_as_req.PaPkAsReqTagged.TheImpl as request_impl
use Rattle.cms_signed_data.specs.WrittenOnce.{one_written}
use Rattle.pkinit_clients.specs.AuthPacks.{auth_data, auth_pack_bytes, auth_pack_of, authenticator_of}
use Rattle.asn1_der.specs.Octets.{sequence_octet}

-- PA-PK-AS-REQ has signedAuthPack, and neither trustedCertifiers nor kdcPkId (RFC 4556, section 3.2.1).
-- Test: `a@R for h, test`, `a@R loose for h, test` of `pkinit_steps.txt`.
abbrev pub pk_as_req_of : Bytes → PaPkAsReq
pk_as_req_of signed = record {
  signed_auth_pack = record { 0 = signed };
  trusted_certifiers = record { 0 = None };
  kdc_pk_id = record { 0 = None };
}

-- The DER encoding of a PA-PK-AS-REQ (RFC 4556, section 3.2.1).
unfoldable pub pk_as_req_bytes : PaPkAsReq → Bytes
pk_as_req_bytes request = der (tagged_tree sequence_octet request_impl.ghosts.row_tree request_impl.ghosts.row_of request)

-- the AuthPack of a request with this body, at the moment, which lies in the second
abbrev pub pack_bytes : KdcReqBody → Micros → GeneralizedTime → Raw → Bytes
pack_bytes body moment second value = auth_pack_bytes (auth_pack_of (authenticator_of body second (moment % 1000000)) value)

-- The bytes are the padata-value of a PA-PK-AS-REQ for a request with this body, at the moment. The holder of the certificate signed
-- the public value of the random bytes.
pub record IsPkAsReqOf (keys : KeysRecord) (certificate : Bytes) (body : KdcReqBody) (moment : Micros) (words bytes : Bytes) : Type 0 where
  pub value : Raw
  -- The clientPublicValue of a request is the public value that the key functions give for the random bytes (RFC 4556, section 3.2.1).
  -- Test: `b@R for HTTP/www, public`, `a@R for h, test` of `pkinit_steps.txt`.
  pub is_value : keys.public_value words ≡ Some value
  pub second : GeneralizedTime
  pub of_moment : IsSecondOf moment second
  pub signed : Bytes
  pub is_signed : IsWritten keys.sign auth_data (pack_bytes body moment second value) certificate signed
  pub encoding : bytes ≡ pk_as_req_bytes (pk_as_req_of signed)

-- the party doesn't sign the AuthPack
pub record IsUnsignedPack (keys : KeysRecord) (body : KdcReqBody) (moment : Micros) (words : Bytes) : Type 0 where
  pub value : Raw
  pub is_value : keys.public_value words ≡ Some value
  pub second : GeneralizedTime
  pub of_moment : IsSecondOf moment second
  pub unsigned : keys.sign (signed_bytes auth_data (pack_bytes body moment second value)) ≡ None

-- There is no PA-PK-AS-REQ if the key functions have no public value or no signature, or the bytes are no certificate (RFC 4556, section
-- 3.2.1). Test: `a@R for h, nopublic`, `b@R for h, nosign` of `pkinit_steps.txt`.
abbrev pub IsNoPkAsReq : KeysRecord → Bytes → KdcReqBody → Micros → Bytes → Type 0
IsNoPkAsReq keys certificate body moment words =
    (keys.public_value words ≡ None) ⊎ (IsUnsignedPack keys body moment words ⊎ IsNoCertificate certificate)

module _ (keys : KeysRecord) (certificate : Bytes) (body : KdcReqBody) (moment : Micros) (words : Bytes) where
  -- there is one such request at most
  pub sole_pk_as_req : (a b : Bytes) → IsPkAsReqOf keys certificate body moment words a → IsPkAsReqOf keys certificate body moment words b → a ≡ b
  sole_pk_as_req a b x y =
      let some : Some x.value ≡ Some y.value = sym x.is_value ∙ y.is_value in
      let value : x.value ≡ y.value = cc (some) in
      let second : x.second ≡ y.second = sole_second moment x.second y.second x.of_moment y.of_moment in
      let moved : IsWritten keys.sign auth_data (pack_bytes body moment y.second y.value) certificate x.signed =
      subst (λ (pack : Bytes). IsWritten keys.sign auth_data pack certificate x.signed) (λ i. pack_bytes body moment (second i) (value i)) x.is_signed in
      x.encoding
      ∙ ap (λ (signed : Bytes). pk_as_req_bytes (pk_as_req_of signed)) (one_written keys.sign auth_data (pack_bytes body moment y.second y.value) certificate x.signed y.signed moved y.is_signed)
      ∙ sym y.encoding
