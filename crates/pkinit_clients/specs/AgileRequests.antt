-- What a client with algorithm agility sends to authenticate by certificate (RFC 4556, section 3.2.1; RFC 8636, section 6).
use Rattle.std.specs.Prelude.{◌≡◌, ◌⊎◌, ◌%◌, None, Some}
use Rattle.std.proofs.Common.{sym, ap, ◌∙◌, subst}
use Rattle.asn1_leaves.specs.declared.date.GeneralizedTime.{GeneralizedTime}
use Rattle.picky_asn1_der.specs.Raw.{Raw}
use Rattle.picky_asn1.specs.Bytes.{Bytes}
use Rattle.krb_time.specs.SecondOf.{IsSecondOf, sole_second}
use Rattle.krb_time.specs.Units.{Micros}
use Rattle.krb_messages.specs.declared.messages.kdc_req_body.KdcReqBody.{KdcReqBody}
use Rattle.x509_keys.specs.KeyFunctions.{KeysRecord}
use Rattle.cms_signed_data.specs.Written.{IsNoCertificate, IsWritten, signed_bytes}
use Rattle.cms_signed_data.specs.WrittenOnce.{one_written}
use Rattle.pkinit_clients.specs.AgilePacks.{agile_pack_bytes, agile_pack_of}
use Rattle.pkinit_clients.specs.AuthPacks.{auth_data, authenticator_of}
use Rattle.pkinit_clients.specs.Requests.{pk_as_req_bytes, pk_as_req_of}

-- the AuthPack of a request with this body, at the moment, which lies in the second
abbrev pub agile_bytes : KdcReqBody → Micros → GeneralizedTime → Raw → Bytes
agile_bytes body moment second value = agile_pack_bytes (agile_pack_of (authenticator_of body second (moment % 1000000)) value)

-- The bytes are the padata-value of a PA-PK-AS-REQ for a request with this body, at the moment. The holder of the certificate signed
-- the public value of the random bytes.
pub record IsAgileRequest (keys : KeysRecord) (certificate : Bytes) (body : KdcReqBody) (moment : Micros) (words bytes : Bytes) : Type 0 where
  pub value : Raw
  pub is_value : keys.public_value words ≡ Some value
  pub second : GeneralizedTime
  pub of_moment : IsSecondOf moment second
  pub signed : Bytes
  pub is_signed : IsWritten keys.sign auth_data (agile_bytes body moment second value) certificate signed
  pub encoding : bytes ≡ pk_as_req_bytes (pk_as_req_of signed)

-- the party doesn't sign the AuthPack
pub record IsUnsignedAgilePack (keys : KeysRecord) (body : KdcReqBody) (moment : Micros) (words : Bytes) : Type 0 where
  pub value : Raw
  pub is_value : keys.public_value words ≡ Some value
  pub second : GeneralizedTime
  pub of_moment : IsSecondOf moment second
  pub unsigned : keys.sign (signed_bytes auth_data (agile_bytes body moment second value)) ≡ None

-- there is none if the key functions have no public value or no signature, or the bytes are no certificate
abbrev pub IsNoAgileRequest : KeysRecord → Bytes → KdcReqBody → Micros → Bytes → Type 0
IsNoAgileRequest keys certificate body moment words =
    (keys.public_value words ≡ None) ⊎ (IsUnsignedAgilePack keys body moment words ⊎ IsNoCertificate certificate)

module _ (keys : KeysRecord) (certificate : Bytes) (body : KdcReqBody) (moment : Micros) (words : Bytes) where
  -- there is one such request at most
  pub sole_agile_request : (a b : Bytes) → IsAgileRequest keys certificate body moment words a → IsAgileRequest keys certificate body moment words b → a ≡ b
  sole_agile_request a b x y =
      let some : Some x.value ≡ Some y.value = sym x.is_value ∙ y.is_value in
      let value : x.value ≡ y.value = cc (some) in
      let second : x.second ≡ y.second = sole_second moment x.second y.second x.of_moment y.of_moment in
      let moved : IsWritten keys.sign auth_data (agile_bytes body moment y.second y.value) certificate x.signed =
      subst (λ (pack : Bytes). IsWritten keys.sign auth_data pack certificate x.signed) (λ i. agile_bytes body moment (second i) (value i)) x.is_signed in
      x.encoding
      ∙ ap (λ (signed : Bytes). pk_as_req_bytes (pk_as_req_of signed)) (one_written keys.sign auth_data (agile_bytes body moment y.second y.value) certificate x.signed y.signed moved y.is_signed)
      ∙ sym y.encoding
