-- A client by certificate refuses no request that it has padata for.
use Rattle.std.proofs.Common.{◌≡◌, None, Some, inl, inr, sym, ◌∙◌}
use Rattle.picky_asn1.specs.Bytes.{Bytes}
use Rattle.krb_time.specs.SecondOf.{sole_second}
use Rattle.krb_time.specs.Units.{Micros}
use Rattle.krb_messages.specs.RandomBytes.{Random}
use Rattle.krb_messages.specs.declared.data_types.pa_data.PaData.{PaData}
use Rattle.krb_messages.specs.declared.messages.kdc_req_body.KdcReqBody.{KdcReqBody}
use Rattle.x509_keys.specs.KeyFunctions.{KeysRecord}
use Rattle.cms_signed_data.specs.Written.{signed_bytes}
use Rattle.pkinit_clients.specs.AuthPacks.{auth_data}
use Rattle.pkinit_clients.specs.Means.{IsNoPkinitPadata, IsPkinitPadata}
use Rattle.pkinit_clients.specs.Requests.{IsNoPkAsReq, IsPkAsReqOf, IsUnsignedPack, pack_bytes}

module _ (keys : KeysRecord) (certificate : Bytes) (body : KdcReqBody) (moment : Micros) where
  signed_or_not : (words bytes : Bytes) → IsPkAsReqOf keys certificate body moment words bytes → IsUnsignedPack keys body moment words → ⊥
  signed_or_not words bytes asked unsigned =
      let some : Some asked.value ≡ Some unsigned.value = sym asked.is_value ∙ unsigned.is_value in
      let value : asked.value ≡ unsigned.value = cc (some) in
      let second : asked.second ≡ unsigned.second = sole_second moment asked.second unsigned.second asked.of_moment unsigned.of_moment in
      let never = sym asked.is_signed.signs ∙ (λ i. keys.sign (signed_bytes auth_data (pack_bytes body moment (second i) (value i)))) ∙ unsigned.unsigned in
      absurd (cc (never))

  asked_or_not : (words bytes : Bytes) → IsPkAsReqOf keys certificate body moment words bytes → IsNoPkAsReq keys certificate body moment words → ⊥
  asked_or_not words bytes asked (inl none) =
      let never : Some asked.value ≡ None = sym asked.is_value ∙ none in
      absurd (cc (never))
  asked_or_not words bytes asked (inr (inl unsigned)) = signed_or_not words bytes asked unsigned
  asked_or_not words bytes asked (inr (inr none)) = none asked.is_signed.value asked.is_signed.count asked.is_signed.certificate_spelled

  pub decided_by_certificate : (words : Random) (padata : PaData) → IsPkinitPadata keys certificate body moment words padata → IsNoPkinitPadata keys certificate body moment words → ⊥
  decided_by_certificate words padata shown = asked_or_not _ shown.value shown.is_request
