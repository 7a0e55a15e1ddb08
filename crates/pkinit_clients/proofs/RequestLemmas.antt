-- What was signed is the request's AuthPack.
use Rattle.std.proofs.Common.{◌≡◌, ℕ, ◌%◌, List, Option, None, Some, inl, inr, sym, ap, ◌∙◌, subst}
use Rattle.std.specs.Prelude.{Vec}
use Rattle.std.specs.Global.{Global}
use Rattle.picky_asn1_der.specs.Raw.{Raw}
use Rattle.asn1_leaves.specs.declared.date.GeneralizedTime.{GeneralizedTime}
use Rattle.krb_time.specs.SecondOf.{IsSecondOf, sole_second}
use Rattle.krb_messages.specs.declared.messages.kdc_req_body.KdcReqBody.{KdcReqBody}
use Rattle.x509_keys.specs.KeyFunctions.{KeysRecord}
use Rattle.cms_signed_data.specs.Written.{IsWritten, signed_bytes}
use Rattle.pkinit_clients.specs.AuthPacks.{auth_data, auth_pack_bytes, auth_pack_of, authenticator_of}
use Rattle.pkinit_clients.specs.Requests.{IsNoPkAsReq, IsPkAsReqOf, pack_bytes, pk_as_req_bytes, pk_as_req_of}
use Rattle.pkinit_clients.proofs.SignedLemmas.{Signs}

module _ (keys : KeysRecord) (certificate : List ℕ) (body : KdcReqBody) (moment : ℕ) (words : List ℕ) (value : Raw) (is_value : keys.public_value words ≡ Some value)
    (second : GeneralizedTime) (of_moment : IsSecondOf moment second) (microsecond : ℕ) (is_microsecond : microsecond ≡ moment % 1000000)
    (pack lent : List ℕ) (is_lent : lent ≡ pack) (is_pack : pack ≡ auth_pack_bytes (auth_pack_of (authenticator_of body second microsecond) value)) where
  text : lent ≡ pack_bytes body moment second value
  text = is_lent ∙ is_pack ∙ ap (λ (m : ℕ). auth_pack_bytes (auth_pack_of (authenticator_of body second m) value)) is_microsecond

  none_signed : Signs keys.sign lent certificate auth_data None → IsNoPkAsReq keys certificate body moment words
  none_signed (inl none) =
      let unsigned : keys.sign (signed_bytes auth_data (pack_bytes body moment second value)) ≡ None =
      subst (λ (l : List ℕ). keys.sign (signed_bytes auth_data l) ≡ None) text none in
      inr (inl (record { value = value; is_value = is_value; second = second; of_moment = of_moment; unsigned = unsigned }))
  none_signed (inr none) = inr (inr none)

  pub unsigned : (signed : Option (Vec ℕ Global)) → Signs keys.sign lent certificate auth_data signed → signed ≡ None → IsNoPkAsReq keys certificate body moment words
  unsigned signed is none = none_signed (subst (λ (s : Option (Vec ℕ Global)). Signs keys.sign lent certificate auth_data s) none is)

  pub asked : (signed : Option (Vec ℕ Global)) (written : Vec ℕ Global) → Signs keys.sign lent certificate auth_data signed → signed ≡ Some written
      → (bytes : List ℕ) → bytes ≡ pk_as_req_bytes (pk_as_req_of written.items) → IsPkAsReqOf keys certificate body moment words bytes
  asked signed written is some bytes encoding =
      let there : IsWritten keys.sign auth_data lent certificate written.items =
      subst (λ (s : Option (Vec ℕ Global)). Signs keys.sign lent certificate auth_data s) some is in
      record {
        value = value;
        is_value = is_value;
        second = second;
        of_moment = of_moment;
        signed = written.items;
        is_signed = subst (λ (l : List ℕ). IsWritten keys.sign auth_data l certificate written.items) text there;
        encoding = encoding;
      }

module _ (keys : KeysRecord) (certificate : List ℕ) (body : KdcReqBody) (moment : ℕ) (words : List ℕ) where
  -- where there is no request, no bytes are one
  pub none_asked : (bytes : List ℕ) → IsNoPkAsReq keys certificate body moment words → IsPkAsReqOf keys certificate body moment words bytes → ⊥
  none_asked bytes (inl none) x = let never : None ≡ Some x.value = sym none ∙ x.is_value in absurd (cc (never))
  none_asked bytes (inr (inl not_signed)) x =
      let some : Some not_signed.value ≡ Some x.value = sym not_signed.is_value ∙ x.is_value in
      let same : not_signed.value ≡ x.value = cc (some) in
      let seconds : not_signed.second ≡ x.second = sole_second moment not_signed.second x.second not_signed.of_moment x.of_moment in
      let none : keys.sign (signed_bytes auth_data (pack_bytes body moment x.second x.value)) ≡ None =
      subst (λ (pack : List ℕ). keys.sign (signed_bytes auth_data pack) ≡ None) (λ i. pack_bytes body moment (seconds i) (same i)) not_signed.unsigned in
      let never : None ≡ Some x.is_signed.signed = sym none ∙ x.is_signed.signs in
      absurd (cc (never))
  none_asked bytes (inr (inr none)) x = none x.is_signed.value x.is_signed.count x.is_signed.certificate_spelled
