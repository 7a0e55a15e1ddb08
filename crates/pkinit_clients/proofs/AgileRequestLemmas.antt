-- What a client with algorithm agility signed is its request's AuthPack.
use Rattle.std.proofs.Common.{◌≡◌, ℕ, ◌%◌, List, Option, None, Some, inl, inr, ap, ◌∙◌, subst}
use Rattle.std.specs.Prelude.{Vec}
use Rattle.std.specs.Global.{Global}
use Rattle.picky_asn1_der.specs.Raw.{Raw}
use Rattle.asn1_leaves.specs.declared.date.GeneralizedTime.{GeneralizedTime}
use Rattle.krb_time.specs.SecondOf.{IsSecondOf}
use Rattle.krb_messages.specs.declared.messages.kdc_req_body.KdcReqBody.{KdcReqBody}
use Rattle.x509_keys.specs.KeyFunctions.{KeysRecord}
use Rattle.cms_signed_data.specs.Written.{IsWritten, signed_bytes}
use Rattle.pkinit_clients.specs.AgilePacks.{agile_pack_bytes, agile_pack_of}
use Rattle.pkinit_clients.specs.AuthPacks.{auth_data, authenticator_of}
use Rattle.pkinit_clients.specs.AgileRequests.{IsAgileRequest, IsNoAgileRequest, agile_bytes}
use Rattle.pkinit_clients.specs.Requests.{pk_as_req_bytes, pk_as_req_of}
use Rattle.pkinit_clients.proofs.SignedLemmas.{Signs}

module _ (keys : KeysRecord) (certificate : List ℕ) (body : KdcReqBody) (moment : ℕ) (words : List ℕ) (value : Raw) (is_value : keys.public_value words ≡ Some value)
    (second : GeneralizedTime) (of_moment : IsSecondOf moment second) (microsecond : ℕ) (is_microsecond : microsecond ≡ moment % 1000000)
    (pack lent : List ℕ) (is_lent : lent ≡ pack) (is_pack : pack ≡ agile_pack_bytes (agile_pack_of (authenticator_of body second microsecond) value)) where
  text : lent ≡ agile_bytes body moment second value
  text = is_lent ∙ is_pack ∙ ap (λ (m : ℕ). agile_pack_bytes (agile_pack_of (authenticator_of body second m) value)) is_microsecond

  none_signed : Signs keys.sign lent certificate auth_data None → IsNoAgileRequest keys certificate body moment words
  none_signed (inl none) =
      let unsigned : keys.sign (signed_bytes auth_data (agile_bytes body moment second value)) ≡ None =
      subst (λ (l : List ℕ). keys.sign (signed_bytes auth_data l) ≡ None) text none in
      inr (inl (record { value = value; is_value = is_value; second = second; of_moment = of_moment; unsigned = unsigned }))
  none_signed (inr none) = inr (inr none)

  pub unsigned : (signed : Option (Vec ℕ Global)) → Signs keys.sign lent certificate auth_data signed → signed ≡ None → IsNoAgileRequest keys certificate body moment words
  unsigned signed is none = none_signed (subst (λ (s : Option (Vec ℕ Global)). Signs keys.sign lent certificate auth_data s) none is)

  pub asked : (signed : Option (Vec ℕ Global)) (written : Vec ℕ Global) → Signs keys.sign lent certificate auth_data signed → signed ≡ Some written
      → (bytes : List ℕ) → bytes ≡ pk_as_req_bytes (pk_as_req_of written.items) → IsAgileRequest keys certificate body moment words bytes
  asked signed written is some bytes encoding =
      let there : IsWritten keys.sign auth_data lent certificate written.items =
      subst (λ (s : Option (Vec ℕ Global)). Signs keys.sign lent certificate auth_data s) some is in
      record {
        value = value;
        is_value = is_value;
        second = second;
        of_moment = of_moment;
        signed = written.items;
        is_signed = subst (λ (l : List ℕ). IsWritten keys.sign auth_data l certificate written.items) text there;
        encoding = encoding;
      }
