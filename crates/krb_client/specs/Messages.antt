-- The encodings of what a client writes, and the code of an error (RFC 4120, sections 5.2.7.2, 5.2.9, 5.4.1, 5.5.1, 5.9.1).
use Rattle.std.specs.Prelude.{◌≡◌}
use Rattle.std.proofs.Common.{ap, sym, ◌∙◌}
use Rattle.picky_asn1.specs.Bytes.{Bytes}
use Rattle.asn1_der.specs.Tree.{der}
use Rattle.krb_messages.specs.declared.data_types.authenticator.AuthenticatorInner.{AuthenticatorInner}
use Rattle.krb_messages.specs.declared.data_types.encrypted_data.EncryptedData.{EncryptedData}
use Rattle.krb_messages.specs.declared.data_types.pa_enc_timestamp.PaEncTsEnc.{PaEncTsEnc}
use Rattle.krb_messages.specs.Trees as held
use Rattle.krb_messages.specs.Refusals.{Code}
use Rattle.krb_messages.specs.declared.messages.ap_req.ApReqInner.{ApReqInner}
use Rattle.krb_messages.specs.declared.messages.kdc_req.KdcReq.{KdcReq}
use Rattle.krb_messages.specs.declared.messages.kdc_req_body.KdcReqBody.{KdcReqBody}
use Rattle.krb_messages.specs.declared.messages.krb_error.KrbErrorInner.{KrbErrorInner}
use Rattle.krb_messages.specs.Messages.{IsKrbError, ap_req_tree, as_req_tree, authenticator_tree, sole_krb_error, tgs_req_tree}
use Rattle.decision_tables.specs.One.{IsSole}

-- the encoding of a client's time
unfoldable pub timestamp_bytes : PaEncTsEnc → Bytes
timestamp_bytes value = der (held.pa_enc_ts_enc_tree value)

-- the encoding of encrypted data
unfoldable pub encrypted_bytes : EncryptedData → Bytes
encrypted_bytes value = der (held.encrypted_data_tree value)

-- the encoding of an AS request
unfoldable pub as_request_bytes : KdcReq → Bytes
as_request_bytes request = der (as_req_tree request)

-- the encoding of a TGS request
unfoldable pub tgs_request_bytes : KdcReq → Bytes
tgs_request_bytes request = der (tgs_req_tree request)

-- the encoding of an authenticator
unfoldable pub authenticator_bytes : AuthenticatorInner → Bytes
authenticator_bytes value = der (authenticator_tree value)

-- the encoding of an AP request
unfoldable pub ap_request_bytes : ApReqInner → Bytes
ap_request_bytes request = der (ap_req_tree request)

-- the bytes are the one encoding of an error with this code
pub record IsErrorCode (bytes : Bytes) (code : Code) : Type 0 where
  pub error : KrbErrorInner
  pub writes : IsKrbError bytes error
  pub coded : code ≡ error.error_code.0

pub sole_error_code : (bytes : Bytes) → IsSole (IsErrorCode bytes)
sole_error_code bytes a b p q =
    let same = sole_krb_error bytes p.error q.error p.writes q.writes in p.coded ∙ ap (λ e. e.error_code.0) same ∙ sym q.coded
