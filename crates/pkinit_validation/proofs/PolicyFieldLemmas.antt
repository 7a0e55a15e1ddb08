-- The checksums of pkAuthenticator that were judged are those of the body.
use Rattle.std.proofs.Common.{◌≡◌, Bool, true, not, Option, Result, sym, subst, ◌∙◌}
use Rattle.picky_asn1.specs.Bytes.{Bytes}
use Rattle.picky_asn1_der.specs.Raw.{Raw}
use Rattle.decision_tables.specs.Tables.{refuse}
use Rattle.krb_constants.specs.declared.error_codes.TheConstants.{KDC_ERR_PREAUTH_FAILED}
use Rattle.krb_messages.specs.Bodies.{body_bytes}
use Rattle.krb_messages.specs.Refusals.{IsJudged}
use Rattle.krb_messages.specs.declared.refusal.Refusal.{Refusal}
use Rattle.krb_messages.specs.declared.messages.kdc_req_body.KdcReqBody.{KdcReqBody}
use Rattle.pkinit_messages.specs.AuthPacks.{checksum_in}
use Rattle.pkinit_messages.specs.declared.agility.auth_pack.ExtensibleAuthPack.{ExtensibleAuthPack}
use Rattle.pkinit_validation.specs.AuthPacks.{is_sha1_of}
use Rattle.pkinit_validation.specs.Checksums.{second_checksum_in}
use Rattle.pkinit_validation.specs.GeneralFields.{covers, second_checksum}

module _ (body : KdcReqBody) (pack : ExtensibleAuthPack) (bytes : Bytes) (checksum : Option Bytes) (same : bytes ≡ body_bytes body) (held : checksum ≡ checksum_in pack) where
  -- whether paChecksum is the digest of the body
  pub same_digest : (is : Bool) → is_sha1_of bytes checksum ≡ is → is_sha1_of (body_bytes body) (checksum_in pack) ≡ is
  same_digest is told = (λ i. is_sha1_of (sym same i) (sym held i)) ∙ told

  pub covered : (field : Option Raw) (r : Result (Unit {0}) Refusal) → field ≡ second_checksum_in pack → is_sha1_of bytes checksum ≡ true → IsJudged (second_checksum bytes field).gives r
      → IsJudged (covers body pack).gives r
  covered field r second is judged =
      let by_body : IsJudged (second_checksum (body_bytes body) field).gives r = subst (λ (b : Bytes). IsJudged (second_checksum b field).gives r) same judged in
      let by_pack : IsJudged (second_checksum (body_bytes body) (second_checksum_in pack)).gives r =
      subst (λ (f : Option Raw). IsJudged (second_checksum (body_bytes body) f).gives r) second by_body in
      subst (λ (b : Bool). IsJudged (refuse (not b) KDC_ERR_PREAUTH_FAILED (second_checksum (body_bytes body) (second_checksum_in pack))).gives r) (sym (same_digest true is)) by_pack
