-- Signed content as it is judged.
use Rattle.x509_codec.specs.Covered.{as_set}
use Rattle.cms_signed_data.specs.SignedParts.{SignedParts, content_of, digest_of, signature_of}
use Rattle.pkinit_validation.specs.Judged.{JudgedRecord}

abbrev pub judged_in : SignedParts → JudgedRecord
judged_in parts = record {
  content = content_of parts.info;
  certificate = parts.certificate;
  issuer = parts.info.content.0.signer_infos.0.sid.issuer;
  serial = parts.info.content.0.signer_infos.0.sid.serial_number;
  digest = digest_of parts.info;
  covered = as_set parts.signed_attributes;
  algorithm = parts.info.content.0.signer_infos.0.signature_algorithm;
  signature = signature_of parts.info;
}
