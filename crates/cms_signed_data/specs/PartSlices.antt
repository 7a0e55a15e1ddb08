-- Slices that are parts of signed data.
use Rattle.std.specs.Prelude.{◌≡◌, ℕ, List}
use Rattle.picky_asn1_der.specs.Parts.{IsPart}
use Rattle.cms_signed_data.specs.Parts.{certificate_place, attributes_place}
use Rattle.cms_signed_data.specs.declared.content_info.ContentInfo.{ContentInfo}
use Rattle.cms_signed_data.specs.declared.slices.Slices.{Slices}
use Rattle.cms_signed_data.specs.SignedParts.{content_of, digest_of, signature_of}

-- the slices are the content, the certificate, the signed attributes, the digest and the signature of the signed data
pub record AreSlices (info : ContentInfo) (bytes : List ℕ) (slices : Slices) : Type 0 where
  pub content_is : slices.content.now ≡ content_of info
  pub certificate_is : IsPart bytes certificate_place slices.certificate.now
  pub attributes_are : IsPart bytes attributes_place slices.signed_attributes.now
  pub digest_is : slices.digest.now ≡ digest_of info
  pub signature_is : slices.signature.now ≡ signature_of info
