use Rattle.picky_asn1_der.specs.PathLaws.{part_there}
use Rattle.cms_signed_data.specs.Parts.{content_place, certificate_place, attributes_place, digest_place, signature_place, parts_held}
use Rattle.cms_signed_data.specs.SignedParts.{content_of, digest_of, signature_of}
use Rattle.cms_signed_data.proofs.ReadLemmas.{same_octets}
use Rattle.cms_signed_data.proofs.slices.Slices.of_bytes.Goals as goal

pub returns-in_err-content : goal.returns-in_err-content
returns-in_err-content c = λ info n s. absurd (c.in_err-content.ensures (content_of info) (parts_held info c.args.bytes.now n s).content_at)

pub returns-in_err-certificate : goal.returns-in_err-certificate
returns-in_err-certificate c = λ info n s.
    let held = (parts_held info c.args.bytes.now n s).certificate_at in
    absurd (c.in_err-certificate.ensures held.inner (part_there c.args.bytes.now held.inner certificate_place held.leads))

pub returns-in_err-signed_attributes : goal.returns-in_err-signed_attributes
returns-in_err-signed_attributes c = λ info n s.
    let held = (parts_held info c.args.bytes.now n s).attributes_at in
    absurd (c.in_err-signed_attributes.ensures held.inner (part_there c.args.bytes.now held.inner attributes_place held.leads))

pub returns-in_err-digest : goal.returns-in_err-digest
returns-in_err-digest c = λ info n s. absurd (c.in_err-digest.ensures (digest_of info) (parts_held info c.args.bytes.now n s).digest_at)

pub returns-in_err-signature : goal.returns-in_err-signature
returns-in_err-signature c = λ info n s. absurd (c.in_err-signature.ensures (signature_of info) (parts_held info c.args.bytes.now n s).signature_at)

pub returns : goal.returns
returns c = λ info n s.
    let held = parts_held info c.args.bytes.now n s in
    record {
      content_is = same_octets content_place c.args.bytes.now c.in_ok-content.content.now (content_of info) c.in_ok-content.ensures held.content_at;
      certificate_is = c.in_ok-certificate.ensures;
      attributes_are = c.in_ok-signed_attributes.ensures;
      digest_is = same_octets digest_place c.args.bytes.now c.in_ok-digest.digest.now (digest_of info) c.in_ok-digest.ensures held.digest_at;
      signature_is = same_octets signature_place c.args.bytes.now c.in_ok-signature.signature.now (signature_of info) c.in_ok-signature.ensures held.signature_at;
    }
