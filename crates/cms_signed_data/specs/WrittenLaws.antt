-- What is written is signed content, and is read back.
use Rattle.std.proofs.Common.{◌≡◌, ℕ, true, List, [], ◌∷◌, Option, Result, Ok, Err, refl, subst, eq-eqb}
use Rattle.std.specs.Prelude.{◌&&◌, ◌⊎◌}
use Rattle.std.specs.Bool.{nat_eq}
use Rattle.std.specs.Cmp.Lexicographic.{pointwise}
use Rattle.asn1_leaves.specs.ObjectIdentifier.{oid_content, subidentifier}
use Rattle.asn1_der.specs.Tree.{der}
use Rattle.picky_asn1_der.specs.Parts.{IsPart}
use Rattle.picky_asn1_der.specs.PathLaws.{part_there}
use Rattle.x509_keys.specs.declared.functions.Signed.{Signed}
use Rattle.cms_signed_data.specs.Form.{has_form, is_signed, is_signer, is_sha256, are_attributes}
use Rattle.cms_signed_data.specs.Parts.{attributes_place, parts_held}
use Rattle.cms_signed_data.specs.declared.fault.SignedFault.{SignedFault}
use Rattle.cms_signed_data.specs.declared.fault.SignedFault.TheVariants.{Memory}
use Rattle.cms_signed_data.specs.SignedParts.{SignedParts, attributes_tree}
use Rattle.cms_signed_data.specs.SignedContents.{IsSignedContent, Reads}
use Rattle.cms_signed_data.specs.SignedLaws.{is_read}
use Rattle.cms_signed_data.specs.Written.{IsWritten, info_of, attributes_of}

same_octets : (octets : List ℕ) → pointwise nat_eq octets octets ≡ true
same_octets [] = refl
same_octets (octet ∷ octets) = λ i. eq-eqb octet octet refl i && same_octets octets i

module _ (sign : List ℕ → Option Signed) (content_type content given bytes : List ℕ) (w : IsWritten sign content_type content given bytes) where
  written_form : has_form (info_of content_type content w.value w.signed) ≡ true
  unfolding has_form is_signed is_signer is_sha256 are_attributes oid_content subidentifier
  written_form = same_octets content_type

  written_attributes : IsPart bytes attributes_place (der (attributes_tree (attributes_of content_type content)))
  written_attributes =
      let held = (parts_held (info_of content_type content w.value w.signed) bytes w.count w.spelled).attributes_at in
      subst (λ (l : List ℕ). IsPart bytes attributes_place l) held.is.0.1 (part_there bytes held.inner attributes_place held.leads)

  -- The parts of what is written: the given certificate, and the DER of the signed attributes (RFC 5652, section 5).
  abbrev pub written_parts : SignedParts
  written_parts = record {
    info = info_of content_type content w.value w.signed;
    certificate = given;
    signed_attributes = der (attributes_tree (attributes_of content_type content));
  }

  -- what is written is signed content, whose certificate is the given bytes
  pub written_is : IsSignedContent bytes written_parts
  written_is = record { form = ((w.count, w.spelled), written_form); certificate_at = w.certificate_at; attributes_at = written_attributes }

  -- so it is read back, or memory runs out
  pub written_read : (answer : Result SignedParts SignedFault) → Reads (IsSignedContent bytes) answer → (answer ≡ Err Memory) ⊎ (answer ≡ Ok written_parts)
  written_read answer reads = is_read (IsSignedContent bytes) answer written_parts reads written_is
