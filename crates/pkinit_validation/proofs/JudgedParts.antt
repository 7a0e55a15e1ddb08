-- What the signatures of a request cover are parts of the padata.
use Rattle.std.proofs.Common.{ℕ, List, [], ◌∷◌, ◌++◌, Option, None, Some, refl, sym, subst}
use Rattle.asn1_der.specs.Length.{element}
use Rattle.asn1_der.specs.Tree.{Tree, Trees, primitive, constructed, more, none, der, ders, put, wrapped, trees_of, AreWhole, IsWhole}
use Rattle.asn1_der.specs.Tagged.{tagged_tree}
use Rattle.asn1_der.proofs.Spelling.{der-wrapped, wrapped-whole}
use Rattle.picky_asn1_der.specs.Parts.{IsPart}
use Rattle.picky_asn1_der.specs.PathLaws.{AreSome, IsElement, LeadsTo, at_front, go_on, held_at, in_element, some_more}
use Rattle.picky_asn1.specs.Bytes.{Bytes}
use Rattle.krb_kdc_exchanges.proofs.RequestParts.{within}
use Rattle.cms_signed_data.specs.Parts.{attributes_place, certificate_place}
use Rattle.cms_signed_data.specs.SignedContents.{IsSignedContent}
use Rattle.cms_signed_data.specs.SignedParts.{SignedParts}
use Rattle.pkinit_messages.specs.declared.external_principal_identifier.ExternalPrincipalIdentifier.{ExternalPrincipalIdentifier}
use Rattle.pkinit_messages.specs.declared.pa_pk_as_req.PaPkAsReq.{PaPkAsReq}
use Rattle.pkinit_messages.specs.contracts.external_principal_identifier.ExternalPrincipalIdentifierTagged.TheImpl as identifier_impl
use Rattle.pkinit_validation.specs.Certificates.{IsCertificate, ReadRecord}
use Rattle.pkinit_validation.specs.AuthPacks.{IsPaPkAsReq}

-- a SEQUENCE of an OCTET STRING under [0], and two optional fields after it
module _ (octets : List ℕ) {A B : Type 0} (t : A → Tree) (u : B → List ℕ) where
  abbrev last : Option B → Trees
  last p = put (λ v. primitive 130 (u v)) p none

  abbrev behind : Option A → Option B → Trees
  behind o p = put (λ v. wrapped 161 (t v)) o (last p)

  last_some : (p : Option B) → AreSome (ders (last p))
  last_some None = ([], refl)
  last_some (Some v) = some_more (element 130 (u v)) [] (ders (last (Some v))) (130, u v, refl, refl) refl ([], refl)

  behind_some : (o : Option A) (p : Option B) → AreWhole (behind o p) → AreSome (ders (behind o p))
  behind_some None p whole = last_some p
  behind_some (Some v) p whole =
      some_more (der (wrapped 161 (t v))) (ders (last p)) (ders (behind (Some v) p))
      (161, der (t v), refl, der-wrapped 161 (t v) (wrapped-whole 161 (t v) whole.0)) refl (last_some p)

  octets_at : (o : Option A) (p : Option B) → IsWhole (constructed 48 (more (primitive 128 octets) (behind o p)))
      → LeadsTo (der (constructed 48 (more (primitive 128 octets) (behind o p)))) (0 ∷ []) (element 128 octets)
  octets_at o p whole =
      in_element 48 (ders (more (primitive 128 octets) (behind o p))) (der (constructed 48 (more (primitive 128 octets) (behind o p)))) refl refl 0 (element 128 octets)
      (at_front (element 128 octets) (ders (behind o p)) (ders (more (primitive 128 octets) (behind o p))) (128, octets, refl, refl) refl (behind_some o p whole.1))

abbrev identifier_tree : ExternalPrincipalIdentifier → Tree
identifier_tree = tagged_tree 48 identifier_impl.ghosts.row_tree identifier_impl.ghosts.row_of

module _ (padata : Bytes) (request : PaPkAsReq) (content : SignedParts) (is : IsPaPkAsReq padata request) (signed : IsSignedContent request.signed_auth_pack.0 content) where
  content_leads : LeadsTo padata (0 ∷ 0 ∷ []) request.signed_auth_pack.0
  unfolding IsPaPkAsReq
  content_leads =
      let octets = request.signed_auth_pack.0 in
      let held : IsElement octets = (48, signed.form.0.1.0, refl, signed.form.0.1.2) in
      go_on padata (element 128 octets) octets (0 ∷ []) (0 ∷ [])
      (subst (λ (l : List ℕ). LeadsTo l (0 ∷ []) (element 128 octets)) (sym is.1) (octets_at octets (λ list. constructed 48 (trees_of identifier_tree list.0)) (λ value. value.0) request.trusted_certifiers.0 request.kdc_pk_id.0 is.0))
      (held_at 128 octets (element 128 octets) refl held refl)

  pub attributes_part : IsPart padata (0 ∷ 0 ∷ attributes_place) content.signed_attributes
  attributes_part = content_leads attributes_place content.signed_attributes signed.attributes_at

  pub signed_part : (read : ReadRecord) → IsCertificate content.certificate read → IsPart padata (0 ∷ 0 ∷ (certificate_place ++ 0 ∷ [])) read.signed
  signed_part read certificate =
      content_leads (certificate_place ++ 0 ∷ []) read.signed
      (within certificate_place (0 ∷ []) request.signed_auth_pack.0 content.certificate read.signed signed.certificate_at certificate.part)
