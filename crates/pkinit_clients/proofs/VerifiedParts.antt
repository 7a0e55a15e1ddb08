-- What a client verifies of a reply are parts of its bytes.
use Rattle.std.proofs.Common.{◌≡◌, ℕ, suc, Bool, true, false, List, [], ◌∷◌, ◌++◌, Option, None, Some, refl, sym, ap, ◌∙◌, subst, if◌then◌else◌}
use Rattle.std.specs.List.{find}
use Rattle.std.specs.Option.{option_map, option_map_or}
use Rattle.asn1_leaves.specs.CharSets.{is_general_string}
use Rattle.asn1_der.specs.Length.{element}
use Rattle.asn1_der.specs.Tagged.{tagged_tree}
use Rattle.asn1_der.specs.Tree.{Tree, Trees, primitive, constructed, more, none, der, ders, leaf, put, trees_of, wrapped, AreWhole, IsWhole}
use Rattle.asn1_der.proofs.Spelling.{der-wrapped, wrapped-whole}
use Rattle.picky_asn1_der.specs.Raw.{has_low_number}
use Rattle.picky_asn1_der.specs.PathLaws.{AreSome, IsElement, LeadsIn, LeadsTo, at_front, behind_front, go_on, held_at, in_element, part_there, second_at, some_more}
use Rattle.picky_asn1.specs.Bytes.{Bytes}
use Rattle.picky_asn1.specs.Integer.{integer_content}
use Rattle.picky_asn1.specs.Numbers.{is_number}
use Rattle.picky_asn1_der.specs.declared.wrapper.ExplicitContextTag.{ExplicitContextTag}
use Rattle.krb_messages.specs.Trees.{encrypted_data_tree, pa_data_tree}
use Rattle.krb_messages.specs.contracts.data_types.principal_name.PrincipalNameTagged.TheImpl as name_impl
use Rattle.krb_messages.specs.contracts.data_types.ticket.TicketInnerTagged.TheImpl as ticket_impl
use Rattle.krb_messages.specs.declared.data_types.pa_data.PaData.{PaData}
use Rattle.krb_messages.specs.Messages.{IsAsRep}
use Rattle.krb_messages.specs.MessageTrees.{kdc_rep_inner_tree}
use Rattle.krb_messages.specs.declared.messages.kdc_rep.KdcRep.{KdcRep}
use Rattle.krb_messages.specs.Padata.{first_of, first_padata}
use Rattle.krb_kdc_exchanges.proofs.RequestParts.{within}
use Rattle.cms_signed_data.specs.Parts.{attributes_place, certificate_place}
use Rattle.cms_signed_data.specs.SignedContents.{IsSignedContent}
use Rattle.cms_signed_data.specs.SignedParts.{SignedParts}
use Rattle.pkinit_messages.specs.declared.pa_pk_as_rep.PaPkAsRep.{PaPkAsRep}
use Rattle.pkinit_messages.specs.declared.pa_pk_as_rep.PaPkAsRep.TheVariants.{DhInfo, EncKeyPack}
use Rattle.pkinit_messages.specs.contracts.pa_pk_as_rep.PaPkAsRepSerialize.TheImpl as reply_impl
use Rattle.pkinit_clients.specs.Means.{pk_as_rep_in}
use Rattle.pkinit_clients.specs.Replies.{IsPaPkAsRep, signed_in}
use Rattle.pkinit_clients.specs.Verified.{IsVerifiedPart, signed_place}

-- a tree under a further tag is an element
tagged : (first : ℕ) (tree : Tree) → has_low_number first ≡ true → IsWhole (wrapped first tree) → IsElement (der (wrapped first tree))
tagged first tree low whole = (first, der tree, low, der-wrapped first tree (wrapped-whole first tree whole))

-- the content of this element is the SEQUENCE in it
in_tag : (first : ℕ) (own : Trees) → has_low_number first ≡ true → IsWhole (wrapped first (constructed 48 own))
    → LeadsTo (der (wrapped first (constructed 48 own))) (0 ∷ []) (der (constructed 48 own))
in_tag first own low whole =
    held_at first (der (constructed 48 own)) (der (wrapped first (constructed 48 own))) low (48, ders own, refl, refl)
    (der-wrapped first (constructed 48 own) (wrapped-whole first (constructed 48 own) whole))

-- the third of seven trees under [0] to [6] is at its place
module _ (a b c d e f g : Tree) where
  abbrev behind_third : Trees
  behind_third = more (wrapped 163 d) (more (wrapped 164 e) (more (wrapped 165 f) (more (wrapped 166 g) none)))

  abbrev seven : Trees
  seven = more (wrapped 160 a) (more (wrapped 161 b) (more (wrapped 162 c) behind_third))

  some_behind : AreWhole behind_third → AreSome (ders behind_third)
  some_behind whole =
      some_more (der (wrapped 163 d)) _ (ders behind_third) (tagged 163 d refl whole.0) refl
      (some_more (der (wrapped 164 e)) _ _ (tagged 164 e refl whole.1.0) refl
      (some_more (der (wrapped 165 f)) _ _ (tagged 165 f refl whole.1.1.0) refl
      (some_more (der (wrapped 166 g)) [] _ (tagged 166 g refl whole.1.1.1.0) refl ([], refl))))

  third_in : AreWhole seven → LeadsTo (der (constructed 48 seven)) (2 ∷ []) (der (wrapped 162 c))
  third_in whole =
      in_element 48 (ders seven) (der (constructed 48 seven)) refl refl 2 (der (wrapped 162 c))
      (behind_front (der (wrapped 160 a)) _ (ders seven) (tagged 160 a refl whole.0) refl 1 (der (wrapped 162 c))
      (behind_front (der (wrapped 161 b)) _ _ (tagged 161 b refl whole.1.0) refl 0 (der (wrapped 162 c))
      (at_front (der (wrapped 162 c)) (ders behind_third) _ (tagged 162 c refl whole.1.1.0) refl (some_behind whole.1.1.1))))

-- the data of padata
data_in : (pa_data : PaData) → LeadsTo (der (pa_data_tree pa_data)) (1 ∷ 0 ∷ []) (element 4 pa_data.padata_data.0)
data_in pa_data =
    let octets = element 4 pa_data.padata_data.0 in
    let kind = wrapped 161 (primitive 2 (integer_content pa_data.padata_type.0)) in
    let value = wrapped 162 (primitive 4 pa_data.padata_data.0) in
    go_on (der (pa_data_tree pa_data)) (der value) octets (1 ∷ []) (0 ∷ [])
    (second_at 48 (der kind) (der value) (der (pa_data_tree pa_data)) refl (tagged 161 (primitive 2 (integer_content pa_data.padata_type.0)) refl (tt, tt))
    (tagged 162 (primitive 4 pa_data.padata_data.0) refl (tt, tt)) refl)
    (held_at 162 octets (der value) refl (4, pa_data.padata_data.0, refl, refl) (der-wrapped 162 (primitive 4 pa_data.padata_data.0) tt))

-- padata are elements
is_element : (pa_data : PaData) → IsElement (der (pa_data_tree pa_data))
is_element pa_data =
    (48, ders (more (wrapped 161 (primitive 2 (integer_content pa_data.padata_type.0))) (more (wrapped 162 (primitive 4 pa_data.padata_data.0)) none)), refl, refl)

are_some : (padata : List PaData) → AreSome (ders (trees_of pa_data_tree padata))
are_some [] = ([], refl)
are_some (pa_data ∷ padata) = some_more (der (pa_data_tree pa_data)) (ders (trees_of pa_data_tree padata)) (ders (trees_of pa_data_tree (pa_data ∷ padata))) (is_element pa_data) refl (are_some padata)

-- padata that is found has a place among the others
numbered : (test : PaData → Bool) (padata : List PaData) (pa_data : PaData) → find test padata ≡ Some pa_data
    → (n : ℕ) × LeadsIn (ders (trees_of pa_data_tree padata)) n (der (pa_data_tree pa_data))
numbered test [] pa_data e = absurd (cc (e))
numbered test (own ∷ padata) pa_data e = by_test (test own) (λ f. numbered test padata pa_data f) e
  where
    by_test : (b : Bool) → (find test padata ≡ Some pa_data → (n : ℕ) × LeadsIn (ders (trees_of pa_data_tree padata)) n (der (pa_data_tree pa_data)))
        → (if b then Some own else find test padata) ≡ Some pa_data → (n : ℕ) × LeadsIn (ders (trees_of pa_data_tree (own ∷ padata))) n (der (pa_data_tree pa_data))
    by_test true rest f =
        let same : own ≡ pa_data = cc (f) in (
          0,
          subst (λ (v : PaData). LeadsIn (ders (trees_of pa_data_tree (own ∷ padata))) 0 (der (pa_data_tree v))) same
              (at_front (der (pa_data_tree own)) (ders (trees_of pa_data_tree padata)) (ders (trees_of pa_data_tree (own ∷ padata))) (is_element own) refl (are_some padata)),
        )
    by_test false rest f =
        let later = rest f in
        (suc later.0, behind_front (der (pa_data_tree own)) (ders (trees_of pa_data_tree padata)) (ders (trees_of pa_data_tree (own ∷ padata))) (is_element own) refl later.0 (der (pa_data_tree pa_data)) later.1)

-- the data of the first padata of a type
value_in : (padata : List PaData) (kind : ℕ) (value : Bytes) → first_of kind padata ≡ Some value
    → (n : ℕ) × LeadsTo (der (constructed 48 (trees_of pa_data_tree padata))) (n ∷ 1 ∷ 0 ∷ []) (element 4 value)
unfolding first_of first_padata
value_in padata kind value e = by_padata (find (λ pa_data. is_number kind pa_data.padata_type.0) padata) refl e
  where
    by_padata : (found : Option PaData) → find (λ pa_data. is_number kind pa_data.padata_type.0) padata ≡ found → option_map (λ pa_data. pa_data.padata_data.0) found ≡ Some value
        → (n : ℕ) × LeadsTo (der (constructed 48 (trees_of pa_data_tree padata))) (n ∷ 1 ∷ 0 ∷ []) (element 4 value)
    by_padata None is f = absurd (cc (f))
    by_padata (Some pa_data) is f =
        let same : pa_data.padata_data.0 ≡ value = cc (f) in
        let at = numbered (λ pa_data. is_number kind pa_data.padata_type.0) padata pa_data is in
        let sequence = constructed 48 (trees_of pa_data_tree padata) in (
          at.0,
          subst (λ (v : Bytes). LeadsTo (der sequence) (at.0 ∷ 1 ∷ 0 ∷ []) (element 4 v)) same
              (go_on (der sequence) (der (pa_data_tree pa_data)) (element 4 pa_data.padata_data.0) (at.0 ∷ []) (1 ∷ 0 ∷ [])
              (in_element 48 (ders (trees_of pa_data_tree padata)) (der sequence) refl refl at.0 (der (pa_data_tree pa_data)) at.1) (data_in pa_data)),
        )

no_padata : (kind : ℕ) (value : Bytes) → first_of kind [] ≡ Some value → ⊥
unfolding first_of first_padata
no_padata kind value e = cc (e)

-- what a reply is made of, with other padata or none
module _ (a b d e f g : Tree) where
  abbrev with_padata : Option (ExplicitContextTag 2 (List PaData)) → Tree
  with_padata given =
      constructed 48 (more (wrapped 160 a) (more (wrapped 161 b) (put (λ padata. wrapped 162 (constructed 48 (trees_of pa_data_tree padata.0))) given
      (more (wrapped 163 d) (more (wrapped 164 e) (more (wrapped 165 f) (more (wrapped 166 g) none)))))))

  in_given : (kind : ℕ) (value : Bytes) (given : Option (ExplicitContextTag 2 (List PaData))) → IsWhole (wrapped 107 (with_padata given))
      → first_of kind (option_map_or (λ padata. padata.0) given []) ≡ Some value
      → (n : ℕ) × LeadsTo (der (wrapped 107 (with_padata given))) (0 ∷ 2 ∷ 0 ∷ n ∷ 1 ∷ 0 ∷ []) (element 4 value)
  in_given kind value None whole found = absurd (no_padata kind value found)
  in_given kind value (Some padata) whole found =
      let sequence = constructed 48 (trees_of pa_data_tree padata.0) in
      let at = value_in padata.0 kind value found in
      let inner = with_padata (Some padata) in (
        at.0,
        go_on (der (wrapped 107 inner)) (der inner) (element 4 value) (0 ∷ []) (2 ∷ 0 ∷ at.0 ∷ 1 ∷ 0 ∷ []) (in_tag 107 (seven a b sequence d e f g) refl whole)
            (go_on (der inner) (der (wrapped 162 sequence)) (element 4 value) (2 ∷ []) (0 ∷ at.0 ∷ 1 ∷ 0 ∷ []) (third_in a b sequence d e f g whole.0)
            (go_on (der (wrapped 162 sequence)) (der sequence) (element 4 value) (0 ∷ []) (at.0 ∷ 1 ∷ 0 ∷ []) (in_tag 162 (trees_of pa_data_tree padata.0) refl whole.0.1.1.0) at.1)),
      )

-- the data of PA-PK-AS-REP in an AS-REP
padata_in : (bytes padata : Bytes) (reply : KdcRep) → IsAsRep bytes reply → pk_as_rep_in reply ≡ Some padata
    → (n : ℕ) × LeadsTo bytes (0 ∷ 2 ∷ 0 ∷ n ∷ 1 ∷ 0 ∷ []) (element 4 padata)
padata_in bytes padata reply is found =
    let at =
    in_given (primitive 2 (integer_content reply.pvno.0)) (primitive 2 (integer_content reply.msg_type.0)) (leaf (is_general_string reply.crealm.0) 27 reply.crealm.0)
    (tagged_tree 48 name_impl.ghosts.row_tree name_impl.ghosts.row_of reply.cname.0)
    (wrapped 97 (tagged_tree 48 ticket_impl.ghosts.row_tree ticket_impl.ghosts.row_of reply.ticket.0.0)) (encrypted_data_tree reply.enc_part.0)
    17 padata reply.padata.0 is.0 found in
    (at.0, subst (λ (l : Bytes). LeadsTo l (0 ∷ 2 ∷ 0 ∷ at.0 ∷ 1 ∷ 0 ∷ []) (element 4 padata)) (sym is.1) at.1)

-- signed data in front of an optional nonce, in a SEQUENCE under [0]
module _ {A : Type 0} (tree : A → Tree) (signed : Bytes) where
  abbrev share : Option A → Tree
  share given = constructed 48 (more (primitive 128 signed) (put (λ v. wrapped 161 (tree v)) given none))

  some_nonce : (given : Option A) → AreWhole (put (λ v. wrapped 161 (tree v)) given none) → AreSome (ders (put (λ v. wrapped 161 (tree v)) given none))
  some_nonce None whole = ([], refl)
  some_nonce (Some v) whole = some_more (der (wrapped 161 (tree v))) [] _ (tagged 161 (tree v) refl whole.0) refl ([], refl)

  octets_in : (given : Option A) → IsWhole (wrapped 160 (share given)) → LeadsTo (der (wrapped 160 (share given))) (0 ∷ 0 ∷ []) (element 128 signed)
  octets_in given whole =
      go_on (der (wrapped 160 (share given))) (der (share given)) (element 128 signed) (0 ∷ []) (0 ∷ []) (in_tag 160 (more (primitive 128 signed) (put (λ v. wrapped 161 (tree v)) given none)) refl whole)
      (in_element 48 _ (der (share given)) refl refl 0 (element 128 signed)
      (at_front (element 128 signed) _ _ (128, signed, refl, refl) refl (some_nonce given whole.0.1)))

-- PA-PK-AS-REP is an element, which holds the signed data
signed_octets : (padata signed : Bytes) (told : PaPkAsRep) → IsPaPkAsRep padata told → signed_in told ≡ Some signed
    → IsElement padata × LeadsTo padata (0 ∷ 0 ∷ []) (element 128 signed)
unfolding IsPaPkAsRep
signed_octets padata signed (DhInfo info) is found =
    let same : info.0.dh_signed_data.0 ≡ signed = cc (found) in
    let own = subst (λ (l : Bytes). LeadsTo l (0 ∷ 0 ∷ []) (element 128 info.0.dh_signed_data.0)) (sym is.1) (octets_in (λ nonce. primitive 4 nonce.0) info.0.dh_signed_data.0 info.0.server_dh_nonce.0 is.0) in (
      (160, _, refl, is.1),
      subst (λ (l : Bytes). LeadsTo padata (0 ∷ 0 ∷ []) (element 128 l)) same own,
    )
signed_octets padata signed (EncKeyPack pack) is found = absurd (cc (found))

-- what the client verifies
pub verified_part : (bytes padata signed : Bytes) (reply : KdcRep) (told : PaPkAsRep) (content : SignedParts) → IsAsRep bytes reply → pk_as_rep_in reply ≡ Some padata
    → IsPaPkAsRep padata told → signed_in told ≡ Some signed → IsSignedContent signed content → IsVerifiedPart bytes signed content
verified_part bytes padata signed reply told content is first is_told signs holds =
    let at = padata_in bytes padata reply is first in
    let octets = signed_octets padata signed told is_told signs in
    let element_of : IsElement signed = (48, holds.form.0.1.0, refl, holds.form.0.1.2) in
    let leads : LeadsTo bytes (signed_place at.0) signed =
    go_on bytes (element 4 padata) signed (0 ∷ 2 ∷ 0 ∷ at.0 ∷ 1 ∷ 0 ∷ []) (0 ∷ 0 ∷ 0 ∷ 0 ∷ []) at.1
    (go_on (element 4 padata) padata signed (0 ∷ []) (0 ∷ 0 ∷ 0 ∷ []) (held_at 4 padata (element 4 padata) refl octets.0 refl)
    (go_on padata (element 128 signed) signed (0 ∷ 0 ∷ []) (0 ∷ []) octets.1 (held_at 128 signed (element 128 signed) refl element_of refl))) in
    record {
      entry = at.0;
      signed_data = part_there bytes signed (signed_place at.0) leads;
      attributes = leads attributes_place content.signed_attributes holds.attributes_at;
      certificate = leads certificate_place content.certificate holds.certificate_at;
      certified = λ read certificate.
          leads (certificate_place ++ 0 ∷ []) read.signed
          (within certificate_place (0 ∷ []) signed content.certificate read.signed holds.certificate_at certificate.part);
    }
