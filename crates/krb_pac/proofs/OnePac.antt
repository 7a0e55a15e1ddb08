-- Authorization data has one PAC at most.
use Rattle.std.proofs.Common.{◌≡◌, ℕ, Bool, true, false, List, [], ◌∷◌, ◌++◌, Result, MatchBool, ap, sym, ◌∙◌, inl, inr}
use Rattle.asn1_der.specs.Octets.{sequence_octet}
use Rattle.asn1_der.specs.Tree.{Writes}
use Rattle.asn1_der.proofs.Elements.{element-content}
use Rattle.asn1_der.proofs.Rows.{many-injective}
use Rattle.asn1_der.proofs.Spelling.{IsInjective}
use Rattle.asn1_der.proofs.Tagged.{tagged-injective}
use Rattle.picky_asn1.specs.Numbers.{is_number}
use Rattle.krb_messages.specs.declared.data_types.authorization_data.AuthorizationDataInner.{AuthorizationDataInner}
use Rattle.krb_messages.specs.contracts.data_types.authorization_data.AuthorizationDataInnerTagged.TheImpl as element_impl
use Rattle.krb_pac.specs.declared.authorization_data.TheConstants.{AD_IF_RELEVANT}
use Rattle.krb_pac.specs.declared.error.PacFault.{PacFault}
use Rattle.krb_pac.specs.AuthorizationData.{element_tree, elements_tree, pacs_of, HoldsPacs, ElementsHave, sole_pac, FindsPac}

element-injective : IsInjective element_tree
element-injective = tagged-injective 48 element_impl.ghosts.row_tree element_impl.ghosts.row_laws element_impl.ghosts.row_of element_impl.ghosts.one_row

-- octets are an encoding of one list of elements at most
sole_elements : (octets : List ℕ) (v w : List AuthorizationDataInner) → Writes elements_tree v octets → Writes elements_tree w octets → v ≡ w
sole_elements octets v w p q =
    many-injective AuthorizationDataInner element_tree element-injective v w p.0 q.0 (element-content sequence_octet _ _ (sym p.1 ∙ q.1))

element-one : (relevant : Bool) (octets : List ℕ) (p q : List (List ℕ)) → MatchBool relevant (HoldsPacs octets p) (p ≡ [])
    → MatchBool relevant (HoldsPacs octets q) (q ≡ []) → p ≡ q
element-one true octets p q x y = x.are ∙ ap pacs_of (sole_elements octets x.elements y.elements x.encoded y.encoded) ∙ sym y.are
element-one false octets p q x y = x ∙ sym y

elements-one : (elements : List AuthorizationDataInner) (p q : List (List ℕ)) → ElementsHave elements p → ElementsHave elements q → p ≡ q
elements-one [] p q x y = x ∙ sym y
elements-one (element ∷ elements) p q x y =
    x.4 ∙ ap (λ (l : List (List ℕ)). l ++ x.1) (element-one (is_number AD_IF_RELEVANT element.ad_type.0) element.ad_data.0 x.0 y.0 x.2 y.2)
    ∙ ap (λ (l : List (List ℕ)). y.0 ++ l) (elements-one elements x.1 y.1 x.3 y.3) ∙ sym y.4

pub found-one : (elements : List AuthorizationDataInner) (found other : Result (List ℕ) PacFault) → FindsPac elements found → FindsPac elements other → found ≡ other
found-one elements found other (inl x) (inl y) = x.2 ∙ ap sole_pac (elements-one elements x.0 y.0 x.1 y.1) ∙ sym y.2
found-one elements found other (inl x) (inr y) = absurd (y.1 x.0 x.1)
found-one elements found other (inr x) (inl y) = absurd (x.1 y.0 y.1)
found-one elements found other (inr x) (inr y) = x.0 ∙ sym y.0
