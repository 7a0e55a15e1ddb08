-- The PAC in authorization data (RFC 4120, sections 5.2.6.1 and 7.5.4; MS-PAC, section 2).
use Rattle.std.specs.Prelude.{◌≡◌, ℕ, List, [], ◌∷◌, ◌++◌, Result, Ok, Err, ◌⊎◌, MatchBool, if◌then◌else◌}
use Rattle.std.specs.List.{flat_map}
use Rattle.asn1_der.specs.Octets.{sequence_octet}
use Rattle.asn1_der.specs.Tagged.{tagged_tree}
use Rattle.asn1_der.specs.Tree.{Tree, Writes, constructed, trees_of}
use Rattle.picky_asn1.specs.Numbers.{is_number}
use Rattle.krb_messages.specs.declared.data_types.authorization_data.AuthorizationDataInner.{AuthorizationDataInner}
use Rattle.krb_messages.specs.contracts.data_types.authorization_data.AuthorizationDataInnerTagged.TheImpl as element_impl
use Rattle.krb_pac.specs.declared.authorization_data.TheConstants.{AD_IF_RELEVANT, AD_WIN2K_PAC}
use Rattle.krb_pac.specs.declared.error.PacFault.{PacFault}
use Rattle.krb_pac.specs.declared.error.PacFault.TheVariants.{AuthorizationData, NoPac, Twice}

-- The tree of an element.
abbrev pub element_tree : AuthorizationDataInner → Tree
element_tree = tagged_tree sequence_octet element_impl.ghosts.row_tree element_impl.ghosts.row_of

-- The tree of authorization data.
abbrev pub elements_tree : List AuthorizationDataInner → Tree
elements_tree elements = constructed sequence_octet (trees_of element_tree elements)

-- The octets of an element of type AD-WIN2K-PAC.
abbrev pub pac_of : AuthorizationDataInner → List (List ℕ)
pac_of element = if is_number AD_WIN2K_PAC element.ad_type.0 then element.ad_data.0 ∷ [] else []

-- The octets of each element of type AD-WIN2K-PAC.
abbrev pub pacs_of : List AuthorizationDataInner → List (List ℕ)
pacs_of elements = flat_map pac_of elements

-- The elements' octets encode authorization data, which has these PACs.
pub record HoldsPacs (octets : List ℕ) (pacs : List (List ℕ)) : Type 0 where
  pub elements : List AuthorizationDataInner
  pub encoded : Writes elements_tree elements octets
  pub are : pacs ≡ pacs_of elements

-- An element of type AD-IF-RELEVANT is an encoding of authorization data, and has its PACs. An element of another type has none (RFC
-- 4120, section 5.2.6.1). Test: `refused AuthorizationData` of `verified_pac.txt`.
abbrev pub ElementHas : AuthorizationDataInner → List (List ℕ) → Type 0
ElementHas element pacs = MatchBool (is_number AD_IF_RELEVANT element.ad_type.0) (HoldsPacs element.ad_data.0 pacs) (pacs ≡ [])

-- The PACs of all elements, in their order.
abbrev pub ElementsHave : List AuthorizationDataInner → List (List ℕ) → Type 0
ElementsHave [] pacs = pacs ≡ []
ElementsHave (element ∷ elements) pacs =
    (here : List (List ℕ)) × (behind : List (List ℕ)) × ElementHas element here × ElementsHave elements behind × (pacs ≡ here ++ behind)

-- A ticket has one PAC. Test: `refused NoPac`, `refused Twice` of `verified_pac.txt`.
abbrev pub sole_pac : List (List ℕ) → Result (List ℕ) PacFault
sole_pac [] = Err NoPac
sole_pac (pac ∷ []) = Ok pac
sole_pac (pac ∷ other ∷ pacs) = Err Twice

-- What authorization data has as its PAC, or why it has none.
abbrev pub FindsPac : List AuthorizationDataInner → Result (List ℕ) PacFault → Type 0
FindsPac elements found =
    ((pacs : List (List ℕ)) × ElementsHave elements pacs × (found ≡ sole_pac pacs))
    ⊎ ((found ≡ Err AuthorizationData) × ((pacs : List (List ℕ)) → ElementsHave elements pacs → ⊥))
