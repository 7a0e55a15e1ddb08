-- A token is told in one way.
use Rattle.std.proofs.Common.{◌≡◌, ℕ, ◌≤◌, List, ◌++◌, length, refl, sym, ap, subst, ◌∙◌, arith, length-append}
use Rattle.asn1_der.specs.Tree.{Writes}
use Rattle.asn1_der.specs.Length.{element}
use Rattle.picky_asn1_der.specs.Splits.{IsNoSplit}
use Rattle.asn1_der.specs.Tagged.{leaf_as}
use Rattle.asn1_der.proofs.Tagged.{TagLaws, leaf_laws, tagged-injective}
use Rattle.asn1_der.specs.Seen.{as_is}
use Rattle.asn1_der.proofs.Spelling.{IsInjective}
use Rattle.asn1_der.proofs.Elements.{element-one, fronts}
use Rattle.asn1_leaves.specs.ObjectIdentifier.{is_object_identifier, oid_content}
use Rattle.asn1_leaves.proofs.OidLemmas.{oid_content-injective}
use Rattle.picky_asn1.specs.declared.wrapper.ObjectIdentifierAsn1.{ObjectIdentifierAsn1}
use Rattle.gss_contexts.specs.Fronts.{Leads}
use Rattle.gss_contexts.specs.HeaderLaws.{leads-one}
use Rattle.gss_contexts.specs.ContextTokens.{mechanism_tree, BeginsToken, IsOfMechanism, IsTold, IsProxied, iakerb, proxy_id}

pub contents-one : (c d bytes : List ℕ) → BeginsToken c bytes → BeginsToken d bytes → c ≡ d
contents-one c d bytes (x, is) (y, also) = (element-one 96 96 c d x y (sym is ∙ also)).1

-- another element, and none
pub other-tag : (bytes : List ℕ) (first number : ℕ) (content rest : List ℕ) → bytes ≡ element first content ++ rest → number ≡ first → (number ≡ 96 → ⊥)
    → (value : List ℕ) → BeginsToken value bytes → ⊥
other-tag bytes first number content rest is same differs value (more, also) = differs (same ∙ (element-one first 96 content value rest more (sym is ∙ also)).0)

pub no-token : (bytes : List ℕ) → IsNoSplit bytes → (value : List ℕ) → BeginsToken value bytes → ⊥
no-token bytes never value (rest, is) = never (record { first = 96; content = value }) rest (refl, is)

same_oid : (v w : ObjectIdentifierAsn1) → v.0 ≡ w.0 → v ≡ w
same_oid v w e = λ i. record { 0 = e i }

mechanism_laws : TagLaws (leaf_as (λ (oid : ObjectIdentifierAsn1). is_object_identifier oid.0) (λ oid. oid_content oid.0))
mechanism_laws =
    leaf_laws (λ (oid : ObjectIdentifierAsn1). is_object_identifier oid.0) (λ oid. oid_content oid.0)
    (λ v w left right e. same_oid v w (oid_content-injective v.0 w.0 left right e))

mechanism-injective : IsInjective mechanism_tree
mechanism-injective =
    tagged-injective 6 (leaf_as (λ (oid : ObjectIdentifierAsn1). is_object_identifier oid.0) (λ oid. oid_content oid.0)) mechanism_laws (λ v. v) (λ v w e. e)

pub mechanism-one : (bytes : List ℕ) (v w : ObjectIdentifierAsn1) (i j : List ℕ) → IsOfMechanism bytes v i → IsOfMechanism bytes w j → (v ≡ w) × (i ≡ j)
mechanism-one bytes v w i j (c, begins, leads) (d, also, other) =
    let same : c ≡ d = contents-one c d bytes begins also in
    leads-one as_is mechanism_tree mechanism-injective v w c i j leads (subst (λ (t : List ℕ). Leads (Writes mechanism_tree) w t j) (sym same) other)

pub told-one : (inner id other message more : List ℕ) → IsTold inner id message → IsTold inner other more → (id ≡ other) × (message ≡ more)
told-one inner id other message more (is, two) (also, again) = fronts id other message more (two ∙ sym again) (sym is ∙ also)

-- a token id has two octets
pub told-long : (inner id message : List ℕ) → IsTold inner id message → 2 ≤ length inner
told-long inner id message (is, two) = omega (arith, ap length is, length-append id message)

pub proxied-one : (bytes message more : List ℕ) → IsProxied bytes message → IsProxied bytes more → message ≡ more
proxied-one bytes message more (i, of, told) (j, also, again) =
    let inners : i ≡ j = (mechanism-one bytes iakerb iakerb i j of also).1 in
    (told-one i proxy_id proxy_id message more told (subst (λ (t : List ℕ). IsTold t proxy_id more) (sym inners) again)).1
