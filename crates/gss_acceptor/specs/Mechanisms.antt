-- The identifiers of mechanisms, by their content octets (X.690, section 8.19).
use Rattle.std.specs.Prelude.{◌≡◌, List, [], ◌∷◌, Bool, false, Option, None, Some, is_some, option_and_then, if◌then◌else◌, refl}
use Rattle.std.specs.Bool.{nat_eq}
use Rattle.std.specs.List.{find}
use Rattle.std.specs.Cmp.Lexicographic.{pointwise}
use Rattle.picky_asn1.specs.Bytes.{Bytes}
use Rattle.picky_asn1.specs.declared.wrapper.ObjectIdentifierAsn1.{ObjectIdentifierAsn1}
use Rattle.asn1_leaves.specs.ObjectIdentifier.{oid_content, subidentifier}
use Rattle.gss_acceptor.specs.declared.mechanism.Mechanism.{Mechanism}
use Rattle.gss_acceptor.specs.declared.mechanism.Mechanism.TheVariants.{Standard, Microsoft}

-- 1.2.840.113554.1.2.2 (RFC 4121, section 4.1), and 1.2.840.48018.1.2.2 (MS-SPNG, section 3.1.5.2)
abbrev pub mechanism_octets : Mechanism → Bytes
mechanism_octets Standard = 42 ∷ 134 ∷ 72 ∷ 134 ∷ 247 ∷ 18 ∷ 1 ∷ 2 ∷ 2 ∷ []
mechanism_octets Microsoft = 42 ∷ 134 ∷ 72 ∷ 130 ∷ 247 ∷ 18 ∷ 1 ∷ 2 ∷ 2 ∷ []

-- 1.3.6.1.5.5.2 (RFC 4178, section 3)
abbrev pub spnego_octets : Bytes
spnego_octets = 43 ∷ 6 ∷ 1 ∷ 5 ∷ 5 ∷ 2 ∷ []

-- Kerberos, where the identifier is its
abbrev pub kerberos_in : ObjectIdentifierAsn1 → Option Mechanism
kerberos_in identifier =
    if pointwise nat_eq (oid_content identifier.0) (mechanism_octets Standard) then Some Standard
    else (if pointwise nat_eq (oid_content identifier.0) (mechanism_octets Microsoft) then Some Microsoft else None)

-- Kerberos, where it is one of the identifiers. The first that is its counts
abbrev pub first_kerberos : List ObjectIdentifierAsn1 → Option ObjectIdentifierAsn1
first_kerberos identifiers = find (λ identifier. is_some (kerberos_in identifier)) identifiers

-- SPNEGO's list has Kerberos as 1.2.840.113554.1.2.2, or as Microsoft's 1.2.840.48018.1.2.2. The first such identifier counts (RFC 4121,
-- section 4.1; MS-SPNG, section 3.1.5.2). Test: `SPNEGO: either identifier`.
abbrev pub kerberos_among : List ObjectIdentifierAsn1 → Option Mechanism
kerberos_among identifiers = option_and_then kerberos_in (first_kerberos identifiers)

-- Kerberos is the first of the identifiers
abbrev pub is_first : List ObjectIdentifierAsn1 → Bool
is_first [] = false
is_first (first ∷ others) = is_some (kerberos_in first)

standard_octets : oid_content (1 ∷ 2 ∷ 840 ∷ 113554 ∷ 1 ∷ 2 ∷ 2 ∷ []) ≡ mechanism_octets Standard
unfolding oid_content subidentifier
standard_octets = refl

microsoft_octets : oid_content (1 ∷ 2 ∷ 840 ∷ 48018 ∷ 1 ∷ 2 ∷ 2 ∷ []) ≡ mechanism_octets Microsoft
unfolding oid_content subidentifier
microsoft_octets = refl

spnego_are : oid_content (1 ∷ 3 ∷ 6 ∷ 1 ∷ 5 ∷ 5 ∷ 2 ∷ []) ≡ spnego_octets
unfolding oid_content subidentifier
spnego_are = refl
