-- Tokens of the GSS-API: an element with the tag `[APPLICATION 0]`. It holds a mechanism's OBJECT IDENTIFIER and the mechanism's
-- inner token (RFC 2743, section 3.1). The inner token of a Kerberos mechanism is a token id of two octets, and the message
-- (RFC 4121, section 4.1).
use Rattle.std.specs.Prelude.{◌≡◌, ℕ, List, ◌++◌, length}
use Rattle.asn1_der.specs.Tree.{Tree, der, Writes}
use Rattle.asn1_der.specs.Length.{element}
use Rattle.asn1_der.specs.Tagged.{leaf_as, tagged_tree}
use Rattle.asn1_leaves.specs.ObjectIdentifier.{is_object_identifier, oid_content}
use Rattle.picky_asn1.specs.declared.wrapper.ObjectIdentifierAsn1.{ObjectIdentifierAsn1}
use Rattle.x509_oids.specs.Identifiers.{iakerb5}
use Rattle.gss_contexts.specs.Fronts.{Leads}
use Rattle.asn1_der.specs.Octets.{object_identifier_octet}
use Rattle.krb_constants.specs.declared.gss_api.TheConstants.{IAKERB_PROXY_TOKEN_ID, INITIAL_TOKEN}

-- an OBJECT IDENTIFIER (X.690, section 8.19)
abbrev pub mechanism_tree : ObjectIdentifierAsn1 → Tree
mechanism_tree = tagged_tree object_identifier_octet (leaf_as (λ oid. is_object_identifier oid.0) (λ oid. oid_content oid.0)) (λ oid. oid)

-- the bytes begin with a token that has this content
abbrev pub BeginsToken : List ℕ → List ℕ → Type 0
BeginsToken content bytes = (rest : List ℕ) × (bytes ≡ element INITIAL_TOKEN content ++ rest)

-- the bytes begin with a token of this mechanism, and this is in it behind the mechanism
abbrev pub IsOfMechanism : List ℕ → ObjectIdentifierAsn1 → List ℕ → Type 0
IsOfMechanism bytes mechanism inner = (content : List ℕ) × BeginsToken content bytes × Leads (Writes mechanism_tree) mechanism content inner

-- a token id of two octets precedes the message
abbrev pub IsTold : List ℕ → List ℕ → List ℕ → Type 0
IsTold inner id message = (inner ≡ id ++ message) × (length id ≡ 2)

-- the mechanism IAKERB (draft-ietf-kitten-iakerb-03, section 3)
abbrev pub iakerb : ObjectIdentifierAsn1
iakerb = record { 0 = iakerb5 }

-- the token id of an IAKERB message (draft-ietf-kitten-iakerb-03, section 3)
abbrev pub proxy_id : List ℕ
proxy_id = IAKERB_PROXY_TOKEN_ID

-- the bytes begin with a token of IAKERB, and this follows its token id
abbrev pub IsProxied : List ℕ → List ℕ → Type 0
IsProxied bytes message = (inner : List ℕ) × IsOfMechanism bytes iakerb inner × IsTold inner proxy_id message

-- the content of a token: the mechanism, the token id and the message
abbrev pub told_content : ObjectIdentifierAsn1 → List ℕ → List ℕ → List ℕ
told_content mechanism id message = der (mechanism_tree mechanism) ++ (id ++ message)

-- An initial context token with this content: the content under the tag 0x60 (RFC 2743, section 3.1).
abbrev pub token_bytes : List ℕ → List ℕ
token_bytes content = element INITIAL_TOKEN content
