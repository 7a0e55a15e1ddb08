-- The first token of an initiator: of Kerberos, bare or in one of SPNEGO (RFC 4121, section 4.1; RFC 4178, section 4.2.1).
use Rattle.std.specs.Prelude.{◌≡◌, List, [], ◌∷◌, ◌++◌, None, Some, refl}
use Rattle.picky_asn1.specs.Bytes.{Bytes}
use Rattle.picky_asn1.specs.declared.wrapper.ObjectIdentifierAsn1.{ObjectIdentifierAsn1}
use Rattle.asn1_der.specs.Length.{element, length_octets}
use Rattle.asn1_der.specs.Tree.{der}
use Rattle.asn1_leaves.specs.ObjectIdentifier.{oid_content, subidentifier}
use Rattle.x509_oids.specs.Identifiers as oids
use Rattle.gss_contexts.specs.declared.context_tokens.gss_api_neg_init.GssApiNegInit.{GssApiNegInit}
use Rattle.gss_acceptor.specs.Negotiation.{mech_types_octets, neg_init_tree}
use Rattle.gss_acceptor.specs.Tokens.{ap_req_front}
use Rattle.gss_initiator.specs.declared.initiated.TokenForm.{TokenForm}
use Rattle.gss_initiator.specs.declared.initiated.TokenForm.TheVariants.{Bare, Negotiated}
use Rattle.krb_constants.specs.declared.gss_api.TheConstants.{INITIAL_TOKEN}

-- the token of an AP-REQ (RFC 4121, section 4.1)
abbrev pub ap_req_token : Bytes → Bytes
ap_req_token request = element INITIAL_TOKEN (ap_req_front ++ request)

-- The list of mechanisms has Kerberos alone, by 1.2.840.113554.1.2.2. So Kerberos is the first, and its token comes with the list (RFC
-- 4178, section 4.2.1). Test: `In SPNEGO, by either identifier or none`.
abbrev pub mechanisms : List ObjectIdentifierAsn1
mechanisms = record { 0 = oids.krb5 } ∷ []

-- the octets of the list, which MICs are over (RFC 4178, section 5)
abbrev pub list_octets : Bytes
list_octets = 48 ∷ 11 ∷ 6 ∷ 9 ∷ 42 ∷ 134 ∷ 72 ∷ 134 ∷ 247 ∷ 18 ∷ 1 ∷ 2 ∷ 2 ∷ []

pub list_octets_are : mech_types_octets mechanisms ≡ list_octets
unfolding oid_content subidentifier element length_octets
list_octets_are = refl

-- the first message of SPNEGO with the mechanism's token, and without flags and MIC
abbrev pub neg_init : Bytes → GssApiNegInit
neg_init token = record {
  oid = record { 0 = oids.spnego };
  neg_token_init = record {
    0 = record {
      mech_types = record { 0 = Some (record { 0 = mechanisms }) };
      req_flags = record { 0 = None };
      mech_token = record { 0 = Some (record { 0 = token }) };
      mech_list_mic = record { 0 = None };
    };
  };
}

-- the first token of SPNEGO that has this token of Kerberos, as DER (RFC 4178, section 4.2.1)
unfoldable pub neg_init_token : Bytes → Bytes
neg_init_token token = der (neg_init_tree (neg_init token))

-- the token of this form
abbrev pub first_token : TokenForm → Bytes → Bytes
first_token Bare request = ap_req_token request
first_token Negotiated request = neg_init_token (ap_req_token request)
