-- Tokens of the Kerberos mechanism that establish a context: the mechanism's identifier, a token id of two octets, and the message
-- (RFC 4121, section 4.1), as the GSS-API frames first tokens (RFC 2743, section 3.1).
use Rattle.std.proofs.Common.{◌≡◌, [], ◌∷◌, ◌++◌, drop, ap, refl, sym, ◌∙◌}
use Rattle.picky_asn1.specs.Bytes.{Bytes}
use Rattle.asn1_der.specs.Length.{element}
use Rattle.asn1_der.proofs.Elements.{element-one}
use Rattle.decision_tables.specs.One.{IsSole}
use Rattle.gss_acceptor.specs.Mechanisms.{mechanism_octets}
use Rattle.gss_acceptor.specs.declared.mechanism.Mechanism.TheVariants.{Standard}
use Rattle.krb_constants.specs.declared.gss_api.TheConstants.{AP_REP_TOKEN_ID, AP_REQ_TOKEN_ID, INITIAL_TOKEN}

-- the mechanism's identifier (`06 09 ..`), and the token ids of an AP-REQ and of an AP-REP
abbrev pub ap_req_front : Bytes
ap_req_front = 6 ∷ 9 ∷ 42 ∷ 134 ∷ 72 ∷ 134 ∷ 247 ∷ 18 ∷ 1 ∷ 2 ∷ 2 ∷ 1 ∷ 0 ∷ []

abbrev pub ap_rep_front : Bytes
ap_rep_front = 6 ∷ 9 ∷ 42 ∷ 134 ∷ 72 ∷ 134 ∷ 247 ∷ 18 ∷ 1 ∷ 2 ∷ 2 ∷ 2 ∷ 0 ∷ []

-- the identifier is Kerberos's
ap_req_mechanism : ap_req_front ≡ 6 ∷ 9 ∷ (mechanism_octets Standard ++ AP_REQ_TOKEN_ID)
ap_req_mechanism = refl

ap_rep_mechanism : ap_rep_front ≡ 6 ∷ 9 ∷ (mechanism_octets Standard ++ AP_REP_TOKEN_ID)
ap_rep_mechanism = refl

-- the token holds this AP-REQ, and nothing follows it
abbrev pub IsApReqToken : Bytes → Bytes → Type 0
IsApReqToken token request = token ≡ element INITIAL_TOKEN (ap_req_front ++ request)

-- a token holds one at most
pub sole_ap_req : (token : Bytes) → IsSole (IsApReqToken token)
sole_ap_req token a b x y =
    let tokens : element INITIAL_TOKEN (ap_req_front ++ a) ++ [] ≡ element INITIAL_TOKEN (ap_req_front ++ b) ++ [] = ap (λ (t : Bytes). t ++ []) (sym x ∙ y) in
    let contents : ap_req_front ++ a ≡ ap_req_front ++ b = (element-one INITIAL_TOKEN INITIAL_TOKEN (ap_req_front ++ a) (ap_req_front ++ b) [] [] tokens).1 in
    ap (drop 13) contents

-- An AP-REP is sent in a token with the id 02 00 (RFC 4121, section 4.1). Test: `Etype 17.`, `Etype 18.`, `Etype 19.`, `Etype 20.`.
abbrev pub ap_rep_token : Bytes → Bytes
ap_rep_token reply = element INITIAL_TOKEN (ap_rep_front ++ reply)
