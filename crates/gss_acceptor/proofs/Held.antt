-- What octets that are no element of a token, or another one, are not; and what a token holds.
use Rattle.std.proofs.Common.{◌≡◌, ℕ, List, [], ◌++◌, Option, None, Some, MatchOption, append-nil, refl, sym, ap, ◌∙◌}
use Rattle.asn1_der.specs.Length.{element}
use Rattle.asn1_der.proofs.Elements.{element-one}
use Rattle.picky_asn1_der.specs.Splits.{IsNoSplit}
use Rattle.gss_acceptor.specs.Tokens.{IsApReqToken, ap_req_front}
use Rattle.krb_constants.specs.declared.gss_api.TheConstants.{INITIAL_TOKEN}

-- an element with nothing behind it
alone : (token content : List ℕ) → token ≡ element INITIAL_TOKEN content → token ≡ element INITIAL_TOKEN content ++ []
alone token content is = is ∙ sym (append-nil (element INITIAL_TOKEN content))

pub no_element : (token : List ℕ) → IsNoSplit token → (content : List ℕ) → token ≡ element INITIAL_TOKEN content → ⊥
no_element token none content is = none (record { first = INITIAL_TOKEN; content = content }) [] (refl, alone token content is)

pub other_element : (token : List ℕ) (first number : ℕ) (content rest : List ℕ) → token ≡ element first content ++ rest → number ≡ first → (number ≡ INITIAL_TOKEN → ⊥)
    → (value : List ℕ) → token ≡ element INITIAL_TOKEN value → ⊥
other_element token first number content rest is same differs value value_is =
    differs (same ∙ (element-one first INITIAL_TOKEN content value rest [] (sym is ∙ alone token value value_is)).0)

pub more_behind : (token : List ℕ) (first : ℕ) (content rest : List ℕ) → token ≡ element first content ++ rest → (rest ≡ [] → ⊥)
    → (value : List ℕ) → token ≡ element INITIAL_TOKEN value → ⊥
more_behind token first content rest is some value value_is =
    some ((element-one first INITIAL_TOKEN content value rest [] (sym is ∙ alone token value value_is)).2)

-- what is in the content is in the token
pub held_in : {A : Type 0} (octets : A → List ℕ) (token content : List ℕ) (found : Option A) → token ≡ element INITIAL_TOKEN content
    → MatchOption found ((request : List ℕ) → content ≡ ap_req_front ++ request → ⊥) (λ request. content ≡ ap_req_front ++ octets request)
    → MatchOption found ((request : List ℕ) → IsApReqToken token request → ⊥) (λ request. IsApReqToken token (octets request))
held_in octets token content None is none = λ request held.
    none request ((element-one INITIAL_TOKEN INITIAL_TOKEN content (ap_req_front ++ request) [] [] (sym (alone token content is) ∙ alone token (ap_req_front ++ request) held)).1)
held_in octets token content (Some request) is found = is ∙ ap (element INITIAL_TOKEN) found
