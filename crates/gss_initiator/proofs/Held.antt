-- What a token holds behind the octets before its message.
use Rattle.std.proofs.Common.{◌≡◌, ℕ, List, [], ◌++◌, Option, None, Some, MatchOption, append-nil, sym, ap, ◌∙◌}
use Rattle.asn1_der.specs.Length.{element}
use Rattle.asn1_der.proofs.Elements.{element-one}
use Rattle.gss_initiator.specs.Replies.{IsTokenOf}

alone : (token content : List ℕ) → token ≡ element 96 content → token ≡ element 96 content ++ []
alone token content is = is ∙ sym (append-nil (element 96 content))

pub held_in : {A : Type 0} (octets : A → List ℕ) (front token content : List ℕ) (found : Option A) → token ≡ element 96 content
    → MatchOption found ((message : List ℕ) → content ≡ front ++ message → ⊥) (λ message. content ≡ front ++ octets message)
    → MatchOption found ((message : List ℕ) → IsTokenOf front token message → ⊥) (λ message. IsTokenOf front token (octets message))
held_in octets front token content None is none = λ message held.
    none message ((element-one 96 96 content (front ++ message) [] [] (sym (alone token content is) ∙ alone token (front ++ message) held)).1)
held_in octets front token content (Some message) is found = is ∙ ap (element 96) found
