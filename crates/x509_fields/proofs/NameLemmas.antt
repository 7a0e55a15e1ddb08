-- A set of one attribute was added, which is one of this kind.
use Rattle.std.proofs.Common.{◌≡◌, List, [], ◌∷◌, ◌++◌, MatchResult}
use Rattle.std.specs.Prelude.{Result, Ok, Err}
use Rattle.x509_fields.specs.declared.attribute_type_and_value.AttributeTypeAndValue.{AttributeTypeAndValue}

pub added_alone : {A E : Type 0} (r : Result A E) (IsOf : AttributeTypeAndValue → Type 0) (v : AttributeTypeAndValue) (old new : List (List AttributeTypeAndValue)) → IsOf v
    → MatchResult r (λ _. new ≡ old ++ (v ∷ []) ∷ []) (λ _. new ≡ old)
    → MatchResult r (λ _. (last : AttributeTypeAndValue) × IsOf last × (new ≡ old ++ (last ∷ []) ∷ [])) (λ _. new ≡ old)
added_alone (Ok a) IsOf v old new is added = (v, is, added)
added_alone (Err e) IsOf v old new is added = added
