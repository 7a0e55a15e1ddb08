-- A PAC that is found and judged.
use Rattle.std.proofs.Common.{◌≡◌, ℕ, List, Result, Ok, Err, MatchResult, IsErrAnd, ◌⊎◌, refl, sym, subst, inl, inr}
use Rattle.asn1_leaves.specs.GeneralizedTime.{seconds_of}
use Rattle.asn1_leaves.specs.declared.date.GeneralizedTime.{GeneralizedTime}
use Rattle.krb_crypto.specs.Keys.{KeyRecord}
use Rattle.krb_messages.specs.Names.{components}
use Rattle.krb_messages.specs.declared.data_types.authorization_data.AuthorizationDataInner.{AuthorizationDataInner}
use Rattle.krb_messages.specs.declared.data_types.principal_name.PrincipalName.{PrincipalName}
use Rattle.krb_pac.specs.declared.error.PacFault.{PacFault}
use Rattle.krb_pac.specs.declared.error.PacFault.TheVariants.{Memory}
use Rattle.krb_pac.specs.AuthorizationData.{ElementsHave, sole_pac, FindsPac}
use Rattle.krb_pac.specs.Reading.{Gives}
use Rattle.krb_pac.specs.Verified.{judged, Verifies}

-- what the only PAC of these is found to be
pub found-sole : {V : Type 0} (view : V → List ℕ) (elements : List AuthorizationDataInner) (pacs : List (List ℕ)) (r : Result V PacFault) → ElementsHave elements pacs
    → MatchResult r (λ pac. sole_pac pacs ≡ Ok (view pac)) (λ e. sole_pac pacs ≡ Err e)
    → MatchResult r (λ pac. FindsPac elements (Ok (view pac))) (λ e. (e ≡ Memory) ⊎ FindsPac elements (Err e))
found-sole view elements pacs (Ok pac) has is = inl (pacs, has, sym is)
found-sole view elements pacs (Err e) has is = inr (inl (pacs, has, sym is))

-- a PAC is found, and then judged
pub verifies-found : (elements : List AuthorizationDataInner) (key : KeyRecord) (client : PrincipalName) (authtime : GeneralizedTime) (pac : List ℕ)
    (r : Result (List ℕ) PacFault) → FindsPac elements (Ok pac) → Gives (λ p. p) r (judged key (components client) (seconds_of authtime) pac)
    → Verifies elements key client authtime r
unfolding Verifies
verifies-found elements key client authtime pac (Ok p) finds is = (Ok pac, finds, is)
verifies-found elements key client authtime pac (Err e) finds (inl memory) = inl memory
verifies-found elements key client authtime pac (Err e) finds (inr is) = inr (Ok pac, finds, is)

-- no PAC is found
pub verifies-refused : (elements : List AuthorizationDataInner) (key : KeyRecord) (client : PrincipalName) (authtime : GeneralizedTime) (r : Result (List ℕ) PacFault)
    (e : PacFault) → IsErrAnd r (λ y. y ≡ e) → (e ≡ Memory) ⊎ FindsPac elements (Err e) → Verifies elements key client authtime r
unfolding Verifies
verifies-refused elements key client authtime (Ok p) e is finds = absurd is
verifies-refused elements key client authtime (Err y) e is (inl memory) = inl (subst (λ (f : PacFault). f ≡ Memory) (sym is) memory)
verifies-refused elements key client authtime (Err y) e is (inr finds) = inr (Err y, subst (λ (f : PacFault). FindsPac elements (Err f)) (sym is) finds, refl)
