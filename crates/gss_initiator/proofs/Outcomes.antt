-- What a table gives by what its first row says, memory aside.
use Rattle.std.proofs.Common.{◌≡◌, ◌⊎◌, Bool, true, false, Result, Ok, Err, inl, inr, refl}
use Rattle.decision_tables.specs.One.{IsSole}
use Rattle.decision_tables.specs.Tables.{Table, and_then, ask, refuse}
use Rattle.gss_initiator.specs.Replies.{IsRead}
use Rattle.gss_initiator.specs.declared.refusal.InitiateRefusal.{InitiateRefusal}
use Rattle.gss_initiator.specs.declared.refusal.InitiateRefusal.TheVariants.{Memory}

-- the case doesn't hold
pub passed : {T : Type 0} (case : Bool) (refusal : InitiateRefusal) (rest : Table (Result T InitiateRefusal)) (result : Result T InitiateRefusal)
    → case ≡ false → IsRead rest.gives result → IsRead (refuse case refusal rest).gives result
passed true refusal rest result e given = absurd (cc (e))
passed false refusal rest result e given = given

-- it holds
pub refused : {T : Type 0} (case : Bool) (refusal : InitiateRefusal) (rest : Table (Result T InitiateRefusal))
    → case ≡ true → IsRead (refuse case refusal rest).gives (Err refusal)
refused true refusal rest e = inr refl
refused false refusal rest e = absurd (cc (e))

-- a value has the property
pub found : {A T : Type 0} (P : A → Type 0) (sole : IsSole P) (otherwise : Table (Result T InitiateRefusal)) (rest : A → Table (Result T InitiateRefusal)) (result : Result T InitiateRefusal) (a : A)
    → P a → IsRead (rest a).gives result → IsRead (ask P sole otherwise rest).gives result
found P sole otherwise rest result a p (inl memory) = inl memory
found P sole otherwise rest result a p (inr given) = inr (inl (a, p, given))

-- none has
pub not_found : {A T : Type 0} (P : A → Type 0) (sole : IsSole P) (otherwise : Table (Result T InitiateRefusal)) (rest : A → Table (Result T InitiateRefusal)) (result : Result T InitiateRefusal)
    → ((a : A) → P a → ⊥) → IsRead otherwise.gives result → IsRead (ask P sole otherwise rest).gives result
not_found P sole otherwise rest result none (inl memory) = inl memory
not_found P sole otherwise rest result none (inr given) = inr (inr (none, given))

-- the first part gives a value
pub then_ok : {A T : Type 0} (first : Table (Result A InitiateRefusal)) (rest : A → Table (Result T InitiateRefusal)) (result : Result T InitiateRefusal) (a : A)
    → IsRead first.gives (Ok a) → IsRead (rest a).gives result → IsRead (and_then first rest).gives result
then_ok first rest result a (inl never) given = absurd (cc (never))
then_ok first rest result a (inr p) (inl memory) = inl memory
then_ok first rest result a (inr p) (inr given) = inr (inl (a, p, given))

-- the first part refuses
pub then_err : {A T : Type 0} (first : Table (Result A InitiateRefusal)) (rest : A → Table (Result T InitiateRefusal)) (refusal : InitiateRefusal)
    → IsRead first.gives (Err refusal) → IsRead (and_then first rest).gives (Err refusal)
then_err first rest refusal (inl memory) = inl (cc (memory))
then_err first rest refusal (inr p) = inr (inr (refusal, p, refl))

-- what is given, and why nothing is
pub given : {T : Type 0} (table : Table (Result T InitiateRefusal)) (value : T) → IsRead table.gives (Ok value) → table.gives (Ok value)
given table value (inl never) = absurd (cc (never))
given table value (inr x) = x

pub why : {T : Type 0} (table : Table (Result T InitiateRefusal)) (refusal : InitiateRefusal) → IsRead table.gives (Err refusal) → (refusal ≡ Memory) ⊎ table.gives (Err refusal)
why table refusal (inl memory) = inl (cc (memory))
why table refusal (inr x) = inr x
