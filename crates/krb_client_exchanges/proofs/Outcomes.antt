-- What a table gives, memory aside, by what its first row says.
use Rattle.std.proofs.Common.{◌≡◌, Result, Ok, Err, inl, inr}
use Rattle.decision_tables.specs.One.{IsSole}
use Rattle.decision_tables.specs.Tables.{Table, ask, done}
use Rattle.krb_client_exchanges.specs.Refusals.{IsHinted}
use Rattle.krb_client_exchanges.specs.declared.refusal.HintRefusal.{HintRefusal}
use Rattle.krb_client_exchanges.specs.declared.refusal.HintRefusal.TheVariants.{Memory, NoHint, NoSuite, OtherParameters, Refused, Unreadable}

-- a value has the property
pub found : {A T : Type 0} (P : A → Type 0) (sole : IsSole P) (otherwise : Table (Result T HintRefusal)) (rest : A → Table (Result T HintRefusal)) (answer : Result T HintRefusal) (a : A)
    → P a → IsHinted (rest a) answer → IsHinted (ask P sole otherwise rest) answer
found P sole otherwise rest (Ok value) a p given = inl (a, p, given)
found P sole otherwise rest (Err Unreadable) a p given = inl (a, p, given)
found P sole otherwise rest (Err (Refused code)) a p given = inl (a, p, given)
found P sole otherwise rest (Err NoHint) a p given = inl (a, p, given)
found P sole otherwise rest (Err NoSuite) a p given = inl (a, p, given)
found P sole otherwise rest (Err OtherParameters) a p given = inl (a, p, given)
found P sole otherwise rest (Err Memory) a p given = tt

-- none has
pub not_found : {A T : Type 0} (P : A → Type 0) (sole : IsSole P) (otherwise : Table (Result T HintRefusal)) (rest : A → Table (Result T HintRefusal)) (answer : Result T HintRefusal)
    → ((a : A) → P a → ⊥) → IsHinted otherwise answer → IsHinted (ask P sole otherwise rest) answer
not_found P sole otherwise rest (Ok value) none given = inr (none, given)
not_found P sole otherwise rest (Err Unreadable) none given = inr (none, given)
not_found P sole otherwise rest (Err (Refused code)) none given = inr (none, given)
not_found P sole otherwise rest (Err NoHint) none given = inr (none, given)
not_found P sole otherwise rest (Err NoSuite) none given = inr (none, given)
not_found P sole otherwise rest (Err OtherParameters) none given = inr (none, given)
not_found P sole otherwise rest (Err Memory) none given = tt

-- an answer is the one outcome of a table without rows
pub given : {T : Type 0} (answer outcome : Result T HintRefusal) → answer ≡ outcome → IsHinted (done outcome) answer
given (Ok value) outcome is = is
given (Err Unreadable) outcome is = is
given (Err (Refused code)) outcome is = is
given (Err NoHint) outcome is = is
given (Err NoSuite) outcome is = is
given (Err OtherParameters) outcome is = is
given (Err Memory) outcome is = tt
