-- What a table gives by what its first row says.
use Rattle.std.proofs.Common.{◌≡◌, Bool, true, false, Option, None, Some, Result, Ok, Err, inl, inr, refl, subst, sym}
use Rattle.decision_tables.specs.One.{IsSole}
use Rattle.decision_tables.specs.Tables.{Table, and_then, ask, need, refuse}
use Rattle.krb_client.specs.Refusals.{IsTaken}
use Rattle.krb_client.specs.declared.refusal.TakeRefusal.{TakeRefusal}
use Rattle.krb_client.specs.declared.refusal.TakeRefusal.TheVariants.{Memory, NotAsked, NotSealed, NotTrusted, Refused, Unreadable}

-- the case doesn't hold
pub passed : {T : Type 0} (case : Bool) (refusal : TakeRefusal) (rest : Table (Result T TakeRefusal)) (taken : Result T TakeRefusal)
    → case ≡ false → IsTaken rest taken → IsTaken (refuse case refusal rest) taken
passed true refusal rest taken e given = absurd (cc (e))
passed false refusal rest taken e given = given

-- the value is there
pub needed : {A T : Type 0} (own : Option A) (refusal : TakeRefusal) (rest : A → Table (Result T TakeRefusal)) (taken : Result T TakeRefusal) (a : A)
    → own ≡ Some a → IsTaken (rest a) taken → IsTaken (need own refusal rest) taken
needed None refusal rest taken a e given = absurd (cc (e))
needed {A} (Some b) refusal rest taken a e given = let same : b ≡ a = cc (e) in subst (λ (x : A). IsTaken (rest x) taken) (sym same) given

-- a value has the property
pub found : {A T : Type 0} (P : A → Type 0) (sole : IsSole P) (otherwise : Table (Result T TakeRefusal)) (rest : A → Table (Result T TakeRefusal)) (taken : Result T TakeRefusal) (a : A)
    → P a → IsTaken (rest a) taken → IsTaken (ask P sole otherwise rest) taken
found P sole otherwise rest (Ok value) a p given = inl (a, p, given)
found P sole otherwise rest (Err Unreadable) a p given = inl (a, p, given)
found P sole otherwise rest (Err (Refused code)) a p given = inl (a, p, given)
found P sole otherwise rest (Err NotTrusted) a p given = inl (a, p, given)
found P sole otherwise rest (Err NotSealed) a p given = inl (a, p, given)
found P sole otherwise rest (Err NotAsked) a p given = inl (a, p, given)
found P sole otherwise rest (Err Memory) a p given = tt

-- none has
pub not_found : {A T : Type 0} (P : A → Type 0) (sole : IsSole P) (otherwise : Table (Result T TakeRefusal)) (rest : A → Table (Result T TakeRefusal)) (taken : Result T TakeRefusal)
    → ((a : A) → P a → ⊥) → IsTaken otherwise taken → IsTaken (ask P sole otherwise rest) taken
not_found P sole otherwise rest (Ok value) none given = inr (none, given)
not_found P sole otherwise rest (Err Unreadable) none given = inr (none, given)
not_found P sole otherwise rest (Err (Refused code)) none given = inr (none, given)
not_found P sole otherwise rest (Err NotTrusted) none given = inr (none, given)
not_found P sole otherwise rest (Err NotSealed) none given = inr (none, given)
not_found P sole otherwise rest (Err NotAsked) none given = inr (none, given)
not_found P sole otherwise rest (Err Memory) none given = tt

-- the first part gives a value
pub taken_then : {A T : Type 0} (first : Table (Result A TakeRefusal)) (rest : A → Table (Result T TakeRefusal)) (taken : Result T TakeRefusal) (a : A)
    → IsTaken first (Ok a) → IsTaken (rest a) taken → IsTaken (and_then first rest) taken
taken_then first rest (Ok value) a p given = inl (a, p, given)
taken_then first rest (Err Unreadable) a p given = inl (a, p, given)
taken_then first rest (Err (Refused code)) a p given = inl (a, p, given)
taken_then first rest (Err NotTrusted) a p given = inl (a, p, given)
taken_then first rest (Err NotSealed) a p given = inl (a, p, given)
taken_then first rest (Err NotAsked) a p given = inl (a, p, given)
taken_then first rest (Err Memory) a p given = tt

-- the first part refuses
pub refused_then : {A T : Type 0} (first : Table (Result A TakeRefusal)) (rest : A → Table (Result T TakeRefusal)) (refusal : TakeRefusal)
    → IsTaken first (Err refusal) → IsTaken (and_then first rest) (Err refusal)
refused_then first rest Unreadable p = inr (Unreadable, p, refl)
refused_then first rest (Refused code) p = inr (Refused code, p, refl)
refused_then first rest NotTrusted p = inr (NotTrusted, p, refl)
refused_then first rest NotSealed p = inr (NotSealed, p, refl)
refused_then first rest NotAsked p = inr (NotAsked, p, refl)
refused_then first rest Memory p = tt
