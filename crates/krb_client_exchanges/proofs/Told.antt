-- What a table gives is judged so, where its refusals are told as a login's.
use Rattle.std.proofs.Common.{Result, Ok, Err, refl, inl, inr, subst, sym}
use Rattle.decision_tables.specs.Tables.{Table, done}
use Rattle.krb_crypto.specs.declared.suite.CipherSuite.{CipherSuite}
use Rattle.krb_client_exchanges.specs.Refusals.{IsHinted, IsMemoryAside}
use Rattle.krb_client_exchanges.specs.declared.refusal.HintedClientRefusal.{HintedClientRefusal}
use Rattle.krb_client_exchanges.specs.declared.refusal.HintedClientRefusal.TheVariants as client
use Rattle.krb_client_exchanges.specs.declared.refusal.HintRefusal.{HintRefusal}
use Rattle.krb_client_exchanges.specs.declared.refusal.HintRefusal.TheVariants as hint
use Rattle.krb_client_exchanges.specs.Courses.{Judges}
use Rattle.krb_client_exchanges.specs.SharedKeys.{told_as}
use Rattle.krb_client_exchanges.specs.Taking.{judged_hint, judged_made}
use Rattle.krb_client_exchanges.specs.declared.fault.LoginRefusal.TheVariants.{NotHinted, NotMade}

pub hinted : {T : Type 0} (F : Type 0) (table : Table (Result T HintRefusal)) (answer : Result T HintRefusal) → IsHinted table answer → Judges {F = F} NotHinted table (judged_hint answer)
hinted F table (Ok value) given = given
hinted F table (Err hint.Unreadable) given = (hint.Unreadable, given, refl)
hinted F table (Err (hint.Refused code)) given = (hint.Refused code, given, refl)
hinted F table (Err hint.NoHint) given = (hint.NoHint, given, refl)
hinted F table (Err hint.NoSuite) given = (hint.NoSuite, given, refl)
hinted F table (Err hint.OtherParameters) given = (hint.OtherParameters, given, refl)
hinted F table (Err hint.Memory) given = tt

-- a client that is made by a hint
made_judged : {T : Type 0} (F : Type 0) (suite : CipherSuite) (made : Result T HintedClientRefusal) → Judges {F = F} (λ refusal. refusal) (done (told_as (NotMade suite) made)) (judged_made suite made)
made_judged F suite (Ok value) = refl
made_judged F suite (Err client.BadName) = (NotMade suite client.BadName, refl, refl)
made_judged F suite (Err client.OtherSuite) = (NotMade suite client.OtherSuite, refl, refl)
made_judged F suite (Err client.OtherSalt) = (NotMade suite client.OtherSalt, refl, refl)
made_judged F suite (Err client.NoKey) = (NotMade suite client.NoKey, refl, refl)
made_judged F suite (Err client.Memory) = tt

pub keyed : {T : Type 0} (F : Type 0) (suite : CipherSuite) (made expected : Result T HintedClientRefusal) → IsMemoryAside made expected
    → Judges {F = F} (λ refusal. refusal) (done (told_as (NotMade suite) expected)) (judged_made suite made)
keyed {T} F suite made expected (inl memory) =
    subst (λ (own : Result T HintedClientRefusal). Judges {F = F} (λ refusal. refusal) (done (told_as (NotMade suite) expected)) (judged_made suite own)) (sym memory) tt
keyed {T} F suite made expected (inr same) =
    subst (λ (own : Result T HintedClientRefusal). Judges {F = F} (λ refusal. refusal) (done (told_as (NotMade suite) own)) (judged_made suite made)) same (made_judged F suite made)
