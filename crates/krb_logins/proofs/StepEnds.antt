-- What a step of a login returns where the call that it makes ends with an error.
use Rattle.std.proofs.Common.{◌≡◌, Result, Ok, Err, IsErrAnd, MatchResult, subst, sym, ap, refl}
use Rattle.krb_logins.specs.declared.refusal.LoginRefusal.{LoginRefusal}

-- what the exit of a `?` returns
pub exit_of : {T : Type 0} (result : Result T LoginRefusal) (refusal : LoginRefusal) → IsErrAnd result (λ y. y ≡ refusal) → result ≡ Err refusal
exit_of (Ok made) refusal is = absurd is
exit_of (Err other) refusal is = ap Err is

-- what `map_err` returns
pub told_as : {A E : Type 0} (own : E → LoginRefusal) (result : Result A E) (told : Result A LoginRefusal) → MatchResult result (λ made. told ≡ Ok made) (λ cause. IsErrAnd told (λ refusal. refusal ≡ own cause))
    → (Is : Result A LoginRefusal → Type 0) → ((made : A) → result ≡ Ok made → Is (Ok made)) → ((cause : E) → result ≡ Err cause → Is (Err (own cause))) → Is told
told_as own (Ok made) told is Is ok err = subst Is (sym is) (ok made refl)
told_as own (Err cause) (Err refusal) is Is ok err = subst (λ r. Is (Err r)) (sym is) (err cause refl)
told_as own (Err cause) (Ok made) is Is ok err = absurd is
