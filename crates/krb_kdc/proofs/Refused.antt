-- Messages that get no reply, since an account was not looked up.
use Rattle.std.proofs.Common.{◌≡◌, ◌⊎◌, ℕ, List, Option, Result, Ok, Err, IfErr, inl, inr, sym, subst}
use Rattle.std.specs.Prelude.{Vec}
use Rattle.std.specs.Global.{Global}
use Rattle.std.specs.Result.{IsErrAnd}
use Rattle.krb_kdc.specs.Answers.{IsAnswerBy, MayRefuse}
use Rattle.krb_kdc.specs.Begins.{BeginsRequest}
use Rattle.krb_kdc.specs.Faults.{MayFail}
use Rattle.krb_kdc.specs.declared.fault.LookupFault.{LookupFault}
use Rattle.krb_kdc.specs.declared.fault.LookupFault.TheVariants.{Failed, Damaged, Memory}
use Rattle.krb_kdc.specs.declared.fault.LookupRefusal.{LookupRefusal}
use Rattle.krb_kdc.specs.declared.fault.LookupRefusal.TheVariants.{Unreadable, Fault}

pub no_answer : (replies : Option (List ℕ) → Type 0) (fault : LookupFault) (result : Result (Vec ℕ Global) LookupRefusal) → IsErrAnd result (λ refusal. refusal ≡ Fault fault)
    → IsAnswerBy replies result
no_answer replies fault (Ok reply) is = absurd is
no_answer replies fault (Err refusal) is = subst (λ (r : LookupRefusal). IsAnswerBy replies (Err r)) (sym is) tt

pub refused : (may : LookupFault → Type 0) (message : List ℕ) (fault : LookupFault) (result : Result (Vec ℕ Global) LookupRefusal) → IsErrAnd result (λ refusal. refusal ≡ Fault fault)
    → BeginsRequest message → MayFail may fault → IfErr result (MayRefuse may message)
refused may message fault (Ok reply) is begins fails = tt
refused may message fault (Err refusal) is begins fails = subst (MayRefuse may message) (sym is) (begins, fails)

-- What there may be for one reason there may be for another that follows.
pub widened : (a b : LookupFault → Type 0) → ((fault : LookupFault) → a fault → b fault) → (fault : LookupFault) → MayFail a fault → MayFail b fault
widened a b more (Failed kind) may = more (Failed kind) may
widened a b more Damaged may = more Damaged may
widened a b more Memory may = tt

-- A fault that a call had, and its caller returns.
pub failed : {T : Type 0} (may : LookupFault → Type 0) (fault : LookupFault) (result : Result T LookupFault) → IsErrAnd result (λ own. own ≡ fault) → MayFail may fault
    → IfErr result (MayFail may)
failed may fault (Ok value) is fails = tt
failed may fault (Err own) is fails = subst (MayFail may) (sym is) fails

-- The first of two reasons, and the second.
pub of_first : (a b : LookupFault → Type 0) (fault : LookupFault) → MayFail a fault → MayFail (λ own. a own ⊎ b own) fault
of_first a b = widened a (λ own. a own ⊎ b own) (λ own x. inl x)

pub of_second : (a b : LookupFault → Type 0) (fault : LookupFault) → MayFail b fault → MayFail (λ own. a own ⊎ b own) fault
of_second a b = widened b (λ own. a own ⊎ b own) (λ own x. inr x)

either : (may asks : Type 0) → may ⊎ (asks × ⊥) → may
either may asks (inl is) = is
either may asks (inr (asked, never)) = absurd never

-- What never fails is no reason.
pub of_look_ups : (may : LookupFault → Type 0) (asks : Type 0) (message : List ℕ) (result : Result (Vec ℕ Global) LookupRefusal)
    → IfErr result (MayRefuse (λ fault. may fault ⊎ (asks × ⊥)) message) → IfErr result (MayRefuse may message)
of_look_ups may asks message (Ok reply) is = tt
of_look_ups may asks message (Err Unreadable) is = is
of_look_ups may asks message (Err (Fault fault)) is = (is.0, widened (λ own. may own ⊎ (asks × ⊥)) may (λ own x. either (may own) asks x) fault is.1)
