-- Why the realm of a file gives no reply to a message.
use Rattle.std.proofs.Common.{◌≡◌, ◌⊎◌, ℕ, List, Option, Some, Result, Ok, Err, IfErr, inl, inr, sym, subst}
use Rattle.std.specs.Prelude.{Vec}
use Rattle.std.specs.Global.{Global}
use Rattle.std.specs.Result.{IsErrAnd}
use Rattle.std.specs.declared.io.ErrorKind.{ErrorKind}
use Rattle.krb_frames.specs.declared.fault.AnswerRefusal.{AnswerRefusal}
use Rattle.krb_frames.specs.declared.fault.AnswerRefusal.TheVariants.{Accounts}
use Rattle.krb_kdc.specs.Answers.{MayRefuse, refusal_of}
use Rattle.krb_kdc.specs.Begins.{BeginsRequest}
use Rattle.krb_kdc.specs.Failing.{FailsFor}
use Rattle.krb_kdc.specs.Faults.{MayFail}
use Rattle.krb_kdc.specs.Sources.{AsksByCertificate}
use Rattle.krb_kdc.specs.declared.fault.LookupFault.{LookupFault}
use Rattle.krb_kdc.specs.declared.fault.LookupFault.TheVariants as lookup
use Rattle.krb_kdc.specs.declared.fault.LookupRefusal.{LookupRefusal}
use Rattle.krb_kdc.specs.declared.fault.LookupRefusal.TheVariants.{Unreadable, Fault}
use Rattle.krb_realm_files.specs.Files.{FailsAccount, FailsRealm, Holds, realm_said}
use Rattle.krb_realm_files.specs.Lacks.{FailsMeans, FailsReply}
use Rattle.krb_realm_files.specs.Replies.{MayLack}
use Rattle.krb_realm_files.specs.declared.realm_parameters.RealmParameters.{RealmParameters}

module _ (content : Option (List ℕ)) (fails : ErrorKind → Type 0) (message : List ℕ) where
  -- the realm's record
  of_record : (fault : LookupFault) → MayFail (FailsRealm content fails) fault → MayFail (FailsReply content fails message) fault
  of_record (lookup.Failed kind) may = may
  of_record lookup.Damaged may = λ bytes known. inl (may bytes known)
  of_record lookup.Memory may = tt

  pub no_record : (fault : LookupFault) (result : Result (Vec ℕ Global) LookupRefusal) → IsErrAnd result (λ refusal. refusal ≡ Fault fault) → BeginsRequest message
      → MayFail (FailsRealm content fails) fault → IfErr result (MayRefuse (FailsReply content fails message) message)
  no_record fault (Ok reply) is begins may = tt
  no_record fault (Err refusal) is begins may = subst (MayRefuse (FailsReply content fails message) message) (sym is) (begins, of_record fault may)

  -- an account, or what judges a request by certificate
  module _ (realm : RealmParameters) (said : (bytes : List ℕ) → content ≡ Some bytes → realm_said bytes ≡ Ok realm) where
    abbrev within : LookupFault → Type 0
    within fault = FailsFor (Holds content) (FailsAccount content fails) realm.name message fault ⊎ (AsksByCertificate message × FailsMeans realm.pkinit fault)

    of_reply : (fault : LookupFault) → MayFail within fault → MayFail (FailsReply content fails message) fault
    of_reply (lookup.Failed kind) (inl (name, involved, x)) = x
    of_reply (lookup.Failed kind) (inr (asks, (is, without))) = absurd (cc (is))
    of_reply lookup.Damaged (inl (name, involved, x)) =
        λ bytes known. inr (realm, said bytes known, inl (name, (λ all looks. involved all (bytes, known, looks)), x bytes known))
    of_reply lookup.Damaged (inr (asks, (is, without))) = λ bytes known. inr (realm, said bytes known, inr (asks, without))
    of_reply lookup.Memory may = tt

    pub no_reply : (result : Result (Vec ℕ Global) LookupRefusal) → IfErr result (MayRefuse within message) → IfErr result (MayRefuse (FailsReply content fails message) message)
    no_reply (Ok reply) may = tt
    no_reply (Err Unreadable) may = may
    no_reply (Err (Fault fault)) may = (may.0, of_reply fault may.1)

-- The accounts can't be read, where a file was opened.
pub lacking : {F : Type 0} (opens : F → Type 0) (open_fails : ErrorKind → Type 0) (content : F → Option (List ℕ)) (fails : F → ErrorKind → Type 0) (file : F) (message : List ℕ)
    (refusal : LookupRefusal) (given : AnswerRefusal) → opens file → given ≡ refusal_of refusal → MayRefuse (FailsReply (content file) (fails file) message) message refusal
    → given ≡ Accounts → MayLack opens open_fails content fails message
lacking opens open_fails content fails file message Unreadable given opened same may e = absurd (cc (same, e))
lacking opens open_fails content fails file message (Fault lookup.Memory) given opened same may e = absurd (cc (same, e))
lacking opens open_fails content fails file message (Fault (lookup.Failed kind)) given opened same may e = inr (file, opened, λ bytes known. inl (kind, may.1 bytes known))
lacking opens open_fails content fails file message (Fault lookup.Damaged) given opened same may e = inr (file, opened, λ bytes known. inr (may.1 bytes known))
