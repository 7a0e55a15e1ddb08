-- What a file says of its realm and its accounts.
use Rattle.std.proofs.Common.{◌≡◌, ℕ, List, Option, None, Some, Result, Ok, Err, IfOk, IfErr, true, false, refl, sym, ap, subst, ◌∙◌}
use Rattle.std.specs.declared.io.ErrorKind.{ErrorKind}
use Rattle.krb_realm_accounts.specs.Account.{AccountRecord}
use Rattle.krb_realm_accounts.specs.Accounts.{Look}
use Rattle.krb_realm_accounts.specs.Packed.{fit, packed}
use Rattle.cdb.specs.Find.{GivesData, looked_up}
use Rattle.cdb.specs.Reading.{Fails}
use Rattle.cdb.specs.declared.fault.Fault.{Fault}
use Rattle.cdb.specs.declared.fault.Fault.TheVariants as database
use Rattle.krb_kdc.specs.Faults.{MayFail}
use Rattle.krb_kdc.specs.declared.fault.LookupFault.{LookupFault}
use Rattle.krb_kdc.specs.declared.fault.LookupFault.TheVariants as lookup
use Rattle.krb_realm_files.specs.declared.format.TheConstants.{RECORD_ROOM}
use Rattle.krb_realm_files.specs.Files.{FailsAccount, FailsRealm, IsLookOf, account_found, account_front, account_said, fault_of, look_of, or_none, realm_found, realm_front, realm_key, realm_said}
use Rattle.krb_realm_files.specs.Reading.{IsSaid}
use Rattle.krb_realm_files.specs.declared.realm_parameters.RealmParameters.{RealmParameters}

-- A call that reads memory alone fails by no kind of fault.
pub of_memory : {X : Type 0} (fails : ErrorKind → Type 0) (said : Result X LookupFault) (result : Result X LookupFault) → IsSaid (λ _. ⊥) said result → IsSaid fails said result
of_memory fails said (Ok x) is = is
of_memory fails said (Err (lookup.Failed kind)) is = absurd is
of_memory fails said (Err lookup.Damaged) is = is
of_memory fails said (Err lookup.Memory) is = tt

-- A fault of the database.
pub refused : {X : Type 0} (fails : ErrorKind → Type 0) (found : Result (Option (List ℕ)) Fault → Result X LookupFault) → ((fault : Fault) → found (Err fault) ≡ Err (fault_of fault))
    → (fault : Fault) (own : LookupFault) (said : Result (Option (List ℕ)) Fault) → own ≡ fault_of fault → Fails fails fault said → IsSaid fails (found said) (Err own)
refused fails found errs (database.Failed kind) own said is x = subst (λ (o : LookupFault). IsSaid fails (found said) (Err o)) (sym is) x
refused fails found errs database.Damaged own said is x =
    subst (λ (o : LookupFault). IsSaid fails (found said) (Err o)) (sym is) (ap found x ∙ errs database.Damaged)
refused fails found errs database.Long own said is x =
    subst (λ (o : LookupFault). IsSaid fails (found said) (Err o)) (sym is) (ap found x ∙ errs database.Long)

pub account_refused : (fails : ErrorKind → Type 0) (fault : Fault) (own : LookupFault) (said : Result (Option (List ℕ)) Fault) → own ≡ fault_of fault → Fails fails fault said
    → IsSaid fails (account_found said) (Err own)
account_refused fails = refused fails account_found (λ fault. refl)

pub realm_refused : (fails : ErrorKind → Type 0) (fault : Fault) (own : LookupFault) (said : Result (Option (List ℕ)) Fault) → own ≡ fault_of fault → Fails fails fault said
    → IsSaid fails (realm_found said) (Err own)
realm_refused fails = refused fails realm_found (λ fault. refl)

-- The record at the front of a buffer is the one that was found.
pub account_at_front : (fails : ErrorKind → Type 0) (found : Option ℕ) (buffer : List ℕ) (said : Result (Option (List ℕ)) Fault) → GivesData fails (Ok found) buffer said
    → account_front buffer found ≡ account_found said
account_at_front fails None buffer said is = sym (ap account_found is)
account_at_front fails (Some n) buffer said is = sym (ap account_found is)

pub realm_at_front : (fails : ErrorKind → Type 0) (found : Option ℕ) (buffer : List ℕ) (said : Result (Option (List ℕ)) Fault) → GivesData fails (Ok found) buffer said
    → realm_front buffer found ≡ realm_found said
realm_at_front fails None buffer said is = sym (ap realm_found is)
realm_at_front fails (Some n) buffer said is = sym (ap realm_found is)

-- What a call returned of the realm's key.
pub realm_is : (fails : ErrorKind → Type 0) (bytes : List ℕ) (result : Result RealmParameters LookupFault) → IsSaid fails (realm_found (looked_up RECORD_ROOM bytes realm_key)) result
    → IsSaid fails (realm_said bytes) result
unfolding realm_said
realm_is fails bytes result is = is

-- The fault of a call that reads the realm's record.
pub realm_fault : (fails : ErrorKind → Type 0) (content : Option (List ℕ)) (result : Result RealmParameters LookupFault)
    → ((bytes : List ℕ) → content ≡ Some bytes → IsSaid fails (realm_said bytes) result) → IfErr result (MayFail (FailsRealm content fails))
realm_fault fails content (Ok realm) said = tt
realm_fault fails content (Err (lookup.Failed kind)) said = said
realm_fault fails content (Err lookup.Damaged) said = said
realm_fault fails content (Err lookup.Memory) said = tt

-- What a call returned of a value, it returned of an equal one.
pub said_as : {X : Type 0} (fails : ErrorKind → Type 0) (x y : Result X LookupFault) (result : Result X LookupFault) → x ≡ y → IsSaid fails x result → IsSaid fails y result
said_as fails x y result same is = subst (λ said. IsSaid fails said result) same is

-- A name that no principal has, and one that a principal may have.
pub unfit : (bytes : List ℕ) (name : List (List ℕ)) → fit name ≡ false → account_said bytes name ≡ Ok None
unfolding account_said
unfit bytes name long = rw long refl

pub fitting : (bytes : List ℕ) (name : List (List ℕ)) → fit name ≡ true → account_found (looked_up RECORD_ROOM bytes (packed name)) ≡ account_said bytes name
unfolding account_said
fitting bytes name short = rw short refl

-- The account that a look-up returned, and its fault.
pub held_account : (fails : ErrorKind → Type 0) (bytes : List ℕ) (all : Look) (name : List (List ℕ)) (result : Result (Option AccountRecord) LookupFault) → IsLookOf bytes all
    → IsSaid fails (account_said bytes name) result → IfOk result (λ account. account ≡ all name)
held_account fails bytes all name (Ok account) looks said = sym (looks name account said)
held_account fails bytes all name (Err fault) looks said = tt

pub held_fault : (fails : ErrorKind → Type 0) (content : Option (List ℕ)) (name : List (List ℕ)) (result : Result (Option AccountRecord) LookupFault)
    → ((bytes : List ℕ) → content ≡ Some bytes → IsSaid fails (account_said bytes name) result) → IfErr result (MayFail (FailsAccount content fails name))
held_fault fails content name (Ok account) said = tt
held_fault fails content name (Err (lookup.Failed kind)) said = said
held_fault fails content name (Err lookup.Damaged) said = said
held_fault fails content name (Err lookup.Memory) said = tt

-- The accounts that the octets say, with none where they are damaged, are some that the file may have.
pub has_look : (bytes : List ℕ) → IsLookOf bytes (look_of bytes)
unfolding look_of
has_look bytes name account said = ap or_none said
