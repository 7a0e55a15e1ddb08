-- What a realm in memory answers is the KDC's answer from its accounts.
use Rattle.std.proofs.Common.{◌≡◌, ℕ, Option, Result, Err, ap, sym, subst, ◌∙◌}
use Rattle.std.specs.Prelude.{Vec}
use Rattle.std.specs.Global.{Global}
use Rattle.x509_keys.specs.KeyFunctions.{KeysRecord}
use Rattle.krb_realm_accounts.specs.Accounts.{Look, look_in}
use Rattle.krb_realm_accounts.specs.Settings.{SettingsRecord}
use Rattle.krb_frames.specs.declared.fault.AnswerRefusal.{AnswerRefusal}
use Rattle.krb_frames.specs.declared.fault.AnswerRefusal.TheVariants.{Memory}
use Rattle.krb_kdc.specs.Answers.{IsAnswerBy, MayRefuse, refusal_of}
use Rattle.krb_kdc.specs.Begins.{BeginsRequest}
use Rattle.krb_kdc.specs.Failing.{FailsFor}
use Rattle.krb_kdc.specs.declared.fault.LookupFault.{LookupFault}
use Rattle.krb_kdc.specs.declared.fault.LookupFault.TheVariants as fault
use Rattle.krb_kdc.specs.declared.fault.LookupRefusal.{LookupRefusal}
use Rattle.krb_kdc.specs.declared.fault.LookupRefusal.TheVariants.{Unreadable, Fault}
use Rattle.krb_kdc_exchanges.specs.Call.{CallRecord}
use Rattle.krb_time.specs.Units.{Micros}
use Rattle.krb_messages.specs.RandomBytes.{Random}
use Rattle.picky_asn1.specs.Bytes.{Bytes}
use Rattle.krb_kdc_exchanges.specs.Rows.{PkinitRows}
use Rattle.krb_kdc_exchanges.specs.Replies.{Replies}
use Rattle.pkinit_validation.specs.PkinitRows.{pkinit_rows}
use Rattle.pkinit_validation.specs.Trust.{TrustRecord}
use Rattle.krb_memory_realms.specs.Answers.{IsAnswer}
use Rattle.krb_memory_realms.specs.Realm.{RealmState, call_to}

-- by what the realm trusts, and by its key functions
pub same_rows : {K : Type 0} (functions : K → KeysRecord) {own wanted : TrustRecord} {keys given : K} → own ≡ wanted → keys ≡ given
    → pkinit_rows own (functions keys) ≡ pkinit_rows wanted (functions given)
same_rows functions trust keys i = pkinit_rows (trust i) (functions (keys i))

-- by its name, limits and accounts
abbrev call_by : RealmState → SettingsRecord → Micros → Random → CallRecord
call_by own limits moment words = record { realm = own.name; settings = limits; look = look_in own.accounts; moment = moment; words = words }

pub of_own : (own realm : RealmState) (limits : SettingsRecord) (moment : Micros) (words : Random) (rows wanted : PkinitRows) (message : Bytes) (result : Result (Vec ℕ Global) LookupRefusal)
    → own ≡ realm → limits ≡ own.settings → rows ≡ wanted → IsAnswerBy (Replies (call_by own limits moment words) rows message) result
    → IsAnswerBy (Replies (call_to realm moment words) wanted message) result
of_own own realm limits moment words rows wanted message result same is same_rows answer =
    let same_call : call_by own limits moment words ≡ call_to realm moment words = ap (λ l. call_by own l moment words) is ∙ ap (λ r. call_to r moment words) same in
    subst (λ r. IsAnswerBy (Replies (call_to realm moment words) r message) result) same_rows (subst (λ call. IsAnswerBy (Replies call rows message) result) same_call answer)

-- why it gives no reply: its accounts can always be read
never : (holds : Look → Type 0) (realm message : Bytes) (own : LookupFault) → FailsFor holds (λ name given. ⊥) realm message own → ⊥
never holds realm message own (name, involved, fails) = fails

module _ (replies : Option Bytes → Type 0) (holds : Look → Type 0) (realm message : Bytes) where
  refused_by : (refusal : LookupRefusal) → IsAnswerBy replies (Err refusal) → MayRefuse (FailsFor holds (λ name given. ⊥) realm message) message refusal
      → IsAnswer replies (Err (refusal_of refusal))
  refused_by Unreadable is may = is
  refused_by (Fault fault.Memory) is may = tt
  refused_by (Fault (fault.Failed kind)) is may = absurd (never holds realm message (fault.Failed kind) may.1)
  refused_by (Fault fault.Damaged) is may = absurd (never holds realm message fault.Damaged may.1)

  pub refused : (refusal : LookupRefusal) (given : AnswerRefusal) → given ≡ refusal_of refusal → IsAnswerBy replies (Err refusal)
      → MayRefuse (FailsFor holds (λ name given. ⊥) realm message) message refusal → IsAnswer replies (Err given)
  refused refusal given same is may = subst (λ g. IsAnswer replies (Err g)) (sym same) (refused_by refusal is may)

pub begins : (holds : Look → Type 0) (realm message : Bytes) (refusal : LookupRefusal) (given : AnswerRefusal) → given ≡ refusal_of refusal
    → MayRefuse (FailsFor holds (λ name given. ⊥) realm message) message refusal → given ≡ Memory → BeginsRequest message
begins holds realm message Unreadable given same refuses memory = absurd (cc (same, memory))
begins holds realm message (Fault fault) given same refuses memory = refuses.0
