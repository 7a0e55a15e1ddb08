-- How a run ends whose file is no realm's, or whose serving is refused.
use Rattle.std.proofs.Common.{◌≡◌, ℕ, List, Result, Ok, Err, IsErrAnd, inl, inr, ap, refl, subst, sym}
use Rattle.std.specs.Prelude.{IfErr}
use Rattle.krb_time.specs.Units.{Micros}
use Rattle.krb_frames.specs.declared.fault.ServeFault.{ServeFault}
use Rattle.krb_frames.specs.declared.fault.ServeFault.TheVariants as serve_fault
use Rattle.x509_keys.specs.KeyFunctions.{no_functions}
use Rattle.krb_kdc.specs.Begins.{BeginsRequest}
use Rattle.krb_memory_realms.specs.Answers.{RealmReplies}
use Rattle.krb_memory_realms.specs.Realm.{RealmState}
use Rattle.krb_frames.specs.Devices.{Devices, ServesAt}
use Rattle.krb_settings_kdc.specs.declared.stop.Stop.{Stop}
use Rattle.krb_settings_kdc.specs.declared.stop.Stop.TheVariants.{BadArguments, BadSettings, Fault}
use Rattle.krb_settings_kdc.specs.Files.{HasFault, IsRealmFile}
use Rattle.krb_settings_kdc.specs.Stops.{status_of, stop_of_realm}
use Rattle.krb_settings_kdc.specs.Runs.{IsEnd}
use Rattle.krb_settings_kdc.specs.declared.fault.RealmFault.{RealmFault}
use Rattle.krb_settings_kdc.specs.declared.fault.RealmFault.TheVariants as realm_fault
use Rattle.krb_settings_kdc.proofs.SoleRealm.{no_realm_with_fault}

-- what the exit of a `?` returns
exit_of : (result : Result ℕ Stop) (fault : ServeFault) → IsErrAnd result (λ stop. stop ≡ Fault fault) → result ≡ Err (Fault fault)
exit_of (Ok count) fault is = absurd is
exit_of (Err stop) fault is = ap Err is

-- serving ended so
abbrev Failed : ServeFault → Result ℕ ServeFault
Failed fault = Err fault

module _ (Untouched : Type 0) (text : List ℕ) (moment : Micros) (old new : Devices) where
  pub file_stopped : (fault : RealmFault) → Untouched → HasFault text fault → IsEnd Untouched text moment old new (Err (stop_of_realm fault))
  file_stopped realm_fault.Memory kept has = inl kept
  file_stopped (realm_fault.File e) kept has = (kept, λ realm. no_realm_with_fault text (realm_fault.File e) realm has (λ is. (cc)))
  file_stopped (realm_fault.Realm e) kept has = (kept, λ realm. no_realm_with_fault text (realm_fault.Realm e) realm has (λ is. (cc)))
  file_stopped (realm_fault.Account n e) kept has = (kept, λ realm. no_realm_with_fault text (realm_fault.Account n e) realm has (λ is. (cc)))

  pub serving_stopped : (realm : RealmState) → IsRealmFile text realm → (fault : ServeFault)
      → ServesAt (RealmReplies realm no_functions) BeginsRequest moment old new (Err fault) → (Failed fault ≡ Failed serve_fault.Accounts → ⊥)
      → IsEnd Untouched text moment old new (Err (Fault fault))
  serving_stopped realm file serve_fault.Memory served read = inr (realm, file, served)
  serving_stopped realm file serve_fault.Truncated served read = (realm, file, served)
  serving_stopped realm file serve_fault.FrameTooLong served read = (realm, file, served)
  serving_stopped realm file serve_fault.NoRequest served read = (realm, file, served)
  serving_stopped realm file serve_fault.Read served read = (realm, file, served)
  serving_stopped realm file serve_fault.Write served read = (realm, file, served)
  serving_stopped realm file serve_fault.NoWords served read = (realm, file, served)
  serving_stopped realm file serve_fault.NoMoment served read = (realm, file, served)
  serving_stopped realm file serve_fault.ReplyTooLong served read = (realm, file, served)
  serving_stopped realm file serve_fault.Accounts served read = absurd (read refl)

  pub exit_stopped : (realm : RealmState) → IsRealmFile text realm → (fault : ServeFault) (result : Result ℕ Stop)
      → IsErrAnd result (λ stop. stop ≡ Fault fault)
      → ServesAt (RealmReplies realm no_functions) BeginsRequest moment old new (Err fault) → (Failed fault ≡ Failed serve_fault.Accounts → ⊥)
      → IsEnd Untouched text moment old new result
  exit_stopped realm file fault result is served read =
      subst (IsEnd Untouched text moment old new) (sym (exit_of result fault is)) (serving_stopped realm file fault served read)

  -- where the arguments or the file are refused, what stays as it was without a run stays so
  pub kept_if_refused : (Kept : Type 0) → (Untouched → Kept) → (result : Result ℕ Stop) → IsEnd Untouched text moment old new result
      → IfErr result (λ stop. status_of stop ≡ 1 → Kept)
  kept_if_refused Kept keeps (Ok count) ended = tt
  kept_if_refused Kept keeps (Err BadArguments) ended = absurd ended
  kept_if_refused Kept keeps (Err BadSettings) ended = λ one. keeps ended.0
  kept_if_refused Kept keeps (Err (Fault fault)) ended = λ one. (cc)

-- what is kept is so after any exit
pub kept_at_exit : (Kept : Type 0) → Kept → (result : Result ℕ Stop) → IfErr result (λ stop. status_of stop ≡ 1 → Kept)
kept_at_exit Kept kept (Ok count) = tt
kept_at_exit Kept kept (Err stop) = λ one. kept
