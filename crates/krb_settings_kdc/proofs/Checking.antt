-- A settings file that has a fault writes no realm.
use Rattle.std.proofs.Common.{◌≡◌, ◌≢◌, ◌⊎◌, List, ℕ, Result, Ok, Err, ap, sym, ◌∙◌}
use Rattle.std.specs.Prelude.{MatchOption}
use Rattle.std.specs.Result.{result_err}
use Rattle.krb_memory_realms.specs.Realm.{RealmState}
use Rattle.krb_settings.proofs.Files as file
use Rattle.krb_settings.specs.Files.{HasFault, IsRealmText}
use Rattle.krb_settings.specs.Steps.{IsAside}
use Rattle.krb_settings.specs.Written.{WrittenRealm}
use Rattle.krb_settings.specs.declared.fault.SettingsFault.{SettingsFault}
use Rattle.krb_settings.specs.declared.fault.SettingsFault.TheVariants as settings_fault
use Rattle.krb_settings_kdc.specs.Files.{IsRealmFile}
use Rattle.krb_settings_kdc.specs.Realms.{realm_of_settings}
use Rattle.krb_settings_kdc.specs.declared.fault.RealmFault.{RealmFault}
use Rattle.krb_settings_kdc.specs.declared.fault.RealmFault.TheVariants as realm_fault

pub no_realm_unread : (text : List ℕ) (fault : SettingsFault) → HasFault text fault → fault ≢ settings_fault.Memory
    → (realm : RealmState) → ¬ IsRealmFile text realm
no_realm_unread text fault has known realm (written, is, made) = file.no_realm_with_fault text fault written has known is

pub no_realm_refused : (text : List ℕ) (written : WrittenRealm) (fault : RealmFault) → IsRealmText text written → realm_of_settings written ≡ Err fault
    → (realm : RealmState) → ¬ IsRealmFile text realm
no_realm_refused text written fault is refused realm (other, q, given) =
    let same : written ≡ other = file.one_realm text written other is q in
    let clash : ◌≡◌ {A = Result RealmState RealmFault} (Err fault) (Ok realm) = sym refused ∙ ap realm_of_settings same ∙ given in
    cc

-- a realm, or the fault for which there is none
pub fault_kept : (wanted answer : Result RealmState RealmFault) → IsAside realm_fault.Memory (λ realm. realm) wanted answer
    → MatchOption (result_err answer) ((realm : RealmState) × (wanted ≡ Ok realm)) (λ fault. (fault ≡ realm_fault.Memory) ⊎ (wanted ≡ Err fault))
fault_kept wanted (Ok realm) is = (realm, is)
fault_kept wanted (Err fault) is = is
