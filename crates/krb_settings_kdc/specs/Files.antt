-- The realm of a settings file.
use Rattle.std.specs.Prelude.{◌≡◌, ◌⊎◌, ℕ, List, Ok, Err}
use Rattle.krb_memory_realms.specs.Realm.{RealmState}
use Rattle.krb_settings.specs.Files.{IsRealmText}
use Rattle.krb_settings.specs.Files as file
use Rattle.krb_settings.specs.Written.{WrittenRealm}
use Rattle.krb_settings.specs.declared.fault.SettingsFault.{SettingsFault}
use Rattle.krb_settings.specs.declared.fault.SettingsFault.TheVariants as settings_fault
use Rattle.krb_settings_kdc.specs.Realms.{realm_of_settings}
use Rattle.krb_settings_kdc.specs.declared.fault.RealmFault.{RealmFault}
use Rattle.krb_settings_kdc.specs.declared.fault.RealmFault.TheVariants.{File, Memory}

-- The bytes write this realm: its name, key and settings, and its accounts in the order of the file. Test: `settings.txt`.
abbrev pub IsRealmFile : List ℕ → RealmState → Type 0
IsRealmFile text realm = (written : WrittenRealm) × IsRealmText text written × (realm_of_settings written ≡ Ok realm)

-- the bytes have this fault. Running out of memory says nothing of them
abbrev pub HasFault : List ℕ → RealmFault → Type 0
HasFault text fault = (fault ≡ Memory)
    ⊎ ((e : SettingsFault) × (fault ≡ File e) × ¬ (e ≡ settings_fault.Memory) × file.HasFault text e)
    ⊎ ((written : WrittenRealm) × IsRealmText text written × (realm_of_settings written ≡ Err fault))
