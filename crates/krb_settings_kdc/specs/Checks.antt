-- What is said of a settings file.
use Rattle.std.specs.Prelude.{ℕ, List}
use Rattle.krb_memory_realms.specs.Realm.{RealmState}
use Rattle.krb_settings_kdc.specs.Files.{IsRealmFile}
use Rattle.krb_settings_kdc.specs.declared.check.FileCheck.{FileCheck}
use Rattle.krb_settings_kdc.specs.declared.check.FileCheck.TheVariants.{Realm, Fault}

-- A file is passed if and only if it writes a realm. Test: `files.txt`.
abbrev pub IsChecked : List ℕ → FileCheck → Type 0
IsChecked text (Realm _) = (realm : RealmState) × IsRealmFile text realm
IsChecked text (Fault _) = (realm : RealmState) → ¬ IsRealmFile text realm
