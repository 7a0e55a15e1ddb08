-- How a run of krb_realm with settings ends.
use Rattle.std.specs.Prelude.{◌⊎◌, ℕ, List, Result, Ok, Err}
use Rattle.krb_time.specs.Units.{Micros}
use Rattle.krb_frames.specs.declared.fault.ServeFault.{ServeFault}
use Rattle.krb_frames.specs.declared.fault.ServeFault.TheVariants as serve_fault
use Rattle.x509_keys.specs.KeyFunctions.{no_functions}
use Rattle.krb_kdc.specs.Begins.{BeginsRequest}
use Rattle.krb_memory_realms.specs.Answers.{RealmReplies}
use Rattle.krb_memory_realms.specs.Realm.{RealmState}
use Rattle.krb_frames.specs.Devices.{Devices, ServesAt}
use Rattle.krb_settings_kdc.specs.declared.stop.Stop.{Stop}
use Rattle.krb_settings_kdc.specs.declared.stop.Stop.TheVariants.{BadArguments, BadSettings, Fault}
use Rattle.krb_settings_kdc.specs.Files.{IsRealmFile}

-- the file writes a realm, and the stream is served as that realm's without key functions, which may want memory for what begins as a
-- request
abbrev pub ServesFile : List ℕ → Micros → Devices → Devices → Result ℕ ServeFault → Type 0
ServesFile text moment old new served = (realm : RealmState) × IsRealmFile text realm
    × ServesAt (RealmReplies realm no_functions) BeginsRequest moment old new served

-- `Untouched`: no device was read from or written to. This holds if a file writes no realm, and may hold if memory ran out. The accounts
-- of a file's realm are in memory, so they can always be read
abbrev pub IsEnd : Type 0 → List ℕ → Micros → Devices → Devices → Result ℕ Stop → Type 0
IsEnd Untouched text moment old new (Ok count) = ServesFile text moment old new (Ok count)
IsEnd Untouched text moment old new (Err BadArguments) = ⊥
IsEnd Untouched text moment old new (Err BadSettings) = Untouched × ((realm : RealmState) → ¬ IsRealmFile text realm)
IsEnd Untouched text moment old new (Err (Fault serve_fault.Memory)) = Untouched ⊎ ServesFile text moment old new (Err serve_fault.Memory)
IsEnd Untouched text moment old new (Err (Fault serve_fault.Accounts)) = ⊥
IsEnd Untouched text moment old new (Err (Fault fault)) = ServesFile text moment old new (Err fault)
